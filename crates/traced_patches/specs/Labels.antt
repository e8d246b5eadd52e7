-- What a patch is of its operation, as the tracer keeps it.
use Rattle.std.specs.Prelude.{ℕ, List, [], ◌∷◌, map, Option, Some, None, option_map}
use Rattle.std.specs.Borrow.{Bor}
use Rattle.crash_model.specs.Patches.{Place, place}
use Rattle.crash_model.specs.Trace as trace
use Rattle.crash_model.specs.Waiting as waiting
use Rattle.crash_model.specs.Trace.{Emitted, origin_at}
use Rattle.traced_patches.specs.declared.labels.Origin.{Origin}
use Rattle.traced_patches.specs.declared.labels.Label.{Label}
use Rattle.traced_patches.specs.declared.labels.Link.{Link}
use Rattle.traced_patches.specs.declared.labels.Wait.{Wait}

abbrev pub group_by : Option (Bor (List ℕ)) → Option (List ℕ)
group_by group = option_map (λ name. name.now) group

abbrev pub origin_by : Origin → trace.Origin
origin_by origin = origin_at origin.line origin.op.now (group_by origin.group) origin.waits_for

-- a patch at a place, with its label
abbrev pub emitted_at : Place → Label → Emitted
emitted_at at label =
    record { place = at; part = label.part; op_number = label.op_number; origin = origin_by label.origin }

-- the same, of which only the label matters
abbrev pub emitted_of : Label → Emitted
emitted_of label = emitted_at (place 0 0 []) label

abbrev pub emitted_by : List Place → List Label → List Emitted
emitted_by [] labels = []
emitted_by (p ∷ ps) [] = []
emitted_by (p ∷ ps) (l ∷ ls) = emitted_at p l ∷ emitted_by ps ls

abbrev pub wait_by : Wait → waiting.Wait
wait_by wait = record { line = wait.step.now.line; act = wait.step.now.act; ids = wait.ids }

abbrev pub waits_by : List Wait → List waiting.Wait
waits_by waits = map wait_by waits

-- where there may be none
abbrev pub waits_if : Option (List Wait) → List waiting.Wait
waits_if None = []
waits_if (Some waits) = waits_by waits

abbrev pub links_by : List Link → List (List ℕ × List ℕ)
links_by links = map (λ link. (link.later.now, link.earlier.now)) links
