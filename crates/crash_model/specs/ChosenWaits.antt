-- A traced script, if of its lines that wait only some do. These lines are a set: of their places among all that wait.
use Rattle.std.specs.Prelude.{ℕ, zero, suc, ◌+◌, List, [], ◌∷◌, map, Bool, true, false, ◌&&◌, nat_lt, if◌then◌else◌}
use Rattle.std.specs.Prelude.{option_map, bit_or}
use Rattle.patch_sets.specs.Sets.{has}
use Rattle.crash_model.specs.Checker.{Demands}
use Rattle.crash_model.specs.Emitted.{Emitted}
use Rattle.crash_model.specs.Promises.{Promise}
use Rattle.crash_model.specs.Tracing.{Tracing}
use Rattle.crash_model.specs.Waiting.{Wait}
use Rattle.crash_model.specs.declared.steps.Step.{Step}
use Rattle.crash_model.specs.declared.steps.Act.{Act}
use Rattle.crash_model.specs.declared.steps.Act.TheVariants.{Sync, Fsync}

-- what is forced by lines of the set that stand before a line, as a set; the first of the waits is at this place
abbrev pub forced_from : ℕ → List Wait → ℕ → ℕ → ℕ
forced_from place [] chosen line = 0
forced_from place (wait ∷ waits) chosen line =
    bit_or (if has chosen place && nat_lt wait.line line then wait.ids else 0)
    (forced_from (place + 1) waits chosen line)

unfoldable pub forced_before : List Wait → ℕ → ℕ → ℕ
forced_before waits chosen line = forced_from 0 waits chosen line

-- a patch waits for what lines of the set force before its operation's line
abbrev pub emitted_waiting : List Wait → ℕ → Emitted → Emitted
emitted_waiting waits chosen e =
    record e { origin = record e.origin { waits_for = forced_before waits chosen e.origin.line } }

-- the patches of the trace, and the rest as it is
abbrev pub tracing_waiting : ℕ → Tracing → Tracing
tracing_waiting chosen s = record s { emitted = map (emitted_waiting s.waits chosen) s.emitted }

-- a promise has the ids that lines of the set force before it; an fsync that promises stands before its own promise
abbrev pub promise_waiting : List Wait → ℕ → Promise → Promise
promise_waiting waits chosen p = record p { after = forced_before waits chosen (p.line + 1) }

abbrev pub demands_waiting : List Wait → ℕ → Demands → Demands
demands_waiting waits chosen demands =
    record demands { promises = option_map (map (promise_waiting waits chosen)) demands.promises }

-- ---- the first lines that wait

abbrev pub waits : Act → Bool
waits Sync = true
waits (Fsync _) = true
waits _ = false

-- the steps up to and with the line that waits behind this many others, or all
abbrev pub up_to_wait : ℕ → List Step → List Step
up_to_wait n [] = []
up_to_wait n (x ∷ xs) =
    x ∷ (if waits x.act then elim n [ zero ↦ [] | suc m ↦ up_to_wait m xs ] else up_to_wait n xs)
