-- What is said of lines that wait in one state of tracing is said in each with the same patches, links and lines.
use Rattle.std.proofs.Common.{◌≡◌, ℕ, List, map, refl, subst, sym, ap, ◌∙◌}
use Rattle.std.specs.Prelude.{◌↔◌}
use Rattle.patch_sets.specs.Ends.{IsDifference}
use Rattle.patch_sets.specs.Sets.{IsSubset}
use Rattle.crash_model.specs.ChosenWaits.{emitted_waiting, tracing_waiting, demands_waiting}
use Rattle.crash_model.specs.Checker.{Demands, IsFailingUnder}
use Rattle.crash_model.specs.Disk.{Disk}
use Rattle.crash_model.specs.Trace.{Emitted}
use Rattle.crash_model.specs.Tracing.{Tracing}
use Rattle.crash_model.specs.Waiting.{Wait}
use Rattle.crash_model.specs.declared.rules.Rule.{Rule}
use Rattle.question_model.specs.EnoughLines.{all_waits, AreEnoughLines, IsMinimalLines, IsNeededLines}
use Rattle.enough_deciding.specs.Lines.{HasWaits, waits_of}
use Rattle.enough_deciding.specs.Rules.{IsTracingOf}
use Rattle.enough_deciding.proofs.Tracings.{same_graph}
use Rattle.traced_patches.specs.Traced.{TracedPatches}

pub one_waiting : (base : Disk) (t : TracedPatches) → HasWaits t (waits_of base t)
one_waiting base t = record { traced = record { emitted = refl; links = refl; whole = refl }; waits = refl }

module _ (demands : Demands) (base : Disk) (t : TracedPatches) (rules : List Rule) where
  abbrev waited : ℕ → TracedPatches
  waited lines = record t { emitted = map (emitted_waiting t.waits lines) t.emitted }

  of_waited : (s : Tracing) (lines : ℕ) → HasWaits t s → IsTracingOf (waited lines) (tracing_waiting lines s)
  of_waited s lines of_s = record {
    emitted = ap (λ (ws : List Wait). map (emitted_waiting ws lines) s.emitted) of_s.waits
        ∙ ap (λ (es : List Emitted). map (emitted_waiting t.waits lines) es) of_s.traced.emitted;
    links = of_s.traced.links;
    whole = of_s.traced.whole;
  }

  module _ (s other : Tracing) (of_s : HasWaits t s) (of_other : HasWaits t other) where
    same_waits : s.waits ≡ other.waits
    same_waits = of_s.waits ∙ sym of_other.waits

    same_lines : (lines : ℕ) → AreEnoughLines demands base rules s lines → AreEnoughLines demands base rules other lines
    same_lines lines enough = (
      enough.0,
      same_graph demands base (waited lines) (tracing_waiting lines s) (tracing_waiting lines other) rules enough.0
          (of_waited s lines of_s) (of_waited other lines of_other) enough.1,
      λ set failing. enough.2 set (subst (λ (ws : List Wait).
          IsFailingUnder (demands_waiting ws lines demands) base enough.0 set) (sym same_waits) failing),
    )

  module _ (s other : Tracing) (of_s : HasWaits t s) (of_other : HasWaits t other) where
    minimal_to : (lines : ℕ) → IsMinimalLines demands base rules s lines → IsMinimalLines demands base rules other lines
    minimal_to lines is = record {
      places = subst (λ (ws : List Wait). IsSubset lines (all_waits ws)) (same_waits s other of_s of_other) is.places;
      enough = same_lines s other of_s of_other lines is.enough;
      minimal = λ part inside less enough. is.minimal part inside less (same_lines other s of_other of_s part enough);
    }

    needed_to : (group : ℕ) → IsNeededLines demands base rules s group → IsNeededLines demands base rules other group
    needed_to group is =
        let back = same_waits other s of_other of_s in
        record {
          places = subst (λ (ws : List Wait). IsSubset group (all_waits ws))
              (same_waits s other of_s of_other) is.places;
          some = is.some;
          needed = λ rest apart enough. is.needed rest
              (subst (λ (ws : List Wait). IsDifference (all_waits ws) group rest) back apart)
              (same_lines other s of_other of_s rest enough);
          minimal =
              λ part rest inside less apart. same_lines s other of_s of_other rest (is.minimal part rest inside less
              (subst (λ (ws : List Wait). IsDifference (all_waits ws) part rest) back apart));
        }

  module _ (s other : Tracing) (of_s : HasWaits t s) (of_other : HasWaits t other) where
    pub minimal_in_each : (lines : ℕ)
        → IsMinimalLines demands base rules s lines ↔ IsMinimalLines demands base rules other lines
    minimal_in_each lines = (minimal_to s other of_s of_other lines, minimal_to other s of_other of_s lines)

    pub needed_in_each : (group : ℕ)
        → IsNeededLines demands base rules s group ↔ IsNeededLines demands base rules other group
    needed_in_each group = (needed_to s other of_s of_other group, needed_to other s of_other of_s group)
