-- What a fault of a set says about the sets of lines that are enough.
use Rattle.std.proofs.Common.{ℕ, List, length, Some, inl, inr}
use Rattle.std.specs.Prelude.{◌↔◌}
use Rattle.std.proofs.lemmas.Option.{slice_get_within}
use Rattle.patch_sets.specs.Sets.{Has}
use Rattle.hitting_sets.proofs.Within.{decide_meets}
use Rattle.crash_model.specs.ChosenWaits.{tracing_waiting, demands_waiting}
use Rattle.crash_model.specs.Checker.{Demands}
use Rattle.crash_model.specs.Disk.{Disk}
use Rattle.crash_model.specs.FirstSets.{HasFault}
use Rattle.crash_model.specs.Trace.{IsGraphOf}
use Rattle.crash_model.specs.Tracing.{Tracing}
use Rattle.crash_model.specs.declared.fault.Fault.{Fault}
use Rattle.crash_model.specs.declared.patches.Patch.{Patch}
use Rattle.crash_model.specs.declared.rules.Rule.{Rule}
use Rattle.question_model.specs.EnoughLines.{all_waits, AreEnoughLines, IsMinimalLines, IsNeededLines}
use Rattle.enough_rules.specs.Asked.{IsFound}
use Rattle.enough_rules.specs.Enough.{MoreAreEnough, IsMinimalEnough, IsNeeded}
use Rattle.chosen_rules.specs.ExcludedBy.{ExcludesFaultAt}
use Rattle.chosen_rules.proofs.Graphs.{graph_of_others}
use Rattle.chosen_rules.proofs.Oracles.{ones_below}
use Rattle.chosen_rules.proofs.Prevented.{same_waiting_places, not_excluded, fault_stays, failing_fewer}

module _ (demands : Demands) (base : Disk) (rules : List Rule) (s : Tracing) where
  pub more_lines_are_enough : MoreAreEnough (all_waits s.waits) (AreEnoughLines demands base rules s)
  more_lines_are_enough set more inside within enough =
      let wide = graph_of_others rules rules base (tracing_waiting set s) (tracing_waiting more s) enough.0
      (same_waiting_places s set more) enough.1 in (
        wide.0,
        wide.1,
        λ crash failing. enough.2 crash
            (failing_fewer rules base s set more enough.0 wide.0 crash inside enough.1 wide.1 demands failing),
      )

  -- the lines that exclude a fault that a set has
  pub lines_found : (chosen group : ℕ) (patches : List Patch) → IsGraphOf rules base (tracing_waiting chosen s) patches
      → (fault : Fault) (set : ℕ) → HasFault (demands_waiting s.waits chosen demands) base patches fault set
      → ((place : ℕ) → Has group place ↔ ExcludesFaultAt s.emitted s.waits set fault place)
      → IsFound (all_waits s.waits) (AreEnoughLines demands base rules s) chosen (Some group)
  lines_found chosen group patches graph fault set has excludes = (
    record {
      within = λ place is.
          let it = (excludes place).0 is in
          (ones_below (length s.waits) place).1 (slice_get_within s.waits place it.0 it.1);
      met = λ other within enough. elim (decide_meets other group) [
        | inl meets ↦ meets
        | inr misses ↦ absurd (enough.2 set (fault_stays demands rules base s chosen patches graph fault set has other
            enough.0 enough.1 (λ place inside out. misses (place, inside, (excludes place).1 out))).failing)
      ];
    },
    λ met. not_excluded demands rules base s chosen patches graph fault set has met.0 met.1 ((excludes met.0).0 met.2),
  )

  pub minimal_lines : (lines : ℕ) → IsMinimalEnough (all_waits s.waits) (AreEnoughLines demands base rules s) lines
      ↔ IsMinimalLines demands base rules s lines
  minimal_lines lines = (
    λ is. record { places = is.within; enough = is.is_enough; minimal = is.minimal },
    λ is. record { within = is.places; is_enough = is.enough; minimal = is.minimal },
  )

  pub needed_lines : (group : ℕ) → IsNeeded (all_waits s.waits) (AreEnoughLines demands base rules s) group
      ↔ IsNeededLines demands base rules s group
  needed_lines group = (
    λ is. record { places = is.within; some = is.some; needed = is.needed; minimal = is.minimal },
    λ is. record { within = is.places; some = is.some; needed = is.needed; minimal = is.minimal },
  )
