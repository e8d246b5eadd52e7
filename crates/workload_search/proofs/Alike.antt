-- The sets of rules that are enough for a search, as reports speak of them and as they are found.
use Rattle.std.proofs.Common.{◌≡◌, ℕ, None, sym, subst}
use Rattle.std.specs.Prelude.{◌↔◌}
use Rattle.crash_model.specs.Tracing.{trace_start}
use Rattle.question_model.specs.Enough.{rules_in, rules_but}
use Rattle.enough_rules.specs.Enough.{IsMinimalEnough, IsNeeded}
use Rattle.enough_rules.proofs.Groups.{difference_of}
use Rattle.patch_sets.specs.Ends.{IsDifference}
use Rattle.chosen_rules.specs.Sublists.{all_of}
use Rattle.chosen_rules.proofs.Alike.{rest_rules}
use Rattle.chosen_rules.proofs.Oracles.{all_places}
use Rattle.question_model.specs.Workloads.{Search}
use Rattle.question_model.specs.EnoughFor.{AreEnoughFor, IsMinimalInSearch, IsNeededInSearch}
use Rattle.workload_search.specs.Asked.{IsEnoughInSearch}

module _ (s : Search) where
  abbrev all : ℕ
  all = all_of s.rules

  rest_is : (group rest : ℕ) → IsDifference all group rest → rules_in s.rules rest ≡ rules_but s.rules group
  rest_is group rest apart =
      rest_rules (record { kept = None; disks = None; promises = None; counted = None }) s.base
      (trace_start s.whole s.base) s.rules all
      (all_places s.rules) group rest apart

  pub minimal_same : (set : ℕ) → IsMinimalEnough all (IsEnoughInSearch s) set ↔ IsMinimalInSearch s set
  minimal_same set = (
    λ is. record {
      places = λ place has. (all_places s.rules place).0 (is.within place has);
      enough = is.is_enough;
      minimal = is.minimal;
    },
    λ is. record {
      within = λ place has. (all_places s.rules place).1 (is.places place has);
      is_enough = is.enough;
      minimal = is.minimal;
    },
  )

  pub needed_same : (group : ℕ) → IsNeeded all (IsEnoughInSearch s) group ↔ IsNeededInSearch s group
  needed_same group = (
    λ is.
        let rest = difference_of all group in
        record {
          places = λ place has. (all_places s.rules place).0 (is.within place has);
          some = is.some;
          needed = λ enough. is.needed rest.0 rest.1
              (subst (AreEnoughFor s) (sym (rest_is group rest.0 rest.1)) enough);
          minimal = λ part inside other.
              let less = difference_of all part in
              subst (AreEnoughFor s) (rest_is part less.0 less.1) (is.minimal part less.0 inside other less.1);
        },
    λ is. record {
      within = λ place has. (all_places s.rules place).1 (is.places place has);
      some = is.some;
      needed = λ rest apart enough. is.needed (subst (AreEnoughFor s) (rest_is group rest apart) enough);
      minimal = λ part rest inside other apart. subst (AreEnoughFor s) (sym (rest_is part rest apart))
          (is.minimal part inside other);
    },
  )
