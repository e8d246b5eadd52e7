-- What is found of one workload is found of all that are asked with it.
use Rattle.std.proofs.Common.{◌≡◌, ℕ, ◌%◌, ◌<◌, List, length, get_or}
use Rattle.std.specs.Prelude.{Some}
use Rattle.question_model.specs.Enough.{rules_in}
use Rattle.enough_rules.specs.Asked.{IsFound}
use Rattle.enough_rules.specs.Enough.{MoreAreEnough}
use Rattle.chosen_rules.specs.Sublists.{all_of}
use Rattle.chosen_rules.proofs.Lists.{fewer_among}
use Rattle.question_model.specs.Workloads.{Search}
use Rattle.workload_search.specs.Asked.{IsEnoughAt, IsEnoughForPart}
use Rattle.workload_search.proofs.OneSequence.{fails_by_fewer}

module _ (s : Search) (sequences : List (List ℕ)) (parts part : ℕ) where
  -- where some rules are enough, more are too
  pub more_are_enough : MoreAreEnough (all_of s.rules) (IsEnoughForPart s sequences parts part)
  more_are_enough set more inside within enough i d low mine fails = enough i d low mine
      (fails_by_fewer s (rules_in s.rules set) (rules_in s.rules more) (get_or sequences i d)
      (fewer_among s.rules set more inside) fails)

  -- a group of one workload is a group of all
  pub group_for_part : (set group i : ℕ) (d : List ℕ) → i < length sequences → i % parts ≡ part
      → IsFound (all_of s.rules) (IsEnoughAt s (get_or sequences i d)) set (Some group)
      → IsFound (all_of s.rules) (IsEnoughForPart s sequences parts part) set (Some group)
  group_for_part set group i d low mine (in_each, misses) = (
    record {
      within = in_each.within;
      met = λ other within enough. in_each.met other within (enough i d low mine);
    },
    misses,
  )
