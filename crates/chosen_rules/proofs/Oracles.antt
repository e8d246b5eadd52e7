-- What a failing set says about the sets of rules that are enough.
use Rattle.std.proofs.Common.{ℕ, ◌<◌, ◌^◌, ◌-◌, List, length, Some, arith, inl, inr}
use Rattle.std.specs.Prelude.{◌↔◌}
use Rattle.std.proofs.lemmas.Option.{slice_get_within}
use Rattle.std.proofs.lemmas.Nat.Bits.{bit_at_ones, bit_at_ones_above}
use Rattle.patch_sets.specs.Sets.{Has}
use Rattle.hitting_sets.proofs.Within.{decide_meets}
use Rattle.crash_model.specs.Disk.{Disk}
use Rattle.crash_model.specs.Checker.{Demands, IsFailingUnder}
use Rattle.crash_model.specs.Trace.{IsGraphOf}
use Rattle.crash_model.specs.Tracing.{Tracing}
use Rattle.crash_model.specs.declared.patches.Patch.{Patch}
use Rattle.crash_model.specs.declared.rules.Rule.{Rule}
use Rattle.rule_laws.proofs.Closed.{failing_under_more}
use Rattle.question_model.specs.Enough.{rules_in}
use Rattle.enough_rules.specs.Asked.{IsFound, IsInEach}
use Rattle.enough_rules.specs.Enough.{MoreAreEnough}
use Rattle.chosen_rules.specs.Excluded.{ExcludesAt}
use Rattle.chosen_rules.specs.Sublists.{EnoughOf, all_of}
use Rattle.chosen_rules.proofs.Excluded.{not_excluded, failing_too}
use Rattle.chosen_rules.proofs.Graphs.{graph_by_others, less_or_not}
use Rattle.chosen_rules.proofs.Lists.{in_rules, from_rules, fewer_among}

-- the set of all numbers below another
pub ones_below : (n place : ℕ) → Has (2 ^ n - 1) place ↔ (place < n)
ones_below n place = (
  λ has. elim (less_or_not place n) [
    | inl less ↦ less
    | inr past ↦
        let none = bit_at_ones_above n place (omega (arith, past)) in
        absurd (omega (arith, none, has))
  ],
  λ less. bit_at_ones n place less,
)

pub all_places : (rules : List Rule) (place : ℕ) → Has (all_of rules) place ↔ (place < length rules)
all_places rules = ones_below (length rules)

module _ (demands : Demands) (base : Disk) (s : Tracing) (rules : List Rule) (all : ℕ)
    (places : (place : ℕ) → Has all place ↔ (place < length rules)) where
  pub more_are_enough : MoreAreEnough all (EnoughOf demands base s rules)
  more_are_enough set more inside within enough =
      let few = enough.0 in
      let wide = graph_by_others (rules_in rules set) (rules_in rules more) base s few enough.1 in (
        wide.0,
        wide.1,
        λ crash failing. enough.2 crash (failing_under_more (rules_in rules set) (rules_in rules more) base s few wide.0
            crash (fewer_among rules set more inside) enough.1 wide.1 demands failing),
      )

  module _ (set group : ℕ) (patches : List Patch) (graph : IsGraphOf (rules_in rules set) base s patches) (crash : ℕ)
      (failing : IsFailingUnder demands base patches crash)
      (excludes : (place : ℕ) → Has group place ↔ ExcludesAt s.emitted rules crash place) where
    excluders : IsInEach all (EnoughOf demands base s rules) group
    excluders = record {
      within = λ place has.
          let it = (excludes place).0 has in (places place).1 (slice_get_within rules place it.0 it.1);
      met = λ other within enough. elim (decide_meets other group) [
        | inl meets ↦ meets
        | inr misses ↦ absurd (enough.2 crash (failing_too (rules_in rules set) base s patches graph crash
            (rules_in rules other) enough.0 enough.1
            (λ rule is out.
            let at = from_rules rules other rule is in
            misses (at.0, at.1, (excludes at.0).1 (rule, at.2, out)))
            demands failing))
      ];
    }

    pub group_found : IsFound all (EnoughOf demands base s rules) set (Some group)
    group_found = (
      excluders,
      λ met.
          let it = (excludes met.0).0 met.2 in
          not_excluded (rules_in rules set) base s patches graph crash failing.closed it.0
          (in_rules rules set met.0 it.0 met.1 it.1) it.2,
    )
