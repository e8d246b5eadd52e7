-- The sublists that are enough, as reports speak of them and as they are found.
use Rattle.std.proofs.Common.{◌≡◌, ℕ, zero, suc, ◌<◌, List, length, Bool, None, arith, refl, sym, ap, ◌∙◌, subst, inl}
use Rattle.std.proofs.Common.{inr}
use Rattle.std.specs.Prelude.{◌↔◌, Option, slice_get, if◌then◌else◌, not}
use Rattle.std.specs.Int.{bit_at}
use Rattle.patch_sets.specs.Ends.{IsDifference}
use Rattle.patch_sets.specs.Sets.{Has, has}
use Rattle.patch_sets.proofs.Bits.{eq_or_not}
use Rattle.patch_sets.proofs.Ids.{has_true, has_false}
use Rattle.crash_model.specs.Checker.{Demands}
use Rattle.crash_model.specs.Disk.{Disk}
use Rattle.crash_model.specs.Lists.{some_below}
use Rattle.crash_model.specs.Tracing.{Tracing}
use Rattle.crash_model.specs.declared.rules.Rule.{Rule}
use Rattle.question_model.specs.Enough as model
use Rattle.question_model.specs.Enough.{rules_in, rules_but, AreEnough}
use Rattle.enough_rules.specs.Enough.{IsMinimalEnough, IsNeeded}
use Rattle.enough_rules.proofs.Groups.{difference_of}
use Rattle.chosen_rules.specs.Sublists.{EnoughOf}

some_below_alike : {X : Type 0} (n : ℕ) (at other : ℕ → Option X) → ((k : ℕ) → k < n → at k ≡ other k)
    → some_below n at ≡ some_below n other
unfolding some_below
some_below_alike zero at other same = refl
some_below_alike (suc n) at other same =
    rw (some_below_alike n at other (λ k less. same k (omega (arith, less))), same n (omega arith)) refl

module _ (demands : Demands) (base : Disk) (s : Tracing) (rules : List Rule) (all : ℕ)
    (places : (place : ℕ) → Has all place ↔ (place < length rules)) where
  -- the rules of the rest are all rules but those of the group
  pub rest_rules : (group rest : ℕ) → IsDifference all group rest → rules_in rules rest ≡ rules_but rules group
  rest_rules group rest apart = some_below_alike (length rules)
      (λ place. if has rest place then slice_get rules place else None)
      (λ place. if not (has group place) then slice_get rules place else None)
      (λ place less. ap (λ (b : Bool). if b then slice_get rules place else None) (same place less))
    where
      same : (place : ℕ) → place < length rules → has rest place ≡ not (has group place)
      same place less = elim (eq_or_not (bit_at group place) 1) [
        | inl inside ↦ has_false rest place (λ is. ((apart.exactly place).0 is).1 inside)
            ∙ sym (ap not (has_true group place inside))
        | inr lacks ↦ has_true rest place ((apart.exactly place).1 ((places place).1 less, lacks))
            ∙ sym (ap not (has_false group place lacks))
      ]

  pub minimal_same : (set : ℕ) → IsMinimalEnough all (EnoughOf demands base s rules) set
      ↔ model.IsMinimalEnough demands base s rules set
  minimal_same set = (
    λ is. record {
      places = λ place has. (places place).0 (is.within place has);
      enough = is.is_enough;
      minimal = is.minimal;
    },
    λ is. record {
      within = λ place has. (places place).1 (is.places place has);
      is_enough = is.enough;
      minimal = is.minimal;
    },
  )

  pub needed_same : (group : ℕ) → IsNeeded all (EnoughOf demands base s rules) group
      ↔ model.IsNeeded demands base s rules group
  needed_same group = (
    λ is.
        let rest = difference_of all group in
        record {
          places = λ place has. (places place).0 (is.within place has);
          some = is.some;
          needed = λ enough. is.needed rest.0 rest.1 (subst (AreEnough demands base s)
              (sym (rest_rules group rest.0 rest.1)) enough);
          minimal = λ part inside other.
              let less = difference_of all part in
              subst (AreEnough demands base s) (rest_rules part less.0 less.1)
              (is.minimal part less.0 inside other less.1);
        },
    λ is. record {
      within = λ place has. (places place).1 (is.places place has);
      some = is.some;
      needed = λ rest apart enough. is.needed (subst (AreEnough demands base s) (rest_rules group rest apart) enough);
      minimal = λ part rest inside other apart. subst (AreEnough demands base s) (sym (rest_rules part rest apart))
          (is.minimal part inside other);
    },
  )
