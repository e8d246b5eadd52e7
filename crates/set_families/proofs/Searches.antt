-- The first set of a family that a property holds of, and the best one so far.
use Rattle.std.proofs.Common.{◌≡◌, ◌≢◌, ℕ, List, refl, sym, subst, inl, inr}
use Rattle.std.specs.Prelude.{◌⊎◌, ◌↔◌, Option, None, Some}
use Rattle.std.proofs.lemmas.Option.{none-some, same_Some}
use Rattle.patch_sets.specs.Sets.{Has, IsBefore}
use Rattle.patch_sets.proofs.Bits.{eq_or_not}
use Rattle.patch_sets.proofs.Canonical.{before_trans}
use Rattle.set_families.specs.declared.family.Family.{Family}
use Rattle.set_families.specs.Families.{IsMember}
use Rattle.set_families.specs.Firsts.{IsFirst, IsFirstIfAny}
use Rattle.set_families.proofs.Members.{has_or_lacks}

-- the sets that P holds of, and the best one so far
abbrev pub OrBest : (ℕ → Type 0) → Option ℕ → ℕ → Type 0
OrBest P best set = P set ⊎ (best ≡ Some set)

module _ (P : ℕ → Type 0) where
  -- a set that P holds of is the first where it comes before the others and before the best one
  pub better : (best : Option ℕ) (set : ℕ) → P set → ((w : ℕ) → P w → w ≢ set → IsBefore set w)
      → ((b : ℕ) → best ≡ Some b → IsBefore set b) → IsFirst (OrBest P best) set
  better best set is before less = record {
    inside = inl is;
    before = λ w it ne. elim it [ inl p ↦ before w p ne | inr e ↦ less w e ];
  }

-- a search through two parts, the second with what the first found
module _ (P Q R : ℕ → Type 0) (left : (w : ℕ) → P w → R w) (right : (w : ℕ) → Q w → R w)
    (split : (w : ℕ) → R w → Q w ⊎ P w) (best : Option ℕ) where
  to_whole : (w : ℕ) → OrBest P best w → OrBest R best w
  to_whole w (inl p) = inl (left w p)
  to_whole w (inr e) = inr e

  parts : (w : ℕ) → OrBest R best w → Q w ⊎ OrBest P best w
  parts w (inl r) = elim (split w r) [ inl q ↦ inl q | inr p ↦ inr (inl p) ]
  parts w (inr e) = inr (inr e)

  is_found : (found : Option ℕ) → IsFirstIfAny (OrBest P best) found → (w : ℕ) → found ≡ Some w → OrBest R best w
  is_found None none w e = absurd (none-some w e)
  is_found (Some a) first w e = subst (OrBest R best) (same_Some a w e) (to_whole a first.inside)

  -- what comes before the set found comes before all others of the first part
  found_before : (found : Option ℕ) → IsFirstIfAny (OrBest P best) found → (b : ℕ)
      → ((w : ℕ) → found ≡ Some w → w ≢ b → IsBefore b w) → (w : ℕ) → OrBest P best w → w ≢ b → IsBefore b w
  found_before None none b less w it ne = absurd (none w it)
  found_before (Some a) first b less w it ne = elim (eq_or_not w a) [
    | inl e ↦ less w (subst (λ x. Some a ≡ Some x) (sym e) refl) ne
    | inr other ↦ elim (eq_or_not a b) [
      | inl f ↦ subst (λ x. IsBefore x w) f (first.before w it other)
      | inr differ ↦ before_trans b a w (less a refl differ) (first.before w it other)
    ]
  ]

  none_found : (found : Option ℕ) → IsFirstIfAny (OrBest P best) found → ((w : ℕ) → found ≡ Some w → ⊥) → (w : ℕ)
      → OrBest P best w → ⊥
  none_found None none never w it = none w it
  none_found (Some a) first never w it = never a refl

  pub both_searched : (found result : Option ℕ) → IsFirstIfAny (OrBest P best) found
      → IsFirstIfAny (OrBest Q found) result → IsFirstIfAny (OrBest R best) result
  both_searched found None is none = λ w it. elim (parts w it) [
    | inl q ↦ none w (inl q)
    | inr p ↦ none_found found is (λ x e. none x (inr e)) w p
  ]
  both_searched found (Some b) is first = record {
    inside = elim first.inside [ inl q ↦ inl (right b q) | inr e ↦ is_found found is b e ];
    before = λ w it ne. elim (parts w it) [
      | inl q ↦ first.before w (inl q) ne
      | inr p ↦ found_before found is b (λ x e. first.before x (inr e)) w p ne
    ];
  }

-- the members that have an id and those that lack it are all members
module _ (deps : List ℕ) (holds : ℕ → Type 0) (family having lacking : Family) (id : ℕ)
    (have : (set : ℕ) → IsMember deps having set ↔ (IsMember deps family set × Has set id))
    (lack : (set : ℕ) → IsMember deps lacking set ↔ (IsMember deps family set × (Has set id → ⊥))) where
  abbrev Holding : Family → ℕ → Type 0
  Holding part set = IsMember deps part set × holds set

  pub from_having : (w : ℕ) → Holding having w → Holding family w
  from_having w it = (((have w).0 it.0).0, it.1)

  pub from_lacking : (w : ℕ) → Holding lacking w → Holding family w
  from_lacking w it = (((lack w).0 it.0).0, it.1)

  pub in_either : (w : ℕ) → Holding family w → Holding having w ⊎ Holding lacking w
  in_either w it = elim (has_or_lacks w id) [
    | inl has ↦ inl ((have w).1 (it.0, has), it.1)
    | inr lacks ↦ inr ((lack w).1 (it.0, lacks), it.1)
  ]

  pub parts_searched : (best found result : Option ℕ) → IsFirstIfAny (OrBest (Holding lacking) best) found
      → IsFirstIfAny (OrBest (Holding having) found) result → IsFirstIfAny (OrBest (Holding family) best) result
  parts_searched best found result =
      both_searched (Holding lacking) (Holding having) (Holding family) from_lacking from_having in_either best found
      result

-- the first of a whole that has no best one before it
pub first_of_all : (P Q : ℕ → Type 0) → ((w : ℕ) → P w ↔ Q w) → (result : Option ℕ)
    → IsFirstIfAny (OrBest P None) result → IsFirstIfAny Q result
first_of_all P Q like None none = λ w q. none w (inl ((like w).1 q))
first_of_all P Q like (Some a) first = record {
  inside = elim first.inside [ inl p ↦ (like a).0 p | inr e ↦ absurd (none-some a e) ];
  before = λ w q ne. first.before w (inl ((like w).1 q)) ne;
}
