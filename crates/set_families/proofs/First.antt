-- A set comes before those that have all its ids.
use Rattle.std.proofs.Common.{◌≡◌, ◌≢◌, ℕ, zero, suc, ◌/◌, ◌%◌, ◌<◌, ◌≤◌, List, arith, refl, sym, subst, ◌∙◌, inl}
use Rattle.std.specs.Prelude.{count_ones}
use Rattle.std.specs.Int.Count.{ones_step}
use Rattle.std.proofs.lemmas.Nat.Bits.{bit_at_lowest, bit_at-suc}
use Rattle.state_space.proofs.Counting.{below, same, above, order_of}
use Rattle.patch_sets.specs.Sets.{Has, IsSubset, IsBefore}
use Rattle.patch_sets.proofs.Bits.{same_set, none_in_empty}
use Rattle.set_families.specs.declared.family.Family.{Family}
use Rattle.set_families.specs.Families.{IsFamily, IsMember}
use Rattle.set_families.specs.Firsts.{IsFirst}
use Rattle.set_families.proofs.Members.{held_member}

pub record FewerOnes (a b : ℕ) : Type 0 where
  pub few : count_ones a ≤ count_ones b
  pub same : count_ones a ≡ count_ones b → a ≡ b

half_subset : (a b : ℕ) → IsSubset a b → IsSubset (a / 2) (b / 2)
half_subset a b within id is = sym (bit_at-suc b id) ∙ within (suc id) (bit_at-suc a id ∙ is)

lowest_subset : (a b : ℕ) → IsSubset a b → a % 2 ≤ b % 2
lowest_subset a b within = by_bit (a % 2) (b % 2) (omega arith)
    (λ one. sym (bit_at_lowest b) ∙ within 0 (bit_at_lowest a ∙ one))
  where
    by_bit : (x y : ℕ) → x < 2 → (x ≡ 1 → y ≡ 1) → x ≤ y
    by_bit zero y lx to = omega arith
    by_bit (suc x) y lx to = let one : suc x ≡ 1 = omega arith in omega (arith, to one)

subset_ones : (d a b : ℕ) → b ≤ d → IsSubset a b → FewerOnes a b
subset_ones zero a b small within =
    let none : b ≡ 0 = omega arith in
    let e : a ≡ b = same_set a b within (λ id is. absurd (none_in_empty id (subst (λ s. Has s id) none is))) in
    subst (λ s. FewerOnes s b) (sym e) record { few = omega arith; same = λ _. refl }
subset_ones (suc d) a b small within =
    let half = subset_ones d (a / 2) (b / 2) (omega arith) (half_subset a b within) in
    let low = lowest_subset a b within in
    let sa = ones_step a in
    let sb = ones_step b in
    let few = half.few in
    record {
      few = omega (arith, sa, sb, low, few);
      same = λ e.
          let fa : count_ones (a / 2) ≡ count_ones (b / 2) = omega (arith, sa, sb, low, few, e) in
          let halves = half.same fa in
          omega (arith, sa, sb, low, few, e, fa, halves);
    }

subset_before : (a b : ℕ) → IsSubset a b → b ≢ a → IsBefore a b
subset_before a b within other =
    let it = subset_ones b a b (omega arith) within in
    elim (order_of (count_ones a) (count_ones b)) [
      | below h ↦ inl h
      | same e ↦ absurd (other (sym (it.same e)))
      | above h ↦ absurd (let few = it.few in omega (arith, few, h))
    ]

-- what is held is the first member in canonical order
pub held_first : (deps : List ℕ) (family : Family) → IsFamily deps family → IsFirst (IsMember deps family) family.held
held_first deps family is = record {
  inside = held_member deps family is;
  before = λ other m ne. subset_before family.held other m.has_held ne;
}
