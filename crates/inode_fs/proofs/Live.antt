-- The live inodes of a disk, as a set.
use Rattle.std.proofs.Common.{◌≡◌, ℕ, ◌+◌, ◌<◌, inl, inr, Bool, true}
use Rattle.std.proofs.Common.{false, ◌&&◌, ◌==◌, not, nat_lt, arith, refl, sym, subst, ap, ◌∙◌}
use Rattle.std.specs.Prelude.{bit_and}
use Rattle.std.proofs.lemmas.Bool.{cases_eq, and_parts, and_right, lt-ltb, ltb-true, cases_Bool, le-ltb}
use Rattle.std.proofs.lemmas.Nat.Bits.{bit_at_and, bit_at-lt}
use Rattle.patch_sets.specs.Sets.{Has, has, with_id}
use Rattle.patch_sets.proofs.Bits.{none_in_empty, in_with_same, in_with_cases, in_with_old}
use Rattle.patch_sets.proofs.Ids.{has_true, has_false, from_has}
use Rattle.crash_model.specs.Disk.{Disk}
use Rattle.crash_model.specs.Layout.{kind_of, is_live}

-- ---- tests

same_test : (a b : Bool) → (a ≡ true → b ≡ true) → (b ≡ true → a ≡ true) → a ≡ b
same_test true b to from = sym (to refl)
same_test false true to from = from refl
same_test false false to from = refl

both_true : (a b : Bool) → a ≡ true → b ≡ true → (a && b) ≡ true
both_true a b e f = rw (e, f) refl

pub has-and : (a b i : ℕ) → has (bit_and a b) i ≡ (has a i && has b i)
has-and a b i = same_test (has (bit_and a b) i) (has a i && has b i)
    (λ t. let is : Has (bit_and a b) i = from_has (bit_and a b) i t in both_true (has a i) (has b i)
    (has_true a i (omega (arith, bit_at_and a b i, is, bit_at-lt a i, bit_at-lt b i)))
    (has_true b i (omega (arith, bit_at_and a b i, is, bit_at-lt a i, bit_at-lt b i))))
    (λ t.
    let parts = and_parts (has a i) (has b i) t in
    has_true (bit_and a b) i (omega (arith, bit_at_and a b i, from_has a i parts.0, from_has b i parts.1)))

-- ---- the live inodes below a number

abbrev pub AreLive : Disk → ℕ → ℕ → Type 0
AreLive d n live = (i : ℕ) → has live i ≡ (is_live d i && nat_lt i n)

module _ (d : Disk) where
  pub live-start : AreLive d 0 0
  live-start i = has_false 0 i (none_in_empty i) ∙ sym (and_right (is_live d i) (nat_lt i 0) (le-ltb i 0 (omega arith)))

  lt_more : (i n : ℕ) → (i ≡ n → ⊥) → nat_lt i n ≡ nat_lt i (n + 1)
  lt_more i n apart = same_test (nat_lt i n) (nat_lt i (n + 1))
      (λ t. lt-ltb i (n + 1) (let less : i < n = ltb-true i n t in omega arith))
      (λ t. lt-ltb i n (below i n apart (ltb-true i (n + 1) t)))
    where
      below : (i n : ℕ) → (i ≡ n → ⊥) → i < n + 1 → i < n
      below i n apart less = elim (cases_eq i n) [
        | inl same ↦ absurd (apart same)
        | inr other ↦ grind (arith, less, other)
      ]

  pub live-more : (n live : ℕ) → is_live d n ≡ true → AreLive d n live → AreLive d (n + 1) (with_id live n)
  live-more n live is old i = elim (cases_eq i n) [
    | inl same ↦ subst (λ (j : ℕ). has (with_id live n) j ≡ (is_live d j && nat_lt j (n + 1))) (sym same)
        (has_true (with_id live n) n (in_with_same live n) ∙ sym
        (both_true (is_live d n) (nat_lt n (n + 1)) is (lt-ltb n (n + 1) (omega arith))))
    | inr other ↦
        same_test (has (with_id live n) i) (has live i)
        (λ t. elim (in_with_cases live n i (from_has (with_id live n) i t)) [
          | inl e ↦ absurd (other e)
          | inr there ↦ has_true live i there
        ])
        (λ t. has_true (with_id live n) i (in_with_old live n i (from_has live i t)))
        ∙ (old i ∙ ap (λ (b : Bool). is_live d i && b) (lt_more i n other))
  ]

  pub live-none : (n live : ℕ) → is_live d n ≡ false → AreLive d n live → AreLive d (n + 1) live
  live-none n live is_not old i = elim (cases_eq i n) [
    | inl same ↦ subst (λ (j : ℕ). has live j ≡ (is_live d j && nat_lt j (n + 1))) (sym same)
        (old n ∙ (and_right (is_live d n) (nat_lt n n) (le-ltb n n (omega arith)) ∙ rw is_not refl))
    | inr other ↦ old i ∙ ap (λ (b : Bool). is_live d i && b) (lt_more i n other)
  ]

  pub live-all : (live : ℕ) → AreLive d 16 live → (i : ℕ) → has live i ≡ is_live d i
  live-all live all i = all i ∙ elim (cases_Bool (is_live d i)) [
    | inl is ↦ both_true (is_live d i) (nat_lt i 16) is (and_parts (nat_lt i 16) (not (kind_of d i == 0)) is).0 ∙ sym is
    | inr gone ↦ rw gone refl
  ]
