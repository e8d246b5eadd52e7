-- The slots of an inode one by one, and the first bytes of a block.
use Rattle.std.proofs.Common.{◌≡◌, ℕ, zero, suc, ◌+◌, ◌-◌, ◌<◌, List, [], ◌∷◌, ◌++◌, length, take}
use Rattle.std.proofs.Common.{refl, sym, ap, ◌∙◌, arith, tests, slice_index, true, false, ◌==◌}
use mathlib.Core.List.{append_assoc}
use Rattle.std.specs.Prelude.{flat_map, if◌then◌else◌}
use Rattle.std.specs.List.{range_with_len}
use Rattle.crash_model.specs.declared.ranges.Range.{Range}

pub slots_next : (f : ℕ → List Range) (s : ℕ) → s < 4
    → flat_map f (range_with_len s (4 - s)) ≡ f s ++ flat_map f (range_with_len (s + 1) (4 - (s + 1)))
slots_next f zero below = refl
slots_next f (suc zero) below = refl
slots_next f (suc (suc zero)) below = refl
slots_next f (suc (suc (suc zero))) below = refl
slots_next f (suc (suc (suc (suc s)))) below = absurd (omega arith)

-- the slots from one on, with what one slot adds
pub slot_added : (f : ℕ → List Range) (s : ℕ) (ranges more others all : List Range) → s < 4 → more ≡ f s
    → others ≡ ranges ++ more → ranges ++ flat_map f (range_with_len s (4 - s)) ≡ all
    → others ++ flat_map f (range_with_len (s + 1) (4 - (s + 1))) ≡ all
slot_added f s ranges more others all below here joined so_far =
    let rest = flat_map f (range_with_len (s + 1) (4 - (s + 1))) in
    ap (λ (xs : List Range). xs ++ rest) (joined ∙ ap (λ (xs : List Range). ranges ++ xs) here)
    ∙ (append_assoc ranges (f s) rest ∙ (ap (λ (xs : List Range). ranges ++ xs) (sym (slots_next f s below)) ∙ so_far))

-- what a slot adds, by the number of the block that it names
pub slot_names : (ranges : ℕ → List Range) (block pointer : ℕ) → block ≡ pointer → (block ≡ 0 → ⊥)
    → ranges block ≡ (if pointer == 0 then [] else ranges pointer)
slot_names ranges block pointer same some =
    let none : (pointer == 0) ≡ false = grind (arith, tests, same, some) in
    rw (same, none) refl

pub slot_names_none : (ranges : ℕ → List Range) (block pointer : ℕ) → block ≡ pointer → block ≡ 0
    → [] ≡ (if pointer == 0 then [] else ranges pointer)
slot_names_none ranges block pointer same none =
    let zero : (pointer == 0) ≡ true = grind (arith, tests, same, none) in
    rw zero refl

-- the first four bytes of a block
pub four_first : (xs : List ℕ) → length (take 128 xs) ≡ 128
    → slice_index (take 128 xs) 0 ∷ slice_index (take 128 xs) 1 ∷ slice_index (take 128 xs) 2
    ∷ slice_index (take 128 xs) 3 ∷ [] ≡ take 4 xs
four_first [] long = absurd (omega (arith, long))
four_first (a ∷ []) long = absurd (omega (arith, long))
four_first (a ∷ b ∷ []) long = absurd (omega (arith, long))
four_first (a ∷ b ∷ c ∷ []) long = absurd (omega (arith, long))
four_first (a ∷ b ∷ c ∷ d ∷ xs) long = refl
