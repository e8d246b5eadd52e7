-- Bytes of a list of which a range is overwritten.
use Rattle.std.proofs.Common.{◌≡◌, ℕ, ◌+◌, ◌-◌, ◌<◌, ◌≤◌, List, length, take, drop, get_or, arith}
use Rattle.std.proofs.lemmas.Grind.{elements, same_number_lists}
use Rattle.crash_model.specs.Disk.{overwrite}

pub length-overwrite : (xs : List ℕ) (at : ℕ) (new : List ℕ) → at + length new ≤ length xs
    → length (overwrite xs at new) ≡ length xs
unfolding overwrite
length-overwrite xs at new fits = grind (arith, elements)

pub overwrite-inside : (xs : List ℕ) (at : ℕ) (new : List ℕ) (j : ℕ) → at + length new ≤ length xs → at ≤ j
    → j < at + length new → get_or (overwrite xs at new) j 0 ≡ get_or new (j - at) 0
unfolding overwrite
overwrite-inside xs at new j fits from to = grind (arith, elements)

pub overwrite-below : (xs : List ℕ) (at : ℕ) (new : List ℕ) (j : ℕ) → at + length new ≤ length xs → j < at
    → get_or (overwrite xs at new) j 0 ≡ get_or xs j 0
unfolding overwrite
overwrite-below xs at new j fits below = grind (arith, elements)

pub overwrite-above : (xs : List ℕ) (at : ℕ) (new : List ℕ) (j : ℕ) → at + length new ≤ length xs → at + length new ≤ j
    → get_or (overwrite xs at new) j 0 ≡ get_or xs j 0
unfolding overwrite
overwrite-above xs at new j fits above = grind (arith, elements)

pub ruleset overwrites = (length-overwrite, overwrite-inside, overwrite-below, overwrite-above)

-- the bytes of the range before it, put back, undo it
pub overwrite-undone : (xs : List ℕ) (at : ℕ) (new : List ℕ) → at + length new ≤ length xs
    → overwrite (overwrite xs at new) at (take (length new) (drop at xs)) ≡ xs
unfolding overwrite
overwrite-undone xs at new fits =
    same_number_lists _ xs (grind (arith, elements)) (λ k below. grind (arith, elements))

-- ranges that share no byte may be written in either order
pub overwrite-apart : (xs : List ℕ) (i : ℕ) (a : List ℕ) (j : ℕ) (b : List ℕ) → i + length a ≤ j
    → j + length b ≤ length xs → overwrite (overwrite xs i a) j b ≡ overwrite (overwrite xs j b) i a
overwrite-apart xs i a j b apart fits =
    let a_fits : i + length a ≤ length xs = omega arith in
    let one : length (overwrite xs i a) ≡ length xs = length-overwrite xs i a a_fits in
    let two : length (overwrite xs j b) ≡ length xs = length-overwrite xs j b fits in
    same_number_lists _ _ (grind (arith, length-overwrite)) (λ k below. grind (arith, overwrites))
