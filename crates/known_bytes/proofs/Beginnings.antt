-- How a block begins.
use Rattle.std.proofs.Common.{◌≡◌, ℕ, ◌+◌, ◌-◌, ◌*◌, ◌<◌, ◌≤◌, List, [], ◌∷◌, length, take, drop, get_or, arith, refl}
use Rattle.std.proofs.Common.{ap, ◌∙◌}
use Rattle.std.specs.Prelude.{slice_range}
use Rattle.std.proofs.lemmas.List.{length-drop, get_or-drop}
use Rattle.crash_model.specs.Disk.{Disk, IsDisk, byte}

four_of : (xs : List ℕ) → 4 ≤ length xs
    → take 4 xs ≡ get_or xs 0 0 ∷ get_or xs 1 0 ∷ get_or xs 2 0 ∷ get_or xs 3 0 ∷ []
four_of [] long = absurd (omega (arith, long))
four_of (a ∷ []) long = absurd (omega (arith, long))
four_of (a ∷ b ∷ []) long = absurd (omega (arith, long))
four_of (a ∷ b ∷ c ∷ []) long = absurd (omega (arith, long))
four_of (a ∷ b ∷ c ∷ d ∷ xs) long = refl

same_four : (a b c e x y z w : ℕ) → a ≡ x → b ≡ y → c ≡ z → e ≡ w
    → a ∷ b ∷ c ∷ e ∷ [] ≡ x ∷ y ∷ z ∷ w ∷ []
same_four a b c e x y z w p q r s = rw (p, q, r, s) refl

pub begins_are : (d : Disk) (block a b c e : ℕ) → IsDisk d → block < d.blocks → byte d block 0 ≡ a → byte d block 1 ≡ b
    → byte d block 2 ≡ c → byte d block 3 ≡ e
    → slice_range d.bytes (128 * block) (128 * block + 4) ≡ a ∷ b ∷ c ∷ e ∷ []
begins_are d block a b c e is below p q r s =
    let at : ℕ = 128 * block in
    let size : (128 * block + 4) - 128 * block ≡ 4 = omega arith in
    let long : 4 ≤ length (drop (128 * block) d.bytes) =
    omega (arith, length-drop (128 * block) d.bytes, is.whole, below) in
    ap (λ (n : ℕ). take n (drop (128 * block) d.bytes)) size
    ∙ (four_of (drop (128 * block) d.bytes) long
    ∙ same_four _ _ _ _ a b c e (get_or-drop (128 * block) d.bytes 0 0 ∙ p) (get_or-drop (128 * block) d.bytes 1 0 ∙ q)
    (get_or-drop (128 * block) d.bytes 2 0 ∙ r) (get_or-drop (128 * block) d.bytes 3 0 ∙ s))
