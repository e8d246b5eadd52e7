-- Whose a block is, by single bytes.
use Rattle.std.proofs.Common.{◌≡◌, ℕ, Bool, true, false, ◌&&◌, Ok, Err, Result, refl, ap, ◌∙◌}
use Rattle.std.specs.Prelude.{◌==◌}
use Rattle.crash_model.specs.Disk.{Disk, byte}
use Rattle.crash_model.specs.Layout.{is_owned}
use Rattle.crash_model.specs.Generations.{generation_of, mark_generation}
use Rattle.crash_model.specs.Patches.{image_of}
use Rattle.known_bytes.specs.Family.{IsLike}
use Rattle.known_bytes.specs.Generations.{generation_byte}
use Rattle.known_bytes.specs.Reading.{Reading, disk_of, InEachDisk, IsKnown}

and_true : (b : Bool) → (b && true) ≡ b
and_true true = refl
and_true false = refl

-- on a disk without generations
owned_by_number : (d : Disk) (block inode : ℕ) → d.generations ≡ false
    → is_owned d block inode ≡ (byte d block 1 == inode)
unfolding generation_of mark_generation
owned_by_number d block inode none = rw none (and_true (byte d block 1 == inode))

-- on a disk with generations
owned_by_both : (d : Disk) (block inode : ℕ) → d.generations ≡ true
    → is_owned d block inode ≡ (byte d block 1 == inode && byte d block 2 == generation_byte inode d)
unfolding generation_of mark_generation
owned_by_both d block inode some = rw some refl

module _ (r : Reading) (block inode : ℕ) (like : InEachDisk r (IsLike r.family.base)) where
  pub owned_without : (answer : Result Bool ℕ) → r.family.base.generations ≡ false
      → IsKnown r (λ d. byte d block 1 == inode) answer → IsKnown r (λ d. is_owned d block inode) answer
  owned_without (Ok is) none known =
      λ set m. owned_by_number _ block inode ((like set m).generations ∙ none) ∙ known set m
  owned_without (Err id) none known = known

  pub owned_with : (answer : Result Bool ℕ) → r.family.base.generations ≡ true
      → IsKnown r (λ d. byte d block 1 == inode && byte d block 2 == generation_byte inode d) answer
      → IsKnown r (λ d. is_owned d block inode) answer
  owned_with (Ok is) some known =
      λ set m. owned_by_both _ block inode ((like set m).generations ∙ some) ∙ known set m
  owned_with (Err id) some known = known

-- a byte that is compared with one that all disks have
pub compared : (r : Reading) (f g : Disk → ℕ) (value : ℕ) (answer : Result Bool ℕ) → InEachDisk r (λ d. f d ≡ value)
    → IsKnown r (λ d. g d == value) answer → IsKnown r (λ d. g d == f d) answer
compared r f g value (Ok is) same known = λ set m.
    ap (λ (n : ℕ). g (disk_of r (image_of r.family.base r.family.patches set)) == n) (same set m) ∙ known set m
compared r f g value (Err id) same known = known

-- the same of one that is another byte
pub same_known : (r : Reading) (f g : Disk → ℕ) (answer : Result ℕ ℕ) → InEachDisk r (λ d. g d ≡ f d)
    → IsKnown r f answer → IsKnown r g answer
same_known r f g (Ok value) same known = λ set m. same set m ∙ known set m
same_known r f g (Err id) same known = known
