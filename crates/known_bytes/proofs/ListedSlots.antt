-- Lists of what slots show, and of how blocks begin.
use Rattle.std.proofs.Common.{◌≡◌, ◌≢◌, ℕ, zero, suc, ◌+◌, ◌*◌, ◌<◌, ◌≤◌, List, [], ◌∷◌, length, take, get_or, set}
use Rattle.std.proofs.Common.{true, false, refl, sym, subst, ap, add-one}
use Rattle.std.specs.Prelude.{slice_range}
use Rattle.std.specs.List.{All, Contains}
use Rattle.std.proofs.lemmas.Bool.{eq-eqb, ne_eqb}
use Rattle.std.proofs.lemmas.List.{take_all}
use Rattle.std.proofs.lemmas.List.Elements.{All-more, All-weaker, All-contains}
use Rattle.crash_model.specs.declared.showing.ShownSlot.TheVariants.{Hole, Wild, Begins}
use Rattle.crash_model.specs.Disk.{Disk, IsDisk, byte}
use Rattle.crash_model.specs.Layout.{is_data}
use Rattle.known_bytes.specs.Slots.{block_shown}
use Rattle.known_bytes.proofs.Beginnings.{begins_are}

-- ---- a walk over a list

module _ {X : Type 0} (xs : List X) where
  pub passed_more : (P Q : X → Type 0) (i : ℕ) (d : X) → i < length xs → ((x : X) → P x → Q x)
      → Q (get_or xs i d) → All P (take i xs) → All Q (take (i + 1) xs)
  passed_more P Q i d less weaker here before =
      All-more Q xs i d less (All-weaker P Q weaker (take i xs) before) here

  pub passed_all : (P : X → Type 0) (i : ℕ) → length xs ≤ i → All P (take i xs) → (x : X) → Contains xs x → P x
  passed_all P i whole before x inside =
      All-contains P xs x (subst (λ (ys : List X). All P ys) (take_all i xs whole) before) inside

-- ---- a slot that names a block

module _ (d : Disk) (block : ℕ) where
  pub block_hole : block ≡ 0 → block_shown d block ≡ Hole
  block_hole none = rw (eq-eqb block 0 none) refl

  pub block_wild : block ≢ 0 → is_data d block ≡ false → block_shown d block ≡ Wild
  block_wild some wild = rw (ne_eqb block 0 some, wild) refl

  pub block_begins : block ≢ 0 → is_data d block ≡ true
      → block_shown d block ≡ Begins (slice_range d.bytes (128 * block) (128 * block + 4))
  block_begins some tame = rw (ne_eqb block 0 some, tame) refl

-- ---- how a block begins

-- the first n bytes of a block, and zeros
pub first_bytes : ℕ → ℕ → Disk → List ℕ
first_bytes zero block d = 0 ∷ 0 ∷ 0 ∷ 0 ∷ []
first_bytes (suc n) block d = set (first_bytes n block d) n (byte d block n)

module _ (block : ℕ) (d : Disk) where
  pub bytes_none : 0 ∷ 0 ∷ 0 ∷ 0 ∷ [] ≡ first_bytes 0 block d
  unfolding first_bytes
  bytes_none = refl

  pub bytes_more : (n : ℕ) → set (first_bytes n block d) n (byte d block n) ≡ first_bytes (n + 1) block d
  unfolding first_bytes
  bytes_more n = ap (λ (k : ℕ). first_bytes k block d) (sym (add-one n))

  pub bytes_all : IsDisk d → block < d.blocks
      → first_bytes 4 block d ≡ slice_range d.bytes (128 * block) (128 * block + 4)
  unfolding first_bytes
  bytes_all is below = sym (begins_are d block (byte d block 0) (byte d block 1) (byte d block 2) (byte d block 3) is
      below refl refl refl refl)
