-- The bytes of the images of sets.
use Rattle.std.proofs.Common.{◌≡◌, ℕ, ◌+◌, ◌-◌, ◌*◌, ◌<◌, ◌≤◌, ◌⊎◌, inl, inr, List, [], ◌∷◌, length, get_or, Bool, true}
use Rattle.std.proofs.Common.{false, cond, ◌&&◌, Option, Some, None, arith, tests, refl, ◌∙◌, ap}
use Rattle.std.specs.Prelude.{unwrap_or, is_some, nat_le, nat_lt, slice_range}
use Rattle.std.proofs.lemmas.Grind.{elements}
use Rattle.patch_sets.specs.Sets.{has}
use Rattle.crash_model.specs.Disk.{Disk, overwrite}
use Rattle.crash_model.specs.Patches.{places_of, image_from, AreUndo}
use Rattle.crash_model.specs.declared.patches.Patch.{Patch}
use Rattle.crash_model.proofs.Bytes.{length-overwrite, overwrite-inside, overwrite-below, overwrite-above}
use Rattle.crash_image.specs.Moves.{with_patch, without_patch, without_patches_from}
use Rattle.crash_image.proofs.Cells.{bool_is, value_from, undo_from, IsLess, HasFront, moved}

-- where a patch begins in the list of bytes
abbrev pub start_of : Patch → ℕ
start_of p = 128 * p.block + p.offset

-- the range of a patch ends within n bytes
pub record Fits (n : ℕ) (p : Patch) : Type 0 where
  pub fits : start_of p + length p.new.items ≤ n

abbrev pub AllFit : ℕ → List Patch → Type 0
AllFit n [] = Unit {0}
AllFit n (p ∷ ps) = Fits n p × AllFit n ps

-- whether the n bytes from `at` on have byte i
abbrev pub is_inside : ℕ → ℕ → ℕ → Bool
is_inside at n i = nat_le at i && nat_lt i (at + n)

-- what bytes put from `at` on put at byte i
abbrev pub cell_at : ℕ → ℕ → List ℕ → Option ℕ
cell_at i at bytes = cond (is_inside at (length bytes) i) (Some (get_or bytes (i - at) 0)) None

-- what patches put there
abbrev pub new_cell : ℕ → Patch → Option ℕ
new_cell i p = cell_at i (start_of p) p.new.items

abbrev pub cells : ℕ → List Patch → List (Option ℕ)
cells i [] = []
cells i (p ∷ ps) = new_cell i p ∷ cells i ps

pub inside_or_not : (at n i : ℕ) → ((is_inside at n i ≡ true) × (at ≤ i) × (i < at + n))
    ⊎ ((is_inside at n i ≡ false) × ((i < at) ⊎ (at + n ≤ i)))
inside_or_not at n i = elim (bool_is (is_inside at n i)) [
  | inl t ↦ inl (t, grind (arith, tests), grind (arith, tests))
  | inr f ↦ inr (f, grind (arith, tests))
]

-- ---- one patch put

overwrite-value : (xs : List ℕ) (at : ℕ) (new : List ℕ) (i : ℕ) → at + length new ≤ length xs
    → get_or (overwrite xs at new) i 0 ≡ unwrap_or (cell_at i at new) (get_or xs i 0)
overwrite-value xs at new i fits = elim (inside_or_not at (length new) i) [
  | inl t ↦ let e = t.0 in rw e (overwrite-inside xs at new i fits t.1 t.2)
  | inr o ↦ let e = o.0 in rw e (elim o.1 [
    | inl l ↦ overwrite-below xs at new i fits l
    | inr g ↦ overwrite-above xs at new i fits g
  ])
]

-- an image of n bytes, of which byte i is v
pub record HasByte (n i v : ℕ) (d : Disk) : Type 0 where
  pub long : length d.bytes ≡ n
  pub byte : get_or d.bytes i 0 ≡ v

with_patch-byte : (n : ℕ) (b : Bool) (d : Disk) (p : Patch) (i v : ℕ) → Fits n p → HasByte n i v d
    → HasByte n i (cond b (unwrap_or (new_cell i p) v) v) (cond b (with_patch p d) d)
with_patch-byte n false d p i v f has_byte = has_byte
with_patch-byte n true d p i v f has_byte =
    let ends : start_of p + length p.new.items ≤ n = f.fits in
    let long : length d.bytes ≡ n = has_byte.long in
    record {
      long = length-overwrite d.bytes (start_of p) p.new.items (omega arith) ∙ long;
      byte = overwrite-value d.bytes (start_of p) p.new.items i (omega arith)
          ∙ ap (λ (w : ℕ). unwrap_or (new_cell i p) w) has_byte.byte;
    }

-- ---- and taken back

-- as many old bytes as new ones
undo-length : (xs : List ℕ) (at n : ℕ) → at + n ≤ length xs → length (slice_range xs at (at + n)) ≡ n
undo-length xs at n fits = grind (arith, elements)

undo-byte : (xs : List ℕ) (at n i : ℕ) → at + n ≤ length xs → at ≤ i → i < at + n
    → get_or (slice_range xs at (at + n)) (i - at) 0 ≡ get_or xs i 0
undo-byte xs at n i fits from to = grind (arith, elements)

-- at each place of the range the byte that was there
undo-cell : (xs : List ℕ) (at i : ℕ) (new old : List ℕ) → at + length new ≤ length xs
    → old ≡ slice_range xs at (at + length new)
    → (v : ℕ) → unwrap_or (cell_at i at old) v ≡ cond (is_some (cell_at i at new)) (get_or xs i 0) v
undo-cell xs at i new old fits is v =
    let long : length old ≡ length new = ap (λ (ys : List ℕ). length ys) is ∙ undo-length xs at (length new) fits in
    ap (λ (n : ℕ). unwrap_or (cond (is_inside at n i) (Some (get_or old (i - at) 0)) None) v) long
    ∙ elim (inside_or_not at (length new) i) [
      | inl t ↦ let e = t.0 in rw e (ap (λ (ys : List ℕ). get_or ys (i - at) 0) is
          ∙ undo-byte xs at (length new) i fits t.1 t.2)
      | inr o ↦ let e = o.0 in rw e refl
    ]

-- the undo bytes of a patch are those of its range in this image
pub record IsUndo (full : Disk) (p : Patch) : Type 0 where
  pub is : p.undo.items ≡ slice_range full.bytes (start_of p) (start_of p + length p.new.items)

without_patches-byte : (n : ℕ) (b : Bool) (d full : Disk) (p : Patch) (i v w : ℕ) → Fits n p → IsUndo full p
    → HasByte n i w full → HasByte n i v d
    → HasByte n i (cond (b && is_some (new_cell i p)) w v) (cond b (without_patch p d) d)
without_patches-byte n false d full p i v w f undo was has_byte = has_byte
without_patches-byte n true d full p i v w f undo was has_byte =
    let ends : start_of p + length p.new.items ≤ n = f.fits in
    let whole : length full.bytes ≡ n = was.long in
    let here : start_of p + length p.new.items ≤ length full.bytes = omega arith in
    let as_long : length p.undo.items ≡ length p.new.items = ap (λ (xs : List ℕ). length xs) undo.is
    ∙ undo-length full.bytes (start_of p) (length p.new.items) here in
    let long : length d.bytes ≡ n = has_byte.long in
    let fits : start_of p + length p.undo.items ≤ length d.bytes = omega arith in
    record {
      long = length-overwrite d.bytes (start_of p) p.undo.items fits ∙ long;
      byte = overwrite-value d.bytes (start_of p) p.undo.items i fits
          ∙ undo-cell full.bytes (start_of p) i p.new.items p.undo.items here undo.is (get_or d.bytes i 0)
          ∙ ap (λ (x : ℕ). cond (is_some (new_cell i p)) x (get_or d.bytes i 0)) was.byte
          ∙ ap (λ (x : ℕ). cond (is_some (new_cell i p)) w x) has_byte.byte;
    }

-- ---- the patches of a set

pub image-byte : (n id : ℕ) (d : Disk) (ps : List Patch) (set i v : ℕ) → AllFit n ps → HasByte n i v d
    → HasByte n i (value_from id v (cells i ps) set) (image_from id d (places_of ps) set)
image-byte n id d [] set i v f has_byte = has_byte
image-byte n id d (p ∷ ps) set i v f has_byte =
    image-byte n (id + 1) (cond (has set id) (with_patch p d) d) ps set i
    (cond (has set id) (unwrap_or (new_cell i p) v) v) f.1 (with_patch-byte n (has set id) d p i v f.0 has_byte)

pub without_patches-bytes : (n id : ℕ) (d full : Disk) (ps : List Patch) (set i v w : ℕ) → AllFit n ps → AreUndo full ps
    → HasByte n i w full → HasByte n i v d
    → HasByte n i (undo_from id w v (cells i ps) set) (without_patches_from id d ps set)
without_patches-bytes n id d full [] set i v w f undo was has_byte = has_byte
without_patches-bytes n id d full (p ∷ ps) set i v w f undo was has_byte =
    without_patches-byte n (has set id) (without_patches_from (id + 1) d ps set) full p i _ w f.0 record { is = undo.0 }
    was
    (without_patches-bytes n (id + 1) d (with_patch p full) ps set i v (unwrap_or (new_cell i p) w) f.1 undo.1
    (with_patch-byte n true full p i w f.0 was) has_byte)

-- ---- from set to set

-- undo of a without b, then redo of b without a, gives each byte of the image of b
pub moved-byte : (n : ℕ) (base : Disk) (ps : List Patch) (a b back on i : ℕ) → length base.bytes ≡ n → AllFit n ps
    → AreUndo base ps
    → IsLess a b back → IsLess b a on → HasFront 0 (cells i ps) a → HasFront 0 (cells i ps) b
    → (v : ℕ) × HasByte n i v (image_from 0 (without_patches_from 0 (image_from 0 base (places_of ps) a) ps back)
    (places_of ps) on) × HasByte n i v (image_from 0 base (places_of ps) b)
moved-byte n base ps a b back on i long f undo less more p q =
    let v : ℕ = get_or base.bytes i 0 in
    let cs : List (Option ℕ) = cells i ps in
    let start : HasByte n i v base = record { long = long; byte = refl } in
    let went_back = without_patches-bytes n 0 (image_from 0 base (places_of ps) a) base ps back i (value_from 0 v cs a)
    v f undo start (image-byte n 0 base ps a i v f start) in
    let went_on = image-byte n 0 (without_patches_from 0 (image_from 0 base (places_of ps) a) ps back) ps on i
    (undo_from 0 v (value_from 0 v cs a) cs back) f went_back in (
      value_from 0 v cs b,
      record { long = went_on.long; byte = went_on.byte ∙ moved a b back on less more 0 v cs p q },
      image-byte n 0 base ps b i v f start,
    )
