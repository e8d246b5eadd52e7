-- The patches of a set, put on a disk and taken back one at a time.
use Rattle.std.proofs.Common.{◌≡◌, ◌≢◌, ℕ, zero, suc, ◌+◌, ◌<◌, ◌≤◌, List, [], ◌∷◌, Bool, true, false, cond, Some}
use Rattle.std.proofs.Common.{arith, refl, sym, ◌∙◌, ap, subst, inl, inr}
use Rattle.std.specs.Prelude.{slice_get}
use Rattle.patch_sets.specs.Sets.{Has, has}
use Rattle.patch_sets.specs.Ends.{IsLowest, IsHighest, IsWithout}
use Rattle.patch_sets.proofs.Bits.{eq_or_not, none_in_empty}
use Rattle.patch_sets.proofs.Ids.{has_true, has_false, from_has}
use Rattle.crash_model.specs.Disk.{Disk}
use Rattle.crash_model.specs.Patches.{places_of, image_from, image_of}
use Rattle.crash_model.specs.declared.patches.Patch.{Patch}
use Rattle.crash_image.specs.Moves.{with_patch, without_patch, without_patches_from, without_set}

-- ---- sets that have none, and sets that have the same

pub image-none : (id : ℕ) (d : Disk) (ps : List Patch) (set : ℕ) → ((q : ℕ) → id ≤ q → has set q ≡ false)
    → image_from id d (places_of ps) set ≡ d
image-none id d [] set none = refl
image-none id d (p ∷ ps) set none =
    ap (λ (b : Bool). image_from (id + 1) (cond b (with_patch p d) d) (places_of ps) set) (none id (omega arith))
    ∙ image-none (id + 1) d ps set (λ q from. none q (omega arith))

pub without_patches-none : (id : ℕ) (d : Disk) (ps : List Patch) (set : ℕ) → ((q : ℕ) → id ≤ q → has set q ≡ false)
    → without_patches_from id d ps set ≡ d
without_patches-none id d [] set none = refl
without_patches-none id d (p ∷ ps) set none = rw (none id (omega arith))
    (without_patches-none (id + 1) d ps set (λ q from. none q (omega arith)))

image-same : (id : ℕ) (d : Disk) (ps : List Patch) (a b : ℕ) → ((q : ℕ) → id ≤ q → has a q ≡ has b q)
    → image_from id d (places_of ps) a ≡ image_from id d (places_of ps) b
image-same id d [] a b same = refl
image-same id d (p ∷ ps) a b same =
    ap (λ (x : Bool). image_from (id + 1) (cond x (with_patch p d) d) (places_of ps) a) (same id (omega arith))
    ∙ image-same (id + 1) (cond (has b id) (with_patch p d) d) ps a b (λ q from. same q (omega arith))

-- ---- one patch

-- the rest has all of the set but k
pub record IsRest (set k rest : ℕ) : Type 0 where
  pub had : has set k ≡ true
  pub gone : has rest k ≡ false
  pub others : (q : ℕ) → q ≢ k → has rest q ≡ has set q

pub rest_of : (set k rest : ℕ) → Has set k → IsWithout set k rest → IsRest set k rest
rest_of set k rest is less = record {
  had = has_true set k is;
  gone = has_false rest k less.gone;
  others = λ q ne. same (has rest q) (has set q)
      (λ t. has_true set q ((less.others q ne).0 (from_has rest q t)))
      (λ t. has_true rest q ((less.others q ne).1 (from_has set q t)));
}
  where
    same : (x y : Bool) → (x ≡ true → y ≡ true) → (y ≡ true → x ≡ true) → x ≡ y
    same true y to from = sym (to refl)
    same false true to from = from refl
    same false false to from = refl

found : (x p : Patch) → Some x ≡ Some p → x ≡ p
found x p e = cc

-- the lowest goes first, and then the rest
pub image-lowest : (r id : ℕ) (d : Disk) (ps : List Patch) (set k rest : ℕ) (p : Patch) → k ≡ id + r
    → slice_get ps r ≡ Some p
    → IsRest set k rest → ((q : ℕ) → q < k → has set q ≡ false)
    → image_from id d (places_of ps) set ≡ image_from id (with_patch p d) (places_of ps) rest
image-lowest r id d [] set k rest p at is less low = absurd (cc)
image-lowest zero id d (x ∷ ps) set k rest p at is less low =
    let here : id ≡ k = omega arith in
    let had : has set id ≡ true = ap (has set) here ∙ less.had in
    let gone : has rest id ≡ false = ap (has rest) here ∙ less.gone in
    let same : x ≡ p = found x p is in
    let after : Disk = with_patch p d in
    ap (λ (b : Bool). image_from (id + 1) (cond b (with_patch x d) d) (places_of ps) set) had
    ∙ ap (λ (y : Patch). image_from (id + 1) (with_patch y d) (places_of ps) set) same
    ∙ image-same (id + 1) after ps set rest (λ q from. sym (less.others q (omega arith)))
    ∙ ap (λ (b : Bool). image_from (id + 1) (cond b (with_patch x after) after) (places_of ps) rest) (sym gone)
image-lowest (suc r) id d (x ∷ ps) set k rest p at is less low =
    let out : has set id ≡ false = low id (omega arith) in
    let still : has rest id ≡ false = less.others id (omega arith) ∙ out in
    let after : Disk = with_patch p d in
    ap (λ (b : Bool). image_from (id + 1) (cond b (with_patch x d) d) (places_of ps) set) out
    ∙ image-lowest r (id + 1) d ps set k rest p (omega arith) is less low
    ∙ ap (λ (b : Bool). image_from (id + 1) (cond b (with_patch x after) after) (places_of ps) rest) (sym still)

-- the highest is taken back first, and then the rest
pub without_patches-highest : (r id : ℕ) (d : Disk) (ps : List Patch) (set k rest : ℕ) (p : Patch) → k ≡ id + r
    → slice_get ps r ≡ Some p
    → IsRest set k rest → ((q : ℕ) → k < q → has set q ≡ false)
    → without_patches_from id d ps set ≡ without_patches_from id (without_patch p d) ps rest
without_patches-highest r id d [] set k rest p at is less high = absurd (cc)
without_patches-highest zero id d (x ∷ ps) set k rest p at is less high =
    let here : id ≡ k = omega arith in
    let had : has set id ≡ true = ap (has set) here ∙ less.had in
    let gone : has rest id ≡ false = ap (has rest) here ∙ less.gone in
    let same : x ≡ p = found x p is in
    let before : without_patches_from (id + 1) d ps set ≡ d =
    without_patches-none (id + 1) d ps set (λ q from. high q (omega arith)) in
    let after : without_patches_from (id + 1) (without_patch p d) ps rest ≡ without_patch p d =
    without_patches-none (id + 1) (without_patch p d) ps rest
    (λ q from. less.others q (omega arith) ∙ high q (omega arith)) in
    rw (had, gone, same, before, after) refl
without_patches-highest (suc r) id d (x ∷ ps) set k rest p at is less high =
    rw (less.others id (omega arith)) (ap (λ (e : Disk). cond (has set id) (without_patch x e) e)
    (without_patches-highest r (id + 1) d ps set k rest p (omega arith) is less high))

-- ---- the loops' steps

-- what a set makes of a disk, its lowest patch and then the rest make of it, and taken back its highest and then the
-- rest
module _ (d after whole : Disk) (ps : List Patch) (set k rest : ℕ) (p : Patch) (is : slice_get ps k ≡ Some p)
    (without : IsWithout set k rest) where
  pub redo_step : IsLowest set k → after ≡ with_patch p d → image_of d ps set ≡ whole → image_of after ps rest ≡ whole
  redo_step lowest put_is was =
      ap (λ (e : Disk). image_of e ps rest) put_is
      ∙ sym (image-lowest k 0 d ps set k rest p (omega arith) is (rest_of set k rest lowest.inside without)
      (λ q below. has_false set q (λ has. let least = lowest.least q has in omega arith)))
      ∙ was

  pub undo_step : IsHighest set k → after ≡ without_patch p d → without_set d ps set ≡ whole
      → without_set after ps rest ≡ whole
  undo_step highest put_is was =
      ap (λ (e : Disk). without_set e ps rest) put_is
      ∙ sym (without_patches-highest k 0 d ps set k rest p (omega arith) is (rest_of set k rest highest.inside without)
      (λ q above. has_false set q (λ has. let most = highest.most q has in omega arith)))
      ∙ was

none_has : (q : ℕ) → has 0 q ≡ false
none_has q = has_false 0 q (none_in_empty q)

pub image-empty : (d : Disk) (ps : List Patch) → image_of d ps 0 ≡ d
image-empty d ps = image-none 0 d ps 0 (λ q from. none_has q)

pub without_patches-empty : (d : Disk) (ps : List Patch) → without_set d ps 0 ≡ d
without_patches-empty d ps = without_patches-none 0 d ps 0 (λ q from. none_has q)

-- what holds of each id of a set holds of each that is left
pub still_below : (n set k rest : ℕ) → IsWithout set k rest → ((id : ℕ) → Has set id → id < n) → (id : ℕ) → Has rest id
    → id < n
still_below n set k rest without below id is = elim (eq_or_not id k) [
  | inl e ↦ absurd (without.gone (subst (Has rest) e is))
  | inr ne ↦ below id ((without.others id ne).0 is)
]
