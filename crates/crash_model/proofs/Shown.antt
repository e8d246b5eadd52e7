-- What the tests of whole operations say: the blocks that are compared, and that an image shows a disk.
use Rattle.std.proofs.Common.{◌≡◌, ℕ, zero, suc, ◌+◌, ◌<◌, ◌≤◌, ◌⊎◌, inl, inr, List, [], ◌∷◌, length, Bool, true, false}
use Rattle.std.proofs.Common.{◌&&◌, ◌||◌, ◌==◌, not, arith, tests, refl, sym, subst, ap, ◌∙◌, ◌*◌, ◌-◌, take, drop}
use Rattle.std.proofs.Common.{length-drop}
use Rattle.std.proofs.lemmas.List.{length-take-le}
use Rattle.std.proofs.lemmas.Slice.Eq.{bytes_eq-Decides}
use Rattle.std.specs.Prelude.{nat_le, bytes_eq}
use Rattle.std.specs.List.{list_any, list_all, range_with_len}
use Rattle.std.proofs.lemmas.Bool.{false≢true, and_parts, or_cases}
use Rattle.patch_sets.proofs.Ids.{eq_from_true, true_from_eq}
use Rattle.crash_model.specs.Disk.{Disk, IsDisk, block_of}
use Rattle.crash_model.specs.Layout.{pointer_of, is_pointer}
use Rattle.crash_model.specs.Atomic.{is_pointed_to, is_compared, shows}

-- ---- tests

or_left : (a b : Bool) → a ≡ true → (a || b) ≡ true
or_left a b e = rw e refl

or_right : (a b : Bool) → b ≡ true → (a || b) ≡ true
or_right true b e = refl
or_right false b e = e

and_both : (a b : Bool) → a ≡ true → b ≡ true → (a && b) ≡ true
and_both a b e f = rw (e, f) refl

-- ---- tests of the numbers from one on

any_from : (p : ℕ → Bool) (a n : ℕ) → list_any p (range_with_len a n) ≡ true
    → (k : ℕ) × (k < a + n) × (p k ≡ true)
any_from p a zero e = absurd (false≢true e)
any_from p a (suc n) e = elim (or_cases (p a) (list_any p (range_with_len (a + 1) n)) e) [
  | inl here ↦ (a, omega arith, here)
  | inr later ↦ let r = any_from p (a + 1) n later in (r.0, omega (arith, r.1), r.2)
]

any_to : (p : ℕ → Bool) (a n k : ℕ) → k < n → p (a + k) ≡ true → list_any p (range_with_len a n) ≡ true
any_to p a zero k less is = absurd (omega arith)
any_to p a (suc n) zero less is = or_left (p a) (list_any p (range_with_len (a + 1) n))
    (let same : a + 0 ≡ a = omega arith in ap p (sym same) ∙ is)
any_to p a (suc n) (suc k) less is = or_right (p a) (list_any p (range_with_len (a + 1) n))
    (any_to p (a + 1) n k (omega arith) (let same : a + suc k ≡ a + 1 + k = omega arith in ap p (sym same) ∙ is))

all_from : (p : ℕ → Bool) (a n : ℕ) → list_all p (range_with_len a n) ≡ true → (k : ℕ) → k < n → p (a + k) ≡ true
all_from p a zero e k less = absurd (omega arith)
all_from p a (suc n) e zero less =
    let same : a + 0 ≡ a = omega arith in
    ap p same ∙ (and_parts (p a) (list_all p (range_with_len (a + 1) n)) e).0
all_from p a (suc n) e (suc k) less =
    let same : a + suc k ≡ a + 1 + k = omega arith in
    ap p same ∙ all_from p (a + 1) n (and_parts (p a) (list_all p (range_with_len (a + 1) n)) e).1 k (omega arith)

all_to : (p : ℕ → Bool) (a n : ℕ) → ((k : ℕ) → k < n → p (a + k) ≡ true) → list_all p (range_with_len a n) ≡ true
all_to p a zero each = refl
all_to p a (suc n) each = and_both (p a) (list_all p (range_with_len (a + 1) n))
    (let same : a + 0 ≡ a = omega arith in ap p (sym same) ∙ each 0 (omega arith))
    (all_to p (a + 1) n (λ k less.
    let same : a + suc k ≡ a + 1 + k = omega arith in ap p (sym same) ∙ each (suc k) (omega arith)))

-- ---- the blocks that are compared

pub record IsPointedTo (d : Disk) (block : ℕ) : Type 0 where
  pub inode : ℕ
  pub few : inode < 16
  pub slot : ℕ
  pub less : slot < 4
  pub points : is_pointer d inode slot ≡ true
  pub at : pointer_of d inode slot ≡ block

module _ (d : Disk) (block : ℕ) where
  pub pointed_from : is_pointed_to d block ≡ true → IsPointedTo d block
  pointed_from e =
      let i = any_from (λ inode. list_any (λ slot. is_pointer d inode slot && pointer_of d inode slot == block)
      (range_with_len 0 4)) 0 16 e in
      let s = any_from (λ slot. is_pointer d i.0 slot && pointer_of d i.0 slot == block) 0 4 i.2 in
      let both = and_parts (is_pointer d i.0 s.0) (pointer_of d i.0 s.0 == block) s.2 in
      record {
        inode = i.0;
        few = omega (arith, i.1);
        slot = s.0;
        less = omega (arith, s.1);
        points = both.0;
        at = eq_from_true (pointer_of d i.0 s.0) block both.1;
      }

  pub pointed_to : IsPointedTo d block → is_pointed_to d block ≡ true
  pointed_to p =
      let i : 0 + p.inode ≡ p.inode = omega arith in
      let s : 0 + p.slot ≡ p.slot = omega arith in
      any_to (λ inode. list_any (λ slot. is_pointer d inode slot && pointer_of d inode slot == block)
      (range_with_len 0 4)) 0 16 p.inode p.few
      (subst (λ (inode : ℕ). list_any (λ slot. is_pointer d inode slot && pointer_of d inode slot == block)
      (range_with_len 0 4) ≡ true) (sym i)
      (any_to (λ slot. is_pointer d p.inode slot && pointer_of d p.inode slot == block) 0 4 p.slot p.less
      (subst (λ (slot : ℕ). (is_pointer d p.inode slot && pointer_of d p.inode slot == block) ≡ true) (sym s)
      (and_both (is_pointer d p.inode p.slot) (pointer_of d p.inode p.slot == block) p.points
      (true_from_eq (pointer_of d p.inode p.slot) block p.at)))))

  pub compared_from : is_compared d block ≡ true → ((1 ≤ block) × (block ≤ 3)) ⊎ IsPointedTo d block
  compared_from e = elim (or_cases (nat_le 1 block && nat_le block 3) (is_pointed_to d block) e) [
    | inl low ↦ inl (grind (arith, tests), grind (arith, tests))
    | inr pointed ↦ inr (pointed_from pointed)
  ]

  pub compared_low : 1 ≤ block → block ≤ 3 → is_compared d block ≡ true
  compared_low least most = or_left (nat_le 1 block && nat_le block 3) (is_pointed_to d block) (grind (arith, tests))

  pub compared_pointed : IsPointedTo d block → is_compared d block ≡ true
  compared_pointed p = or_right (nat_le 1 block && nat_le block 3) (is_pointed_to d block) (pointed_to p)

-- ---- an image that shows a disk

not_or : (a b : Bool) → (not a || b) ≡ true → a ≡ true → b ≡ true
not_or true b e is = e
not_or false b e is = absurd (false≢true is)

or_not : (a b : Bool) → (a ≡ true → b ≡ true) → (not a || b) ≡ true
or_not true b given = given refl
or_not false b given = refl

-- it has the blocks that are compared
abbrev pub HasCompared : Disk → Disk → Type 0
HasCompared image d =
    (block : ℕ) → block < d.blocks → is_compared d block ≡ true
    → bytes_eq (block_of image block) (block_of d block) ≡ true

module _ (image d : Disk) where
  pub shows_from : shows image d ≡ true → HasCompared image d
  unfolding shows
  shows_from e block below compared =
      let same : 0 + block ≡ block = omega arith in
      not_or (is_compared d block) (bytes_eq (block_of image block) (block_of d block))
      (subst (λ (b : ℕ). (not (is_compared d b) || bytes_eq (block_of image b) (block_of d b)) ≡ true) same
      (all_from (λ b. not (is_compared d b) || bytes_eq (block_of image b) (block_of d b)) 0 d.blocks e block below))
      compared

  pub shows_to : HasCompared image d → shows image d ≡ true
  unfolding shows
  shows_to has =
      all_to (λ b. not (is_compared d b) || bytes_eq (block_of image b) (block_of d b)) 0 d.blocks (λ block below.
      let same : 0 + block ≡ block = omega arith in
      subst (λ (b : ℕ). (not (is_compared d b) || bytes_eq (block_of image b) (block_of d b)) ≡ true) (sym same)
      (or_not (is_compared d block) (bytes_eq (block_of image block) (block_of d block)) (has block below)))

-- ---- a block that an image does not have

no_elements : (xs : List ℕ) → length xs ≡ 0 → xs ≡ []
no_elements [] e = refl
no_elements (x ∷ xs) e = absurd (omega arith)

block_out : (d : Disk) (block : ℕ) → IsDisk d → d.blocks ≤ block → block_of d block ≡ []
block_out d block disk out =
    let long : length d.bytes ≡ 128 * d.blocks = disk.whole in
    let rest : length (drop (128 * block) d.bytes) ≡ length d.bytes - 128 * block = length-drop (128 * block) d.bytes in
    ap (λ (xs : List ℕ). take 128 xs) (no_elements (drop (128 * block) d.bytes) (omega arith))

block_long : (d : Disk) (block : ℕ) → IsDisk d → block < d.blocks → length (block_of d block) ≡ 128
block_long d block disk below =
    let long : length d.bytes ≡ 128 * d.blocks = disk.whole in
    let rest : length (drop (128 * block) d.bytes) ≡ length d.bytes - 128 * block = length-drop (128 * block) d.bytes in
    length-take-le 128 (drop (128 * block) d.bytes) (omega arith)

pub no_such_block : (image d : Disk) (block : ℕ) → IsDisk image → IsDisk d → block < d.blocks → image.blocks ≤ block
    → bytes_eq (block_of image block) (block_of d block) ≡ false
no_such_block image d block is is_too below out = bool_not (bytes_eq (block_of image block) (block_of d block)) (λ e.
    let same : block_of image block ≡ block_of d block =
    (bytes_eq-Decides (block_of image block) (block_of d block)).0 e in
    let none : length (block_of image block) ≡ 0 = ap (λ (xs : List ℕ). length xs) (block_out image block is out) in
    let some : length (block_of d block) ≡ 128 = block_long d block is_too below in
    let alike : length (block_of image block) ≡ length (block_of d block) = ap (λ (xs : List ℕ). length xs) same in
    absurd (omega (arith, none, some, alike)))
  where
    bool_not : (test : Bool) → (test ≡ true → ⊥) → test ≡ false
    bool_not true refuted = absurd (refuted refl)
    bool_not false refuted = refl
