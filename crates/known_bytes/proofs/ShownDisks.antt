-- Disks that agree on the blocks of another disk.
use Rattle.std.proofs.Common.{◌≡◌, ℕ, zero, suc, ◌+◌, ◌<◌, List, length, get_or, Bool, true, false, ◌&&◌, ◌||◌}
use Rattle.std.proofs.Common.{◌==◌, not}
use Rattle.std.proofs.Common.{arith, refl, sym, ap, subst, ◌∙◌, inl, inr, add-one}
use Rattle.std.specs.Prelude.{bytes_eq}
use Rattle.std.proofs.lemmas.Bool.{cases_eq, and_parts}
use Rattle.std.proofs.lemmas.Grind.{same_number_lists}
use Rattle.std.proofs.lemmas.Slice.Eq.{bytes_eq-Decides}
use Rattle.patch_sets.proofs.Ids.{eq_from_true, true_from_eq}
use Rattle.journal_replay.proofs.Blocks.{block-at, length-block, shaped-inside}
use Rattle.journal_replay.proofs.Walk.{shaped-disk}
use Rattle.crash_model.specs.Disk.{Disk, IsDisk, byte, block_of}
use Rattle.crash_model.specs.Atomic.{is_compared, shows}
use Rattle.crash_model.proofs.Shown.{shows_from, shows_to}
use Rattle.known_bytes.specs.Shown.{agrees, shows_below}

same_tests : (a b : Bool) → (a ≡ true → b ≡ true) → (b ≡ true → a ≡ true) → a ≡ b
same_tests true b to from = sym (to refl)
same_tests false true to from = from refl
same_tests false false to from = refl

both : (a b : Bool) → a ≡ true → b ≡ true → (a && b) ≡ true
both a b e f = rw (e, f) refl

-- ---- the bytes of a block

agrees-at : (n block : ℕ) (disk d : Disk) → agrees n block disk d ≡ true → (k : ℕ) → k < n
    → byte d block k ≡ byte disk block k
agrees-at zero block disk d e k less = absurd (omega arith)
agrees-at (suc n) block disk d e k less =
    let parts = and_parts (agrees n block disk d) (byte d block n == byte disk block n) e in
    elim (cases_eq k n) [
      | inl same ↦ subst (λ (m : ℕ). byte d block m ≡ byte disk block m) (sym same)
          (eq_from_true (byte d block n) (byte disk block n) parts.1)
      | inr other ↦ agrees-at n block disk d parts.0 k (omega (arith, less, other))
    ]

agrees-all : (n block : ℕ) (disk d : Disk) → ((k : ℕ) → k < n → byte d block k ≡ byte disk block k)
    → agrees n block disk d ≡ true
agrees-all zero block disk d each = refl
agrees-all (suc n) block disk d each = both (agrees n block disk d) (byte d block n == byte disk block n)
    (agrees-all n block disk d (λ k less. each k (omega arith)))
    (true_from_eq (byte d block n) (byte disk block n) (each n (omega arith)))

module _ (disk d : Disk) (block : ℕ) (is : IsDisk disk) (is_too : IsDisk d) (below : block < disk.blocks)
    (inside : block < d.blocks) where
  long : length (block_of disk block) ≡ 128
  long = length-block disk block (shaped-inside disk.blocks disk.journal disk block (shaped-disk disk is) below)

  long_too : length (block_of d block) ≡ 128
  long_too = length-block d block (shaped-inside d.blocks d.journal d block (shaped-disk d is_too) inside)

  same_block : ((k : ℕ) → k < 128 → byte d block k ≡ byte disk block k) → block_of d block ≡ block_of disk block
  same_block each = same_number_lists (block_of d block) (block_of disk block) (long_too ∙ sym long) (λ k less.
      let few : k < 128 = omega (arith, less, long_too) in
      block-at d block k few ∙ each k few ∙ sym (block-at disk block k few))

  -- all 128 bytes are the same where the blocks are
  pub agrees-whole : agrees 128 block disk d ≡ bytes_eq (block_of d block) (block_of disk block)
  agrees-whole = same_tests (agrees 128 block disk d) (bytes_eq (block_of d block) (block_of disk block))
      (λ e. (bytes_eq-Decides (block_of d block) (block_of disk block)).1 (same_block (agrees-at 128 block disk d e)))
      (λ e.
      let same : block_of d block ≡ block_of disk block = (bytes_eq-Decides (block_of d block) (block_of disk block)).0
      e in
      agrees-all 128 block disk d (λ k less. sym (block-at d block k less)
      ∙ ap (λ (row : List ℕ). get_or row k 0) same ∙ block-at disk block k less))

-- ---- the blocks of a disk

or_not : (a b : Bool) → (a ≡ true → b ≡ true) → (not a || b) ≡ true
or_not true b given = given refl
or_not false b given = refl

not_or : (a b : Bool) → (not a || b) ≡ true → a ≡ true → b ≡ true
not_or true b e is = e
not_or false b e is = absurd (cc)

below-at : (n : ℕ) (disk d : Disk) → shows_below n disk d ≡ true → (k : ℕ) → k < n → is_compared disk k ≡ true
    → bytes_eq (block_of d k) (block_of disk k) ≡ true
below-at zero disk d e k less is = absurd (omega arith)
below-at (suc n) disk d e k less is =
    let test : ℕ → Bool = λ m. not (is_compared disk m) || bytes_eq (block_of d m) (block_of disk m) in
    let parts = and_parts (shows_below n disk d) (test n) e in
    elim (cases_eq k n) [
      | inl same ↦ not_or (is_compared disk k) (bytes_eq (block_of d k) (block_of disk k))
          (ap test same ∙ parts.1) is
      | inr other ↦ below-at n disk d parts.0 k (omega (arith, less, other)) is
    ]

below-all : (n : ℕ) (disk d : Disk) → ((k : ℕ) → k < n → is_compared disk k ≡ true
    → bytes_eq (block_of d k) (block_of disk k) ≡ true) → shows_below n disk d ≡ true
below-all zero disk d each = refl
below-all (suc n) disk d each = both (shows_below n disk d)
    (not (is_compared disk n) || bytes_eq (block_of d n) (block_of disk n))
    (below-all n disk d (λ k less. each k (omega arith)))
    (or_not (is_compared disk n) (bytes_eq (block_of d n) (block_of disk n)) (each n (omega arith)))

pub below-whole : (disk d : Disk) → shows_below disk.blocks disk d ≡ shows d disk
below-whole disk d = same_tests (shows_below disk.blocks disk d) (shows d disk)
    (λ e. shows_to d disk (below-at disk.blocks disk d e))
    (λ e. below-all disk.blocks disk d (shows_from d disk e))

-- a block that is compared, and one that is not
pub below-more : (n : ℕ) (disk d : Disk) → is_compared disk n ≡ true
    → (shows_below n disk d && bytes_eq (block_of d n) (block_of disk n)) ≡ shows_below (suc n) disk d
below-more n disk d is = rw is refl

pub below-same : (n : ℕ) (disk d : Disk) → is_compared disk n ≡ false
    → shows_below n disk d ≡ shows_below (suc n) disk d
below-same n disk d is = rw is (sym (with_true (shows_below n disk d)))
  where
    with_true : (a : Bool) → (a && true) ≡ a
    with_true true = refl
    with_true false = refl

-- ---- steps of the loops

pub agrees-more : (n block value : ℕ) (disk d : Disk) → value ≡ byte disk block n
    → (agrees n block disk d && byte d block n == value) ≡ agrees (n + 1) block disk d
agrees-more n block value disk d is =
    ap (λ (v : ℕ). agrees n block disk d && byte d block n == v) is
    ∙ sym (ap (λ (k : ℕ). agrees k block disk d) (add-one n))

pub shows-more : (n : ℕ) (disk d : Disk) → is_compared disk n ≡ true
    → (shows_below n disk d && bytes_eq (block_of d n) (block_of disk n)) ≡ shows_below (n + 1) disk d
shows-more n disk d is = below-more n disk d is ∙ sym (ap (λ (k : ℕ). shows_below k disk d) (add-one n))

pub shows-same : (n : ℕ) (disk d : Disk) → is_compared disk n ≡ false
    → shows_below n disk d ≡ shows_below (n + 1) disk d
shows-same n disk d is = below-same n disk d is ∙ sym (ap (λ (k : ℕ). shows_below k disk d) (add-one n))
