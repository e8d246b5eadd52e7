-- The slots that the checker has passed.
use Rattle.std.proofs.Common.{◌≡◌, ◌≢◌, ℕ, ◌+◌, ◌<◌, ◌≤◌, List, length, get_or, set, Bool, true, false, ◌&&◌, ◌||◌}
use Rattle.std.proofs.Common.{◌==◌, not, nat_lt, Some, None, arith, refl, sym, ap, ◌∙◌}
use Rattle.std.proofs.lemmas.Bool.{false≢true, eq-eqb, ne_eqb, lt-ltb, le-ltb, ltb-true, and_parts, and_right}
use Rattle.crash_model.proofs.EachBelow.{some_below-zero}
use Rattle.crash_model.specs.Disk.{Disk}
use Rattle.crash_model.specs.Layout.{is_live, is_data, map_of, pointer_of, is_pointer}
use Rattle.crash_model.specs.Faults.{is_tame, is_unwritten, is_marked_free, is_wild, each_slot, namers}
use Rattle.fs_check.specs.TableCounts.{count_before}
use Rattle.fs_check.specs.Passed.{HasCleanPointers, HavePassed, slots_of, is_marked, is_right_block}
use Rattle.fs_check.proofs.Passed.{passed-empty_row, passed-empty, passed-one, too_many, not_many}

-- ---- one slot

right-tests : (pointer area free marked : Bool) → (area && not free && marked) ≡ true
    → ((pointer && area && not marked) || (pointer && area && free) || (pointer && not area)) ≡ false
right-tests true true false true e = refl
right-tests false true false true e = refl
right-tests pointer false free marked e = absurd (false≢true e)
right-tests pointer true true marked e = absurd (false≢true e)
right-tests pointer true false false e = absurd (false≢true e)

wrong-tests : (area free marked : Bool) → (area && not free && marked) ≡ false → (area && not marked) ≡ false
    → (area && free) ≡ false → not area ≡ false → ⊥
wrong-tests false free marked e unwritten marked_free wild = false≢true (sym wild)
wrong-tests true true marked e unwritten marked_free wild = false≢true (sym marked_free)
wrong-tests true false true e unwritten marked_free wild = false≢true (sym e)
wrong-tests true false false e unwritten marked_free wild = false≢true (sym unwritten)

-- none of three tests holds
neither : (a b c : Bool) → (a || b || c) ≡ false → (a ≡ false) × (b ≡ false) × (c ≡ false)
neither false false c e = (refl, refl, e)
neither true b c e = absurd (false≢true (sym e))
neither false true c e = absurd (false≢true (sym e))

module _ (d : Disk) (inode slot : ℕ) where
  -- a slot that names the right block has no fault
  clean-right : is_right_block d inode (pointer_of d inode slot) ≡ true → (slots_of d).is_faulty inode slot ≡ false
  clean-right right =
      let block : ℕ = pointer_of d inode slot in
      right-tests (is_pointer d inode slot) (is_data d block) (map_of d block == 0) (is_marked d inode block) right

  -- nor has one that names none, and it counts for no block
  clean-empty : is_pointer d inode slot ≡ false → (slots_of d).is_faulty inode slot ≡ false
  clean-empty empty = rw empty refl

  none-empty : (block : ℕ) → is_pointer d inode slot ≡ false → (slots_of d).element block inode slot ≡ None
  none-empty block empty = rw empty refl

  pointer-dead : is_live d inode ≡ false → is_pointer d inode slot ≡ false
  pointer-dead dead = rw dead refl

  pointer-zero : pointer_of d inode slot ≡ 0 → is_pointer d inode slot ≡ false
  pointer-zero zero = rw (eq-eqb (pointer_of d inode slot) 0 zero) (and_right (is_live d inode) false refl)

  pointer-some : is_live d inode ≡ true → pointer_of d inode slot ≢ 0 → is_pointer d inode slot ≡ true
  pointer-some live some = rw (live, ne_eqb (pointer_of d inode slot) 0 some) refl

-- the right block is one of the data area
right-area : (d : Disk) (inode block : ℕ) → is_right_block d inode block ≡ true → is_data d block ≡ true
right-area d inode block right = (and_parts (is_data d block)
    _ (and_parts (is_data d block && not (map_of d block == 0)) _ right).0).0

-- a slot counts for the block that it names
names-here : (d : Disk) (inode slot block : ℕ) → is_live d inode ≡ true → pointer_of d inode slot ≡ block → block ≢ 0
    → is_right_block d inode block ≡ true → (slots_of d).element block inode slot ≡ Some (inode, slot)
names-here d inode slot block live points some right =
    rw (
      pointer-some d inode slot live (rw points some),
      points,
      right-area d inode block right,
      eq-eqb block block refl,
    ) refl

-- and for no other
names-other : (d : Disk) (other inode slot block : ℕ) → pointer_of d inode slot ≡ block → other ≢ block
    → (slots_of d).element other inode slot ≡ None
names-other d other inode slot block points differ =
    rw (
      ne_eqb (pointer_of d inode slot) other (λ e. differ (sym e ∙ points)),
      and_right (is_tame d inode slot) false refl,
    ) refl

-- ---- the next place

-- an inode that is not live has no pointers
pub slots-dead : (d : Disk) (inode : ℕ) (named : List ℕ) → is_live d inode ≡ false
    → HavePassed (slots_of d) inode 0 named → HavePassed (slots_of d) (inode + 1) 0 named
slots-dead d inode named dead = passed-empty_row (slots_of d) inode named
    (λ s. clean-empty d inode s (pointer-dead d inode s dead))
    (λ block s. none-empty d inode s block (pointer-dead d inode s dead))

pub slots-empty : (d : Disk) (inode slot : ℕ) (named : List ℕ) → pointer_of d inode slot ≡ 0
    → HavePassed (slots_of d) inode slot named → HavePassed (slots_of d) inode (slot + 1) named
slots-empty d inode slot named zero = passed-empty (slots_of d) inode slot named
    (clean-empty d inode slot (pointer-zero d inode slot zero))
    (λ block. none-empty d inode slot block (pointer-zero d inode slot zero))

-- a slot that names the right block, which none before it names
pub slots-named : (d : Disk) (inode slot block : ℕ) (named : List ℕ) → is_live d inode ≡ true
    → pointer_of d inode slot ≡ block → block ≢ 0
    → is_right_block d inode block ≡ true → block < 128 → get_or named block 0 ≡ 0
    → HavePassed (slots_of d) inode slot named → HavePassed (slots_of d) inode (slot + 1) (set named block 1)
slots-named d inode slot block named live points some right within unnamed =
    passed-one (slots_of d) inode slot block 1 named (inode, slot)
    (clean-right d inode slot (rw points right)) (names-here d inode slot block live points some right)
    (λ b differ. names-other d b inode slot block points differ) within (omega (arith, unnamed)) (omega arith)

-- ---- the end, and the first fault

pub named-all : (d : Disk) (block : ℕ) → count_before 4 ((slots_of d).element block) 16 0 ≡ length (namers d block)
unfolding count_before each_slot namers
named-all d block = omega (arith, ap length (some_below-zero ((slots_of d).element block 16)))

-- all slots have been passed
pub slots-all : (d : Disk) (inode : ℕ) (named : List ℕ) → d.blocks ≤ 128 → inode ≡ 16
    → HavePassed (slots_of d) inode 0 named → HasCleanPointers d
slots-all d inode named most end passed =
    let none : (i : ℕ) → i < 16 → (s : ℕ) → s < 4 → (is_unwritten d i s ≡ false) × (is_marked_free d i s ≡ false)
    × (is_wild d i s ≡ false) =
    λ i a s b. neither (is_unwritten d i s) (is_marked_free d i s) (is_wild d i s)
    (passed.rows_right i (omega arith) s b) in
    record {
      no_twice = λ block below. le-ltb 1 (length (namers d block))
          (rw (← named-all d block) (rw end at (not_many (slots_of d) inode block named (omega arith) passed)));
      no_unwritten = λ i a s b. (none i a s b).0;
      no_marked_free = λ i a s b. (none i a s b).1;
      no_wild = λ i a s b. (none i a s b).2;
    }

-- a slot that names a wrong block is a fault
pub faulty-wrong : (d : Disk) (inode slot block : ℕ) → inode < 16 → slot < 4 → is_live d inode ≡ true
    → pointer_of d inode slot ≡ block → block ≢ 0 → is_right_block d inode block ≡ false → HasCleanPointers d → ⊥
faulty-wrong d inode slot block a b live points some wrong clean =
    let to : ℕ = pointer_of d inode slot in
    let pointer : is_pointer d inode slot ≡ true = pointer-some d inode slot live (rw points some) in
    wrong-tests (is_data d to) (map_of d to == 0) (is_marked d inode to) (rw points wrong)
    (rw pointer at (clean.no_unwritten inode a slot b)) (rw pointer at (clean.no_marked_free inode a slot b))
    (rw pointer at (clean.no_wild inode a slot b))

-- so is one that names a block again
pub faulty-twice : (d : Disk) (inode slot block : ℕ) (named : List ℕ) → inode < 16 → slot < 4 → is_live d inode ≡ true
    → pointer_of d inode slot ≡ block → block ≢ 0
    → is_right_block d inode block ≡ true → block < 128 → get_or named block 0 ≢ 0
    → HavePassed (slots_of d) inode slot named → HasCleanPointers d → ⊥
faulty-twice d inode slot block named a b live points some right within again passed clean =
    let area : block < d.blocks = ltb-true block d.blocks
    (and_parts _ (nat_lt block d.blocks) (right-area d inode block right)).1 in
    let two : 1 < length (namers d block) = rw (← named-all d block)
    (too_many (slots_of d) 16 inode slot block named (inode, slot) a b within
    (names-here d inode slot block live points some right) (omega arith) passed) in
    false≢true (sym (clean.no_twice block area) ∙ lt-ltb 1 (length (namers d block)) two)
