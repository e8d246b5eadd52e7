-- The entries that the checker has passed.
use Rattle.std.proofs.Common.{◌≡◌, ◌≢◌, ℕ, ◌+◌, ◌<◌, ◌≤◌, List, length, get_or, set, true, false, nat_lt, Some, None}
use Rattle.std.proofs.Common.{arith, refl, sym, ap, ◌∙◌, subst}
use Rattle.std.proofs.lemmas.Bool.{false≢true, eq-eqb, ne_eqb, lt-ltb, le-ltb, ltb-true, and_parts, and_right}
use Rattle.crash_model.proofs.EachBelow.{some_below-zero}
use Rattle.crash_model.specs.Disk.{Disk}
use Rattle.crash_model.specs.Layout.{is_live, links_of, counts, entry_of, is_entry, target_of}
use Rattle.crash_model.specs.Faults.{is_dangling, each_entry, entries_to, has_low_links}
use Rattle.fs_check.specs.TableCounts.{count_before}
use Rattle.fs_check.specs.Passed.{HasCleanEntries, HavePassed, entries_of}
use Rattle.fs_check.proofs.Passed.{passed-empty_row, passed-empty, passed-one, too_many, not_many}

-- ---- one entry

module _ (d : Disk) (dir k : ℕ) where
  dangling-free : is_entry d dir k ≡ false → is_dangling d dir k ≡ false
  dangling-free free = rw free refl

  dangling-live : is_live d (target_of d dir k) ≡ true → is_dangling d dir k ≡ false
  dangling-live live = rw live (and_right (is_entry d dir k) false refl)

  leading-free : (inode : ℕ) → is_entry d dir k ≡ false → (entries_of d).element inode dir k ≡ None
  leading-free inode free = rw free refl

  leading-here : (inode : ℕ) → is_entry d dir k ≡ true → target_of d dir k ≡ inode
      → (entries_of d).element inode dir k ≡ Some (dir, k)
  leading-here inode used leads = rw (used, eq-eqb (target_of d dir k) inode leads) refl

  -- an entry leads to one inode alone
  leading-other : (other inode : ℕ) → target_of d dir k ≡ inode → other ≢ inode
      → (entries_of d).element other dir k ≡ None
  leading-other other inode leads differ = rw (
    ne_eqb (target_of d dir k) other (λ e. differ (sym e ∙ leads)),
    and_right (is_entry d dir k) false refl,
  ) refl

  entry-uncounted : counts d dir ≡ false → is_entry d dir k ≡ false
  entry-uncounted uncounted = rw uncounted refl

  entry-zero : entry_of d dir k ≡ 0 → is_entry d dir k ≡ false
  entry-zero zero = rw (eq-eqb (entry_of d dir k) 0 zero) (and_right (counts d dir) false refl)

  entry-some : counts d dir ≡ true → entry_of d dir k ≢ 0 → is_entry d dir k ≡ true
  entry-some counted some = rw (counted, ne_eqb (entry_of d dir k) 0 some) refl

-- ---- the next place

pub live-below : (d : Disk) (inode : ℕ) → is_live d inode ≡ true → inode < 16
live-below d inode live = ltb-true inode 16 (and_parts (nat_lt inode 16) _ live).0

-- a directory that does not count has no entries
pub entries-uncounted : (d : Disk) (dir : ℕ) (entries : List ℕ) → counts d dir ≡ false
    → HavePassed (entries_of d) dir 0 entries → HavePassed (entries_of d) (dir + 1) 0 entries
entries-uncounted d dir entries uncounted = passed-empty_row (entries_of d) dir entries
    (λ k. dangling-free d dir k (entry-uncounted d dir k uncounted))
    (λ inode k. leading-free d dir k inode (entry-uncounted d dir k uncounted))

pub entries-free : (d : Disk) (dir k : ℕ) (entries : List ℕ) → entry_of d dir k ≡ 0
    → HavePassed (entries_of d) dir k entries → HavePassed (entries_of d) dir (k + 1) entries
entries-free d dir k entries zero = passed-empty (entries_of d) dir k entries
    (dangling-free d dir k (entry-zero d dir k zero)) (λ inode. leading-free d dir k inode (entry-zero d dir k zero))

-- an entry to a live inode that has more links than entries before it
pub entries-leading : (d : Disk) (dir k inode : ℕ) (entries : List ℕ) → counts d dir ≡ true → entry_of d dir k ≢ 0
    → target_of d dir k ≡ inode → is_live d inode ≡ true
    → get_or entries inode 0 < links_of d inode → HavePassed (entries_of d) dir k entries
    → HavePassed (entries_of d) dir (k + 1) (set entries inode (get_or entries inode 0 + 1))
entries-leading d dir k inode entries counted some leads live room =
    passed-one (entries_of d) dir k inode (get_or entries inode 0 + 1) entries (dir, k)
    (dangling-live d dir k (subst (λ (i : ℕ). is_live d i ≡ true) (sym leads) live))
    (leading-here d dir k inode (entry-some d dir k counted some) leads)
    (λ i differ. leading-other d dir k i inode leads differ) (live-below d inode live) refl (omega arith)

-- ---- the end, and the first fault

pub leading-all : (d : Disk) (inode : ℕ) → count_before 10 ((entries_of d).element inode) 16 0
    ≡ length (entries_to d inode)
unfolding count_before each_entry entries_to
leading-all d inode = omega (arith, ap length (some_below-zero ((entries_of d).element inode 16)))

low_links-few : (d : Disk) (inode : ℕ) → length (entries_to d inode) ≤ links_of d inode → has_low_links d inode ≡ false
low_links-few d inode few = rw (le-ltb (links_of d inode) (length (entries_to d inode)) few)
    (and_right (is_live d inode) false refl)

low_links-many : (d : Disk) (inode : ℕ) → is_live d inode ≡ true → links_of d inode < length (entries_to d inode)
    → has_low_links d inode ≡ true
low_links-many d inode live many = rw (live, lt-ltb (links_of d inode) (length (entries_to d inode)) many) refl

-- all entries have been passed
pub entries-all : (d : Disk) (dir : ℕ) (entries : List ℕ) → dir ≡ 16 → HavePassed (entries_of d) dir 0 entries
    → HasCleanEntries d
entries-all d dir entries end passed = record {
  no_dangling = λ i below. passed.rows_right i (omega arith);
  no_low_links = λ inode below. low_links-few d inode
      (rw (← leading-all d inode) (rw end at (not_many (entries_of d) dir inode entries below passed)));
}

-- an entry to no live inode is a fault
pub faulty-dangling : (d : Disk) (dir k inode : ℕ) → dir < 16 → k < 10 → counts d dir ≡ true → entry_of d dir k ≢ 0
    → target_of d dir k ≡ inode → is_live d inode ≡ false → HasCleanEntries d → ⊥
faulty-dangling d dir k inode a b counted some leads dead clean =
    let dead_there = subst (λ (i : ℕ). is_live d i ≡ false) (sym leads) dead in
    false≢true (sym (clean.no_dangling dir a k b) ∙ rw (entry-some d dir k counted some, dead_there) refl)

-- so is one to an inode that has as many entries as links
pub faulty-links : (d : Disk) (dir k inode : ℕ) (entries : List ℕ) → dir < 16 → k < 10 → counts d dir ≡ true
    → entry_of d dir k ≢ 0 → target_of d dir k ≡ inode → is_live d inode ≡ true
    → links_of d inode ≤ get_or entries inode 0 → HavePassed (entries_of d) dir k entries → HasCleanEntries d → ⊥
faulty-links d dir k inode entries a b counted some leads live full passed clean =
    let below : inode < 16 = live-below d inode live in
    let many : links_of d inode < length (entries_to d inode) = rw (← leading-all d inode)
    (too_many (entries_of d) 16 dir k inode entries (dir, k) a b below
    (leading-here d dir k inode (entry-some d dir k counted some) leads) full passed) in
    false≢true (sym (clean.no_low_links inode below) ∙ low_links-many d inode live many)
