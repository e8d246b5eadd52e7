-- How many pointers name each block, and how many entries lead to each live inode.
use Rattle.std.proofs.Common.{◌≡◌, ◌≢◌, ℕ, ◌+◌, ◌<◌, ◌≤◌, ◌*◌, inl, inr, List, [], length, get_or, set, Bool, true}
use Rattle.std.proofs.Common.{false, ◌&&◌, Some, None, arith, refl, sym, ap, ◌∙◌}
use Rattle.std.proofs.lemmas.Bool.{false≢true, cases_Bool, cases_eq, eq-eqb, ne_eqb, lt-ltb, le-ltb, and_right}
use Rattle.crash_model.specs.Lists.{when, some_below}
use Rattle.crash_model.proofs.EachBelow.{some_below-zero, each_below-none, some_below-none}
use Rattle.crash_model.specs.Disk.{Disk}
use Rattle.crash_model.specs.Layout.{is_live, is_data, links_of, pointer_of, is_pointer, counts, entry_of, is_entry}
use Rattle.crash_model.specs.Layout.{target_of}
use Rattle.crash_model.specs.Faults.{is_tame, each_slot, each_entry, entries_to, namers, leads_to, is_twice}
use Rattle.crash_model.specs.Faults.{has_low_links}
use Rattle.crash_model.specs.declared.fault.Fault.TheVariants.{Twice, LowLinks}
use Rattle.fs_check.specs.TableCounts.{count_before, IsTally}
use Rattle.fs_check.specs.References.{named_at, led_at, twice_at, low_links_at}
use Rattle.fs_check.proofs.Counting.{tally-empty_row, tally-none, tally-one, count_before-most}

-- ---- pointers

module _ (d : Disk) (inode : ℕ) (pointer_counts : List ℕ) where
  -- an inode that is not live has no pointers
  pub pointer_counts-dead : is_live d inode ≡ false → IsTally 4 (named_at d) inode 0 pointer_counts
      → IsTally 4 (named_at d) (inode + 1) 0 pointer_counts
  pointer_counts-dead dead = tally-empty_row 4 (named_at d) inode pointer_counts (λ block s. rw dead refl)

  module _ (slot : ℕ) where
    pub pointer_counts-none : pointer_of d inode slot ≡ 0 → IsTally 4 (named_at d) inode slot pointer_counts
        → IsTally 4 (named_at d) inode (slot + 1) pointer_counts
    pointer_counts-none zero = tally-none 4 (named_at d) inode slot pointer_counts
        (λ block b. rw (eq-eqb (pointer_of d inode slot) 0 zero, and_right (is_live d inode) false refl) refl)

    pub pointer_counts-wild : (block : ℕ) → pointer_of d inode slot ≡ block → is_data d block ≡ false
        → IsTally 4 (named_at d) inode slot pointer_counts → IsTally 4 (named_at d) inode (slot + 1) pointer_counts
    pointer_counts-wild block points outside = tally-none 4 (named_at d) inode slot pointer_counts
        (λ other b. rw (ap (is_data d) points ∙ outside, and_right (is_pointer d inode slot) false refl) refl)

    pub pointer_counts-tame : (block v : ℕ) → is_live d inode ≡ true → pointer_of d inode slot ≡ block → block ≢ 0
        → is_data d block ≡ true
        → block < length pointer_counts → v ≡ get_or pointer_counts block 0 + 1
        → IsTally 4 (named_at d) inode slot pointer_counts
        → IsTally 4 (named_at d) inode (slot + 1) (set pointer_counts block v)
    pointer_counts-tame block v live points some area within more =
        tally-one 4 (named_at d) inode slot pointer_counts block v
        (inode, slot)
        (rw (live, points, ne_eqb block 0 some, area, eq-eqb block block refl) refl)
        (λ other differ. rw (
          ne_eqb (pointer_of d inode slot) other (λ e. differ (sym e ∙ points)),
          and_right (is_tame d inode slot) false refl,
        ) refl)
        within more

-- a block in all rows
pointer_counts-all : (d : Disk) (block : ℕ) → count_before 4 (named_at d block) 16 0 ≡ length (namers d block)
unfolding count_before each_slot namers
pointer_counts-all d block = omega (arith, ap length (some_below-zero (named_at d block 16)))

-- a block that two pointers name
pub is_twice-many : (d : Disk) (block : ℕ) (pointer_counts : List ℕ) → block < length pointer_counts
    → IsTally 4 (named_at d) 16 0 pointer_counts → 1 < get_or pointer_counts block 0 → is_twice d block ≡ true
is_twice-many d block pointer_counts within tally many = lt-ltb 1 (length (namers d block))
    (rw (← pointer_counts-all d block, ← tally block within) many)

pub is_twice-few : (d : Disk) (block : ℕ) (pointer_counts : List ℕ) → block < length pointer_counts
    → IsTally 4 (named_at d) 16 0 pointer_counts → get_or pointer_counts block 0 ≤ 1 → is_twice d block ≡ false
is_twice-few d block pointer_counts within tally few = le-ltb 1 (length (namers d block))
    (rw (← pointer_counts-all d block, ← tally block within) few)

-- is listed
pub twice-many : (d : Disk) (block : ℕ) (pointer_counts : List ℕ) → block < length pointer_counts
    → IsTally 4 (named_at d) 16 0 pointer_counts
    → 1 < get_or pointer_counts block 0 → twice_at d block ≡ Some (Twice block)
twice-many d block pointer_counts within tally many = rw (is_twice-many d block pointer_counts within tally many) refl

pub twice-few : (d : Disk) (block : ℕ) (pointer_counts : List ℕ) → block < length pointer_counts
    → IsTally 4 (named_at d) 16 0 pointer_counts
    → get_or pointer_counts block 0 ≤ 1 → twice_at d block ≡ None
twice-few d block pointer_counts within tally few = rw (is_twice-few d block pointer_counts within tally few) refl

-- if each count is small, no block is listed
pub twice-never : (d : Disk) (pointer_counts : List ℕ) → d.blocks ≤ length pointer_counts
    → IsTally 4 (named_at d) 16 0 pointer_counts
    → ((at : ℕ) → at < d.blocks → get_or pointer_counts at 0 ≤ 1)
    → some_below d.blocks (twice_at d) ≡ []
twice-never d pointer_counts most tally few = some_below-none d.blocks (twice_at d)
    (λ block below. twice-few d block pointer_counts (omega (arith, most)) tally (few block below))

-- ---- entries

module _ (d : Disk) (dir : ℕ) (entry_counts : List ℕ) where
  -- a directory that does not count has no entries
  pub entry_counts-uncounted : counts d dir ≡ false → IsTally 10 (led_at d) dir 0 entry_counts
      → IsTally 10 (led_at d) (dir + 1) 0 entry_counts
  entry_counts-uncounted uncounted = tally-empty_row 10 (led_at d) dir entry_counts
      (λ inode k. rw (uncounted, and_right (is_live d inode) false refl) refl)

  module _ (k : ℕ) where
    pub entry_counts-none : entry_of d dir k ≡ 0 → IsTally 10 (led_at d) dir k entry_counts
        → IsTally 10 (led_at d) dir (k + 1) entry_counts
    entry_counts-none zero = tally-none 10 (led_at d) dir k entry_counts
        (λ inode b. rw (
          eq-eqb (entry_of d dir k) 0 zero,
          and_right (counts d dir) false refl,
          and_right (is_live d inode) false refl,
        ) refl)

    pub entry_counts-dead : (inode : ℕ) → target_of d dir k ≡ inode → is_live d inode ≡ false
        → IsTally 10 (led_at d) dir k entry_counts → IsTally 10 (led_at d) dir (k + 1) entry_counts
    entry_counts-dead inode leads dead = tally-none 10 (led_at d) dir k entry_counts (λ other b. nowhere other)
      where
        nowhere : (other : ℕ) → led_at d other dir k ≡ None
        nowhere other = elim (cases_eq other inode) [
          | inl same ↦ rw (same, dead) refl
          | inr differ ↦ rw (
            ne_eqb (target_of d dir k) other (λ e. differ (sym e ∙ leads)),
            and_right (is_entry d dir k) false refl,
            and_right (is_live d other) false refl,
          ) refl
        ]

    pub entry_counts-live : (inode v : ℕ) → counts d dir ≡ true → entry_of d dir k ≢ 0 → target_of d dir k ≡ inode
        → is_live d inode ≡ true
        → inode < length entry_counts → v ≡ get_or entry_counts inode 0 + 1
        → IsTally 10 (led_at d) dir k entry_counts → IsTally 10 (led_at d) dir (k + 1) (set entry_counts inode v)
    entry_counts-live inode v counted some leads live within more =
        tally-one 10 (led_at d) dir k entry_counts inode v (dir, k)
        (rw (live, counted, ne_eqb (entry_of d dir k) 0 some, eq-eqb (target_of d dir k) inode leads) refl)
        (λ other differ. rw (
          ne_eqb (target_of d dir k) other (λ e. differ (sym e ∙ leads)),
          and_right (is_entry d dir k) false refl,
          and_right (is_live d other) false refl,
        ) refl)
        within more

-- an inode in all rows
entry_counts-when : (d : Disk) (inode : ℕ) (live : Bool) → live ≡ true
    → count_before 10 (λ dir k. when {X = ℕ × ℕ} (live && leads_to d dir k inode) (dir, k)) 16 0
    ≡ length (entries_to d inode)
unfolding count_before each_entry entries_to
entry_counts-when d inode true e = omega (
  arith,
  ap length (some_below-zero
      (λ k. when {X = ℕ × ℕ} (leads_to d 16 k inode) (16, k))),
)
entry_counts-when d inode false e = absurd (false≢true e)

entry_counts-all : (d : Disk) (inode : ℕ) → is_live d inode ≡ true
    → count_before 10 (led_at d inode) 16 0 ≡ length (entries_to d inode)
entry_counts-all d inode live = entry_counts-when d inode (is_live d inode) live

entry_counts-never : (d : Disk) (inode : ℕ) → is_live d inode ≡ false → count_before 10 (led_at d inode) 16 0 ≡ 0
unfolding count_before
entry_counts-never d inode dead = omega (
  arith,
  ap length (each_below-none 16 _ (λ dir a. some_below-none 10 (led_at d inode dir) (λ k b. rw dead refl))),
  ap length (some_below-zero (led_at d inode 16)),
)

-- more entries than links are listed only for a live inode
pub low_links-many : (d : Disk) (inode links : ℕ) (entry_counts : List ℕ) → inode < length entry_counts
    → IsTally 10 (led_at d) 16 0 entry_counts
    → links ≡ links_of d inode → links < get_or entry_counts inode 0
    → low_links_at d inode ≡ Some (LowLinks inode (get_or entry_counts inode 0) links)
low_links-many d inode links entry_counts within tally is many = elim (cases_Bool (is_live d inode)) [
  | inl live ↦
      let all : get_or entry_counts inode 0 ≡ length (entries_to d inode) =
      tally inode within ∙ entry_counts-all d inode live in
      rw (live, lt-ltb (links_of d inode) (length (entries_to d inode)) (omega (arith, is, all, many)), is, all) refl
  | inr dead ↦ absurd (omega (arith, tally inode within, entry_counts-never d inode dead))
]

pub low_links-few : (d : Disk) (inode : ℕ) (entry_counts : List ℕ) → inode < length entry_counts
    → IsTally 10 (led_at d) 16 0 entry_counts
    → get_or entry_counts inode 0 ≤ links_of d inode → low_links_at d inode ≡ None
low_links-few d inode entry_counts within tally few = elim (cases_Bool (is_live d inode)) [
  | inl live ↦
      let all : get_or entry_counts inode 0 ≡ length (entries_to d inode) =
      tally inode within ∙ entry_counts-all d inode live in
      rw (live, le-ltb (links_of d inode) (length (entries_to d inode)) (rw (← all) few)) refl
  | inr dead ↦ rw dead refl
]

-- the same as a test
pub has_low_links-many : (d : Disk) (inode : ℕ) (entry_counts : List ℕ) → inode < length entry_counts
    → IsTally 10 (led_at d) 16 0 entry_counts → links_of d inode < get_or entry_counts inode 0
    → has_low_links d inode ≡ true
has_low_links-many d inode entry_counts within tally many = elim (cases_Bool (is_live d inode)) [
  | inl live ↦ rw (
    live,
    lt-ltb (links_of d inode) (length (entries_to d inode))
        (omega (arith, tally inode within, entry_counts-all d inode live, many)),
  ) refl
  | inr dead ↦ absurd (omega (arith, tally inode within, entry_counts-never d inode dead, many))
]

pub has_low_links-few : (d : Disk) (inode : ℕ) (entry_counts : List ℕ) → inode < length entry_counts
    → IsTally 10 (led_at d) 16 0 entry_counts → get_or entry_counts inode 0 ≤ links_of d inode
    → has_low_links d inode ≡ false
has_low_links-few d inode entry_counts within tally few = elim (cases_Bool (is_live d inode)) [
  | inl live ↦ rw (
    live,
    le-ltb (links_of d inode) (length (entries_to d inode))
        (omega (arith, tally inode within, entry_counts-all d inode live, few)),
  ) refl
  | inr dead ↦ rw dead refl
]

-- no count is larger than the number of places before
pub entry_counts-most : (d : Disk) (dir k inode : ℕ) (entry_counts : List ℕ) → inode < length entry_counts
    → IsTally 10 (led_at d) dir k entry_counts
    → get_or entry_counts inode 0 ≤ 10 * dir + k
entry_counts-most d dir k inode entry_counts within tally =
    omega (arith, tally inode within, count_before-most 10 (led_at d inode) dir k)

pub pointer_counts-most : (d : Disk) (inode slot block : ℕ) (pointer_counts : List ℕ) → block < length pointer_counts
    → IsTally 4 (named_at d) inode slot pointer_counts → get_or pointer_counts block 0 ≤ 4 * inode + slot
pointer_counts-most d inode slot block pointer_counts within tally = omega
    (arith, tally block within, count_before-most 4 (named_at d block) inode slot)
