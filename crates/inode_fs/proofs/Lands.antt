-- Where the changes of a plan lie: in a block of the disk, and in none of the journal.
use Rattle.std.proofs.Common.{◌≡◌, ℕ, zero, suc, ◌+◌, ◌-◌, ◌*◌, ◌%◌, ◌<◌, ◌≤◌, ◌⊎◌, inl, inr, List, [], ◌∷◌, ◌++◌, Bool}
use Rattle.std.proofs.Common.{true, false, Option, Some, None, Ok, length, replicate, arith, refl, sym, ◌∙◌, subst}
use Rattle.std.specs.Prelude.{All, option_to_list, nat_lt, if◌then◌else◌}
use Rattle.std.proofs.lemmas.List.Elements.{All-nil, All-cons}
use Rattle.std.proofs.lemmas.Bool.Decides.{nat_tests}
use Rattle.std.proofs.lemmas.Grind.{elements}
use Rattle.crash_model.specs.Disk.{Disk, IsDisk, with_bytes}
use Rattle.crash_model.specs.Names.{IsName}
use Rattle.crash_model.specs.Lists.{some_below, when}
use Rattle.crash_model.specs.Layout.{links_of, pointer_of, counts, is_data, target_of, entry_offset}
use Rattle.crash_model.specs.Plan.{name_spelling, is_named, is_free_entry, is_free_block, is_free_slot, is_free_inode}
use Rattle.crash_model.specs.Plan.{change, at_inode, inode_free, link_count, entry_set, map_clear, init_block}
use Rattle.crash_model.specs.Plan.{name_dropped, new_data, new_data_at, new_data_in, touch, touched_of, map_clear_at}
use Rattle.crash_model.specs.Plan.{map_clears, plan_of, with_changes}
use Rattle.crash_model.specs.Generations.{next_generation, generation_of}
use Rattle.crash_model.specs.Slots.{slot_number}
use Rattle.crash_model.specs.declared.operations.Slot.{Slot}
use Rattle.crash_model.specs.declared.names.Path.{Path}
use Rattle.crash_model.specs.declared.operations.Op.{Op}
use Rattle.crash_model.specs.declared.operations.Op.TheVariants.{Create, Write, Link, Unlink, Rename, Mkdir, Rmdir}
use Rattle.crash_model.specs.declared.operations.Op.TheVariants.{Overwrite, Truncate, Replace}
use Rattle.crash_model.specs.declared.plans.Change.{Change}
use Rattle.crash_model.specs.declared.plans.Role.{Role}
use Rattle.crash_model.specs.declared.plans.Role.TheVariants.{InodeInit, InodeFree, InitFile, InitDir, LinkUp, LinkDown}
use Rattle.crash_model.specs.declared.plans.Role.TheVariants.{EntrySet, EntryClear, Ptr, MapSet, MapClear, PtrClear}
use Rattle.crash_model.specs.declared.plans.Role.TheVariants.{Touch}
use Rattle.crash_model.proofs.Bytes.{length-overwrite}
use Rattle.soundness_laws.proofs.Searches.{first_below-is_some}
use Rattle.soundness_laws.proofs.OnTables.{counts-parts}
use Rattle.soundness_laws.proofs.Puts.{data-block, range-outside}
use Rattle.inode_fs.specs.Inside.{LiesInside, HasSameJournal, GivesName}
use Rattle.inode_fs.proofs.Accepted.{CreateFound, create-ok, WriteFound, write-ok, LinkFound, RenameFound, link-ok}
use Rattle.inode_fs.proofs.Accepted.{rename-ok, UnlinkFound, unlink-ok, MkdirFound, mkdir-ok, RmdirFound, rmdir-ok}
use Rattle.inode_fs.proofs.Accepted.{OverwriteFound, overwrite-ok, TruncateFound, truncate-ok, ReplaceFound, replace-ok}

pub record Lands (d : Disk) (c : Change) : Type 0 where
  pub block : c.block < d.blocks
  pub some : 0 < length c.new.items
  pub range : c.offset + length c.new.items ≤ 128
  pub spares : (c.block < 4) ⊎ (4 + d.journal ≤ c.block)
  pub behind : 0 < c.block

-- ---- each change

inode-lands : (d : Disk) (role : Role) (i from : ℕ) (new : List ℕ) → IsDisk d → i < 16 → 0 < length new
    → from + length new ≤ 16 → Lands d (at_inode role i from new)
inode-lands d role i from new disk below some fits = record {
  block = omega (arith, disk.least);
  some = some;
  range = omega arith;
  spares = inl (omega arith);
  behind = omega arith;
}

map-lands : (d : Disk) (role : Role) (b v : ℕ) → IsDisk d → b < d.blocks → Lands d (change role 1 b (v ∷ []))
map-lands d role b v disk below = record {
  block = omega (arith, disk.least);
  some = omega arith;
  range = omega (arith, disk.most);
  spares = inl (omega arith);
  behind = omega arith;
}

entry-lands : (d : Disk) (role : Role) (dir k : ℕ) (new : List ℕ) → counts d dir ≡ true → k < 10 → 0 < length new
    → length new ≤ 12 → Lands d (change role (pointer_of d dir 0) (entry_offset k) new)
entry-lands d role dir k new holds below some fits =
    let own = counts-parts d dir holds in
    record { block = own.high; some = some; range = omega arith; spares = inr own.low; behind = omega (arith, own.low) }

block-lands : (d : Disk) (role : Role) (b mark owner : ℕ) → is_data d b ≡ true
    → Lands d (init_block d role b mark owner)
block-lands d role b mark owner inside =
    let own = data-block d b inside in
    record { block = own.1; some = omega arith; range = omega arith; spares = inr own.0; behind = omega (arith, own.0) }

set-lands : (d : Disk) (dir k i : ℕ) (name : List ℕ) → counts d dir ≡ true → k < 10 → IsName name
    → Lands d (entry_set d dir k i name)
set-lands d dir k i name holds below is_name = entry-lands d EntrySet dir k ((i + 1) ∷ name_spelling name) holds below
    (omega arith) (grind (arith, elements, is_name.few))

-- ---- what the searches found

pub named-counts : (d : Disk) (dir : ℕ) (name : List ℕ) (k : ℕ) → is_named d dir name k ≡ true → counts d dir ≡ true
named-counts d dir name k e = grind (arith, nat_tests)

pub named-below : (d : Disk) (dir : ℕ) (name : List ℕ) (k : ℕ) → is_named d dir name k ≡ true → target_of d dir k < 16
named-below d dir name k e = grind (arith, nat_tests)

pub free-counts : (d : Disk) (dir k : ℕ) → is_free_entry d dir k ≡ true → counts d dir ≡ true
free-counts d dir k e = grind (arith, nat_tests)

pub free-data : (d : Disk) (b : ℕ) → is_free_block d b ≡ true → is_data d b ≡ true
free-data d b e = grind (arith, nat_tests)

-- ---- lists of changes

abbrev pub AllLand : Disk → List Change → Type 0
AllLand d [] = Unit {0}
AllLand d (c ∷ cs) = Lands d c × AllLand d cs

AllLand-append : (d : Disk) (cs es : List Change) → AllLand d cs → AllLand d es → AllLand d (cs ++ es)
AllLand-append d [] es first rest = rest
AllLand-append d (c ∷ cs) es first rest = (first.0, AllLand-append d cs es first.1 rest)

some-land : (d : Disk) (n : ℕ) (at : ℕ → Option Change) → ((k : ℕ) → AllLand d (option_to_list (at k)))
    → AllLand d (some_below n at)
unfolding some_below
some-land d zero at each = tt
some-land d (suc n) at each = AllLand-append d (some_below n at) (option_to_list (at n)) (some-land d n at each)
    (each n)

clear-lands : (d : Disk) (i s : ℕ) → IsDisk d → AllLand d (option_to_list (map_clear_at d i s))
clear-lands d i s disk = go (is_data d (pointer_of d i s)) refl
  where
    go : (test : Bool) → is_data d (pointer_of d i s) ≡ test
        → AllLand d (option_to_list (when test (map_clear (pointer_of d i s))))
    go true inside = (map-lands d MapClear (pointer_of d i s) 0 disk (data-block d (pointer_of d i s) inside).1, tt)
    go false outside = tt

clears-land : (d : Disk) (i : ℕ) → IsDisk d → AllLand d (map_clears d i)
clears-land d i disk = some-land d 4 (map_clear_at d i) (λ s. clear-lands d i s disk)

-- a name that goes
dropped-land : (d : Disk) (i : ℕ) → IsDisk d → i < 16 → AllLand d (name_dropped d i)
dropped-land d i disk below =
    elim (nat_lt 1 (links_of d i)) as (λ t. AllLand d (if t then link_count LinkDown i (links_of d i - 1) ∷ []
    else (inode_free d i ∷ map_clears d i))) [
      | true ↦ (inode-lands d LinkDown i 1 ((links_of d i - 1) ∷ []) disk below (omega arith) (omega arith), tt)
      | false ↦ (
        inode-lands d InodeFree i 0 (0 ∷ 0 ∷ next_generation d i ∷ replicate 13 0) disk below (omega arith)
            (omega arith),
        clears-land d i disk,
      )
    ]

data-lands : (d : Disk) (i s : ℕ) → AllLand d (option_to_list (new_data_at d i s))
data-lands d i s = go (is_data d (pointer_of d i s)) refl
  where
    go : (test : Bool) → is_data d (pointer_of d i s) ≡ test
        → AllLand d (option_to_list (when test (new_data d (pointer_of d i s))))
    go true inside =
        let own = data-block d (pointer_of d i s) inside in (
          record {
            block = own.1;
            some = omega arith;
            range = omega arith;
            spares = inr own.0;
            behind = omega (arith, own.0);
          },
          tt,
        )
    go false outside = tt

datas-land : (d : Disk) (i : ℕ) (slot : Option Slot) → AllLand d (new_data_in d i slot)
datas-land d i None = some-land d 4 (new_data_at d i) (λ s. data-lands d i s)
datas-land d i (Some slot) = data-lands d i (slot_number slot)

-- ---- the operations

create-lands : (d : Disk) (path : Path) (changes : List Change) → IsDisk d → IsName path.last
    → CreateFound d path changes → AllLand d changes
create-lands d path changes disk is_name f =
    let inode = first_below-is_some 16 (is_free_inode d) f.i f.inode in
    let place = first_below-is_some 10 (is_free_entry d f.dir) f.k f.place in
    subst (AllLand d) (sym f.are) (
      inode-lands d InodeInit f.i 0 (1 ∷ 1 ∷ generation_of d f.i ∷ replicate 13 0) disk inode.below (omega arith)
          (omega arith),
      (set-lands d f.dir f.k f.i path.last (free-counts d f.dir f.k place.holds) place.below is_name, tt),
    )

write-lands : (d : Disk) (path : Path) (changes : List Change) → IsDisk d → WriteFound d path changes
    → AllLand d changes
write-lands d path changes disk f =
    let entry = first_below-is_some 10 (is_named d f.dir path.last) f.k f.named in
    let target = target_of d f.dir f.k in
    let below = named-below d f.dir path.last f.k entry.holds in
    let block = first_below-is_some d.blocks (is_free_block d) f.b f.block in
    let slot = first_below-is_some 4 (is_free_slot d target) f.s f.slot in
    subst (AllLand d) (sym f.are) (
      map-lands d MapSet f.b 1 disk block.below,
      (
        block-lands d InitFile f.b 0x46 target (free-data d f.b block.holds),
        (inode-lands d Ptr target (4 + f.s) (f.b ∷ []) disk below (omega arith) (omega (arith, slot.below)), tt),
      ),
    )

link-lands : (d : Disk) (old new : Path) (changes : List Change) → IsDisk d → IsName new.last
    → LinkFound d old new changes → AllLand d changes
link-lands d old new changes disk is_name found =
    let f = found.at in
    let target = target_of d f.old_dir f.old_k in
    let entry = first_below-is_some 10 (is_named d f.old_dir old.last) f.old_k f.named in
    let below = named-below d f.old_dir old.last f.old_k entry.holds in
    let place = first_below-is_some 10 (is_free_entry d f.dir) f.k f.place in
    subst (AllLand d) (sym found.are) (
      inode-lands d LinkUp target 1 ((links_of d target + 1) ∷ []) disk below (omega arith) (omega arith),
      (set-lands d f.dir f.k target new.last (free-counts d f.dir f.k place.holds) place.below is_name, tt),
    )

unlink-lands : (d : Disk) (path : Path) (changes : List Change) → IsDisk d → UnlinkFound d path changes
    → AllLand d changes
unlink-lands d path changes disk f =
    let entry = first_below-is_some 10 (is_named d f.dir path.last) f.k f.named in
    let target = target_of d f.dir f.k in
    let below = named-below d f.dir path.last f.k entry.holds in
    subst (AllLand d) (sym f.are) (
      entry-lands d EntryClear f.dir f.k (replicate 12 0) (named-counts d f.dir path.last f.k entry.holds) entry.below
          (omega arith) (omega arith),
      dropped-land d target disk below,
    )

rename-lands : (d : Disk) (old new : Path) (changes : List Change) → IsDisk d → IsName new.last
    → RenameFound d old new changes → AllLand d changes
rename-lands d old new changes disk is_name found =
    let f = found.at in
    let target = target_of d f.old_dir f.old_k in
    let entry = first_below-is_some 10 (is_named d f.old_dir old.last) f.old_k f.named in
    let below = named-below d f.old_dir old.last f.old_k entry.holds in
    let place = first_below-is_some 10 (is_free_entry d f.dir) f.k f.place in
    subst (AllLand d) (sym found.are) (
      inode-lands d LinkUp target 1 ((links_of d target + 1) ∷ []) disk below (omega arith) (omega arith),
      (
        set-lands d f.dir f.k target new.last (free-counts d f.dir f.k place.holds) place.below is_name,
        (
          entry-lands d EntryClear f.old_dir f.old_k (replicate 12 0)
              (named-counts d f.old_dir old.last f.old_k entry.holds) entry.below (omega arith) (omega arith),
          (inode-lands d LinkDown target 1 (links_of d target ∷ []) disk below (omega arith) (omega arith), tt),
        ),
      ),
    )

mkdir-lands : (d : Disk) (path : Path) (changes : List Change) → IsDisk d → IsName path.last → MkdirFound d path changes
    → AllLand d changes
mkdir-lands d path changes disk is_name f =
    let inode = first_below-is_some 16 (is_free_inode d) f.i f.inode in
    let block = first_below-is_some d.blocks (is_free_block d) f.b f.block in
    let place = first_below-is_some 10 (is_free_entry d f.dir) f.k f.place in
    subst (AllLand d) (sym f.are) (
      inode-lands d InodeInit f.i 0 (2 ∷ 1 ∷ generation_of d f.i ∷ replicate 13 0) disk inode.below (omega arith)
          (omega arith),
      (
        map-lands d MapSet f.b 1 disk block.below,
        (
          block-lands d InitDir f.b 0x44 f.i (free-data d f.b block.holds),
          (
            inode-lands d Ptr f.i 4 (f.b ∷ []) disk inode.below (omega arith) (omega arith),
            (set-lands d f.dir f.k f.i path.last (free-counts d f.dir f.k place.holds) place.below is_name, tt),
          ),
        ),
      ),
    )

rmdir-lands : (d : Disk) (path : Path) (changes : List Change) → IsDisk d → RmdirFound d path changes
    → AllLand d changes
rmdir-lands d path changes disk f =
    let entry = first_below-is_some 10 (is_named d f.dir path.last) f.k f.named in
    let target = target_of d f.dir f.k in
    let below = named-below d f.dir path.last f.k entry.holds in
    subst (AllLand d) (sym f.are) (
      entry-lands d EntryClear f.dir f.k (replicate 12 0) (named-counts d f.dir path.last f.k entry.holds) entry.below
          (omega arith) (omega arith),
      (
        inode-lands d InodeFree target 0 (0 ∷ 0 ∷ next_generation d target ∷ replicate 13 0) disk below (omega arith)
            (omega arith),
        clear-lands d target 0 disk,
      ),
    )

overwrite-lands : (d : Disk) (path : Path) (slot : Option Slot) (changes : List Change) → IsDisk d
    → OverwriteFound d path slot changes → AllLand d changes
overwrite-lands d path slot changes disk f =
    let entry = first_below-is_some 10 (is_named d f.dir path.last) f.k f.named in
    let target = target_of d f.dir f.k in
    let below = named-below d f.dir path.last f.k entry.holds in
    subst (AllLand d) (sym f.are) (AllLand-append d (new_data_in d target slot) (touch d target ∷ [])
    (datas-land d target slot)
    (inode-lands d Touch target 8 ((touched_of d target + 1) % 256 ∷ []) disk below (omega arith) (omega arith), tt))

truncate-lands : (d : Disk) (path : Path) (changes : List Change) → IsDisk d → TruncateFound d path changes
    → AllLand d changes
truncate-lands d path changes disk f =
    let entry = first_below-is_some 10 (is_named d f.dir path.last) f.k f.named in
    let target = target_of d f.dir f.k in
    let below = named-below d f.dir path.last f.k entry.holds in
    subst (AllLand d) (sym f.are)
    (inode-lands d PtrClear target 4 (replicate 4 0) disk below (omega arith) (omega arith), clears-land d target disk)

replace-lands : (d : Disk) (old new : Path) (changes : List Change) → IsDisk d → IsName new.last
    → ReplaceFound d old new changes → AllLand d changes
replace-lands d old new changes disk is_name f =
    let target = target_of d f.old_dir f.old_k in
    let entry = first_below-is_some 10 (is_named d f.old_dir old.last) f.old_k f.named in
    let below = named-below d f.old_dir old.last f.old_k entry.holds in
    let place = first_below-is_some 10 (is_named d f.dir new.last) f.k f.new_named in
    subst (AllLand d) (sym f.are) (
      inode-lands d LinkUp target 1 ((links_of d target + 1) ∷ []) disk below (omega arith) (omega arith),
      (
        set-lands d f.dir f.k target new.last (named-counts d f.dir new.last f.k place.holds) place.below is_name,
        (
          entry-lands d EntryClear f.old_dir f.old_k (replicate 12 0)
              (named-counts d f.old_dir old.last f.old_k entry.holds) entry.below (omega arith) (omega arith),
          (
            inode-lands d LinkDown target 1 (links_of d target ∷ []) disk below (omega arith) (omega arith),
            dropped-land d (target_of d f.dir f.k) disk (named-below d f.dir new.last f.k place.holds),
          ),
        ),
      ),
    )

pub plan-lands : (d : Disk) (op : Op) (changes : List Change) → IsDisk d → GivesName op → plan_of d op ≡ Ok changes
    → AllLand d changes
plan-lands d (Create path) changes disk is_name e = create-lands d path changes disk is_name
    (create-ok d path changes e)
plan-lands d (Write path) changes disk is_name e = write-lands d path changes disk (write-ok d path changes e)
plan-lands d (Link old new) changes disk is_name e = link-lands d old new changes disk is_name
    (link-ok d old new changes e)
plan-lands d (Unlink path) changes disk is_name e = unlink-lands d path changes disk (unlink-ok d path changes e)
plan-lands d (Rename old new) changes disk is_name e =
    rename-lands d old new changes disk is_name (rename-ok d old new changes e)
plan-lands d (Mkdir path) changes disk is_name e = mkdir-lands d path changes disk is_name (mkdir-ok d path changes e)
plan-lands d (Rmdir path) changes disk is_name e = rmdir-lands d path changes disk (rmdir-ok d path changes e)
plan-lands d (Overwrite path slot) changes disk is_name e =
    overwrite-lands d path slot changes disk (overwrite-ok d path slot changes e)
plan-lands d (Truncate path) changes disk is_name e = truncate-lands d path changes disk (truncate-ok d path changes e)
plan-lands d (Replace old new) changes disk is_name e =
    replace-lands d old new changes disk is_name (replace-ok d old new changes e)

-- ---- what follows of them

pub all-inside : (d : Disk) (changes : List Change) → AllLand d changes → All (LiesInside d.blocks) changes
all-inside d [] all = All-nil (LiesInside d.blocks)
all-inside d (c ∷ cs) all = All-cons (LiesInside d.blocks) c cs
    (record { block = all.0.block; some = all.0.some; range = all.0.range }) (all-inside d cs all.1)

with_bytes-disk : (d : Disk) (c : Change) → IsDisk d → Lands d c → IsDisk (with_bytes d c.block c.offset c.new.items)
with_bytes-disk d c disk lands = record {
  least = disk.least;
  most = disk.most;
  room = disk.room;
  whole = length-overwrite d.bytes (128 * c.block + c.offset) c.new.items
      (omega (arith, disk.whole, lands.block, lands.range)) ∙ disk.whole;
}

-- where changes lie depends only on the disk's size
stay : (d : Disk) (c : Change) (cs : List Change) → AllLand d cs
    → AllLand (with_bytes d c.block c.offset c.new.items) cs
stay d c [] all = tt
stay d c (e ∷ es) all = (
  record {
    block = all.0.block;
    some = all.0.some;
    range = all.0.range;
    spares = all.0.spares;
    behind = all.0.behind;
  },
  stay d c es all.1,
)

pub with_changes-disk : (d : Disk) (changes : List Change) → IsDisk d → AllLand d changes
    → IsDisk (with_changes d changes)
with_changes-disk d [] disk all = disk
with_changes-disk d (c ∷ cs) disk all = with_changes-disk (with_bytes d c.block c.offset c.new.items) cs
    (with_bytes-disk d c disk all.0) (stay d c cs all.1)

pub with_changes-journal : (d : Disk) (changes : List Change) → IsDisk d → AllLand d changes
    → HasSameJournal d (with_changes d changes)
with_changes-journal d [] disk all block low high = refl
with_changes-journal d (c ∷ cs) disk all block low high =
    let next = with_bytes d c.block c.offset c.new.items in
    let at = 128 * c.block + c.offset in
    let fits : at + length c.new.items ≤ length d.bytes = omega (arith, disk.whole, all.0.block, all.0.range) in
    let side : (128 * block + 128 ≤ at) ⊎ (at + length c.new.items ≤ 128 * block) = elim all.0.spares [
      | inl before ↦ inr (omega (arith, all.0.range))
      | inr behind ↦ inl (omega arith)
    ] in
    with_changes-journal next cs (with_bytes-disk d c disk all.0) (stay d c cs all.1) block low high
    ∙ range-outside d.bytes at c.new.items (128 * block) 128 fits side

pub with_changes-size : (d : Disk) (changes : List Change) → ((with_changes d changes).blocks ≡ d.blocks)
    × ((with_changes d changes).journal ≡ d.journal)
with_changes-size d [] = (refl, refl)
with_changes-size d (c ∷ cs) = with_changes-size (with_bytes d c.block c.offset c.new.items) cs
