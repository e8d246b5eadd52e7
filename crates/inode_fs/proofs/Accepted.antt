-- What the searches found where an operation is accepted.
use Rattle.std.proofs.Common.{◌≡◌, ◌≢◌, ℕ, ◌+◌, ◌<◌, List, [], ◌∷◌, ◌++◌, false, Option, Some, None, Ok}
use Rattle.std.specs.Prelude.{option_to_list}
use Rattle.std.proofs.lemmas.Bool.{eqb-true, eqb-false, leb-false}
use Rattle.soundness_laws.proofs.Answered.{then_ok-ok, unless-ok, with_found-ok, at_entry-ok, answer-ok, none-found}
use Rattle.soundness_laws.proofs.Answered.{test-holds}
use Rattle.crash_model.specs.Disk.{Disk}
use Rattle.crash_model.specs.Layout.{kind_of, links_of, target_of}
use Rattle.crash_model.specs.Plan.{entry_named, walk_end, free_inode, free_block, free_entry, free_slot, has_entries}
use Rattle.crash_model.specs.Plan.{relink_plan, inode_init, inode_free, link_count, pointer_set, entry_set, entry_clear}
use Rattle.crash_model.specs.Plan.{map_set, map_clear_at, map_clears, init_block, plan_of, name_dropped, new_data_in}
use Rattle.crash_model.specs.Plan.{touch, pointers_clear, lacks_block_in}
use Rattle.crash_model.specs.declared.operations.Slot.{Slot}
use Rattle.crash_model.specs.declared.names.Path.{Path}
use Rattle.crash_model.specs.declared.operations.Op.TheVariants.{Create, Write, Link, Unlink, Rename, Mkdir, Rmdir}
use Rattle.crash_model.specs.declared.operations.Op.TheVariants.{Overwrite, Truncate, Replace}
use Rattle.crash_model.specs.declared.plans.Change.{Change}
use Rattle.crash_model.specs.declared.plans.Role.TheVariants.{InitFile, InitDir, LinkUp, LinkDown}

-- ---- the operations

pub record CreateFound (d : Disk) (path : Path) (changes : List Change) : Type 0 where
  pub dir : ℕ
  pub i : ℕ
  pub k : ℕ
  pub walk : walk_end d 0 path.through.items ≡ Ok dir
  pub absent : entry_named d dir path.last ≡ None
  pub inode : free_inode d ≡ Some i
  pub place : free_entry d dir ≡ Some k
  pub are : changes ≡ inode_init d i 1 ∷ entry_set d dir k i path.last ∷ []

pub create-ok : (d : Disk) (path : Path) (changes : List Change) → plan_of d (Create path) ≡ Ok changes
    → CreateFound d path changes
unfolding plan_of
create-ok d path changes e =
    let walk = then_ok-ok (walk_end d 0 path.through.items) _ changes e in
    let absent = unless-ok _ _ _ changes walk.2 in
    let inode = with_found-ok (free_inode d) _ _ changes absent.1 in
    let place = with_found-ok (free_entry d walk.0) _ _ changes inode.2 in
    record {
      dir = walk.0;
      i = inode.0;
      k = place.0;
      walk = walk.1;
      absent = none-found _ absent.0;
      inode = inode.1;
      place = place.1;
      are = answer-ok _ changes place.2;
    }

pub record WriteFound (d : Disk) (path : Path) (changes : List Change) : Type 0 where
  pub dir : ℕ
  pub k : ℕ
  pub b : ℕ
  pub s : ℕ
  pub walk : walk_end d 0 path.through.items ≡ Ok dir
  pub named : entry_named d dir path.last ≡ Some k
  pub file : kind_of d (target_of d dir k) ≡ 1
  pub block : free_block d ≡ Some b
  pub slot : free_slot d (target_of d dir k) ≡ Some s
  pub are : changes ≡ map_set b ∷ init_block d InitFile b 0x46 (target_of d dir k) ∷ pointer_set (target_of d dir k) s b
      ∷ []

pub write-ok : (d : Disk) (path : Path) (changes : List Change) → plan_of d (Write path) ≡ Ok changes
    → WriteFound d path changes
unfolding plan_of
write-ok d path changes e =
    let at = at_entry-ok d path _ changes e in
    let target = target_of d at.dir at.k in
    let file = unless-ok _ _ _ changes at.next in
    let block = with_found-ok (free_block d) _ _ changes file.1 in
    let slot = with_found-ok (free_slot d target) _ _ changes block.2 in
    record {
      dir = at.dir;
      k = at.k;
      b = block.0;
      s = slot.0;
      walk = at.walk;
      named = at.named;
      file = eqb-true (kind_of d target) 1 (test-holds _ file.0);
      block = block.1;
      slot = slot.1;
      are = answer-ok _ changes slot.2;
    }

-- what `link` and `rename` share
pub record RelinkFound (d : Disk) (old new : Path) : Type 0 where
  pub old_dir : ℕ
  pub old_k : ℕ
  pub dir : ℕ
  pub k : ℕ
  pub walk : walk_end d 0 old.through.items ≡ Ok old_dir
  pub named : entry_named d old_dir old.last ≡ Some old_k
  pub new_walk : walk_end d 0 new.through.items ≡ Ok dir
  pub absent : entry_named d dir new.last ≡ None
  pub file : kind_of d (target_of d old_dir old_k) ≡ 1
  pub place : free_entry d dir ≡ Some k
  pub few : links_of d (target_of d old_dir old_k) < 8

-- the first two changes are those of `link`
relink-ok : (d : Disk) (old new : Path) (more : ℕ → ℕ → List Change) (changes : List Change)
    → relink_plan d old new (λ dir k _. more dir k) ≡ Ok changes → (f : RelinkFound d old new)
    × (changes ≡ link_count LinkUp (target_of d f.old_dir f.old_k) (links_of d (target_of d f.old_dir f.old_k) + 1)
    ∷ entry_set d f.dir f.k (target_of d f.old_dir f.old_k) new.last ∷ more f.old_dir f.old_k)
relink-ok d old new more changes e =
    let at = at_entry-ok d old _ changes e in
    let target = target_of d at.dir at.k in
    let walk = then_ok-ok (walk_end d 0 new.through.items) _ changes at.next in
    let absent = unless-ok _ _ _ changes walk.2 in
    let file = unless-ok _ _ _ changes absent.1 in
    let place = with_found-ok (free_entry d walk.0) _ _ changes file.1 in
    let few = unless-ok _ _ _ changes place.2 in (
      record {
        old_dir = at.dir;
        old_k = at.k;
        dir = walk.0;
        k = place.0;
        walk = at.walk;
        named = at.named;
        new_walk = walk.1;
        absent = none-found _ absent.0;
        file = eqb-true (kind_of d target) 1 (test-holds _ file.0);
        place = place.1;
        few = leb-false 8 (links_of d target) few.0;
      },
      answer-ok _ changes few.1,
    )

pub record LinkFound (d : Disk) (old new : Path) (changes : List Change) : Type 0 where
  pub at : RelinkFound d old new
  pub are : changes ≡ link_count LinkUp (target_of d at.old_dir at.old_k)
      (links_of d (target_of d at.old_dir at.old_k) + 1)
      ∷ entry_set d at.dir at.k (target_of d at.old_dir at.old_k) new.last ∷ []

pub link-ok : (d : Disk) (old new : Path) (changes : List Change) → plan_of d (Link old new) ≡ Ok changes
    → LinkFound d old new changes
unfolding plan_of
link-ok d old new changes e = let f = relink-ok d old new _ changes e in record { at = f.0; are = f.1 }

pub record RenameFound (d : Disk) (old new : Path) (changes : List Change) : Type 0 where
  pub at : RelinkFound d old new
  pub are : changes ≡ link_count LinkUp (target_of d at.old_dir at.old_k)
      (links_of d (target_of d at.old_dir at.old_k) + 1)
      ∷ entry_set d at.dir at.k (target_of d at.old_dir at.old_k) new.last
      ∷ entry_clear d at.old_dir at.old_k
      ∷ link_count LinkDown (target_of d at.old_dir at.old_k) (links_of d (target_of d at.old_dir at.old_k)) ∷ []

pub rename-ok : (d : Disk) (old new : Path) (changes : List Change) → plan_of d (Rename old new) ≡ Ok changes
    → RenameFound d old new changes
unfolding plan_of
rename-ok d old new changes e = let f = relink-ok d old new _ changes e in record { at = f.0; are = f.1 }

pub record UnlinkFound (d : Disk) (path : Path) (changes : List Change) : Type 0 where
  pub dir : ℕ
  pub k : ℕ
  pub walk : walk_end d 0 path.through.items ≡ Ok dir
  pub named : entry_named d dir path.last ≡ Some k
  pub file : kind_of d (target_of d dir k) ≡ 1
  pub are : changes ≡ entry_clear d dir k ∷ name_dropped d (target_of d dir k)

pub unlink-ok : (d : Disk) (path : Path) (changes : List Change) → plan_of d (Unlink path) ≡ Ok changes
    → UnlinkFound d path changes
unfolding plan_of
unlink-ok d path changes e =
    let at = at_entry-ok d path _ changes e in
    let file = unless-ok _ _ _ changes at.next in
    record {
      dir = at.dir;
      k = at.k;
      walk = at.walk;
      named = at.named;
      file = eqb-true (kind_of d (target_of d at.dir at.k)) 1 (test-holds _ file.0);
      are = answer-ok _ changes file.1;
    }

pub record MkdirFound (d : Disk) (path : Path) (changes : List Change) : Type 0 where
  pub dir : ℕ
  pub i : ℕ
  pub b : ℕ
  pub k : ℕ
  pub walk : walk_end d 0 path.through.items ≡ Ok dir
  pub absent : entry_named d dir path.last ≡ None
  pub inode : free_inode d ≡ Some i
  pub block : free_block d ≡ Some b
  pub place : free_entry d dir ≡ Some k
  pub are : changes ≡ inode_init d i 2 ∷ map_set b ∷ init_block d InitDir b 0x44 i ∷ pointer_set i 0 b
      ∷ entry_set d dir k i path.last ∷ []

pub mkdir-ok : (d : Disk) (path : Path) (changes : List Change) → plan_of d (Mkdir path) ≡ Ok changes
    → MkdirFound d path changes
unfolding plan_of
mkdir-ok d path changes e =
    let walk = then_ok-ok (walk_end d 0 path.through.items) _ changes e in
    let absent = unless-ok _ _ _ changes walk.2 in
    let inode = with_found-ok (free_inode d) _ _ changes absent.1 in
    let block = with_found-ok (free_block d) _ _ changes inode.2 in
    let place = with_found-ok (free_entry d walk.0) _ _ changes block.2 in
    record {
      dir = walk.0;
      i = inode.0;
      b = block.0;
      k = place.0;
      walk = walk.1;
      absent = none-found _ absent.0;
      inode = inode.1;
      block = block.1;
      place = place.1;
      are = answer-ok _ changes place.2;
    }

pub record RmdirFound (d : Disk) (path : Path) (changes : List Change) : Type 0 where
  pub dir : ℕ
  pub k : ℕ
  pub walk : walk_end d 0 path.through.items ≡ Ok dir
  pub named : entry_named d dir path.last ≡ Some k
  pub directory : kind_of d (target_of d dir k) ≡ 2
  pub empty : has_entries d (target_of d dir k) ≡ false
  pub are : changes ≡ entry_clear d dir k ∷ inode_free d (target_of d dir k)
      ∷ option_to_list (map_clear_at d (target_of d dir k) 0)

pub rmdir-ok : (d : Disk) (path : Path) (changes : List Change) → plan_of d (Rmdir path) ≡ Ok changes
    → RmdirFound d path changes
unfolding plan_of
rmdir-ok d path changes e =
    let at = at_entry-ok d path _ changes e in
    let directory = unless-ok _ _ _ changes at.next in
    let empty = unless-ok _ _ _ changes directory.1 in
    record {
      dir = at.dir;
      k = at.k;
      walk = at.walk;
      named = at.named;
      directory = eqb-true (kind_of d (target_of d at.dir at.k)) 2 (test-holds _ directory.0);
      empty = empty.0;
      are = answer-ok _ changes empty.1;
    }

pub record OverwriteFound (d : Disk) (path : Path) (slot : Option Slot) (changes : List Change) : Type 0 where
  pub dir : ℕ
  pub k : ℕ
  pub walk : walk_end d 0 path.through.items ≡ Ok dir
  pub named : entry_named d dir path.last ≡ Some k
  pub file : kind_of d (target_of d dir k) ≡ 1
  pub there : lacks_block_in d (target_of d dir k) slot ≡ false
  pub are : changes ≡ new_data_in d (target_of d dir k) slot ++ touch d (target_of d dir k) ∷ []

pub overwrite-ok : (d : Disk) (path : Path) (slot : Option Slot) (changes : List Change)
    → plan_of d (Overwrite path slot) ≡ Ok changes → OverwriteFound d path slot changes
unfolding plan_of
overwrite-ok d path slot changes e =
    let at = at_entry-ok d path _ changes e in
    let file = unless-ok _ _ _ changes at.next in
    let block = unless-ok _ _ _ changes file.1 in
    record {
      dir = at.dir;
      k = at.k;
      walk = at.walk;
      named = at.named;
      file = eqb-true (kind_of d (target_of d at.dir at.k)) 1 (test-holds _ file.0);
      there = block.0;
      are = answer-ok _ changes block.1;
    }

pub record TruncateFound (d : Disk) (path : Path) (changes : List Change) : Type 0 where
  pub dir : ℕ
  pub k : ℕ
  pub walk : walk_end d 0 path.through.items ≡ Ok dir
  pub named : entry_named d dir path.last ≡ Some k
  pub file : kind_of d (target_of d dir k) ≡ 1
  pub are : changes ≡ pointers_clear (target_of d dir k) ∷ map_clears d (target_of d dir k)

pub truncate-ok : (d : Disk) (path : Path) (changes : List Change) → plan_of d (Truncate path) ≡ Ok changes
    → TruncateFound d path changes
unfolding plan_of
truncate-ok d path changes e =
    let at = at_entry-ok d path _ changes e in
    let file = unless-ok _ _ _ changes at.next in
    record {
      dir = at.dir;
      k = at.k;
      walk = at.walk;
      named = at.named;
      file = eqb-true (kind_of d (target_of d at.dir at.k)) 1 (test-holds _ file.0);
      are = answer-ok _ changes file.1;
    }

-- the old name with its file, and the new name with the file that loses it
pub record ReplaceFound (d : Disk) (old new : Path) (changes : List Change) : Type 0 where
  pub old_dir : ℕ
  pub old_k : ℕ
  pub dir : ℕ
  pub k : ℕ
  pub walk : walk_end d 0 old.through.items ≡ Ok old_dir
  pub named : entry_named d old_dir old.last ≡ Some old_k
  pub new_walk : walk_end d 0 new.through.items ≡ Ok dir
  pub new_named : entry_named d dir new.last ≡ Some k
  pub file : kind_of d (target_of d old_dir old_k) ≡ 1
  pub other_file : kind_of d (target_of d dir k) ≡ 1
  pub apart : target_of d old_dir old_k ≢ target_of d dir k
  pub few : links_of d (target_of d old_dir old_k) < 8
  pub are : changes ≡ link_count LinkUp (target_of d old_dir old_k) (links_of d (target_of d old_dir old_k) + 1)
      ∷ entry_set d dir k (target_of d old_dir old_k) new.last
      ∷ entry_clear d old_dir old_k
      ∷ link_count LinkDown (target_of d old_dir old_k) (links_of d (target_of d old_dir old_k))
      ∷ name_dropped d (target_of d dir k)

pub replace-ok : (d : Disk) (old new : Path) (changes : List Change) → plan_of d (Replace old new) ≡ Ok changes
    → ReplaceFound d old new changes
unfolding plan_of
replace-ok d old new changes e =
    let from = at_entry-ok d old _ changes e in
    let to = at_entry-ok d new _ changes from.next in
    let target = target_of d from.dir from.k in
    let other = target_of d to.dir to.k in
    let file = unless-ok _ _ _ changes to.next in
    let other_file = unless-ok _ _ _ changes file.1 in
    let apart = unless-ok _ _ _ changes other_file.1 in
    let few = unless-ok _ _ _ changes apart.1 in
    record {
      old_dir = from.dir;
      old_k = from.k;
      dir = to.dir;
      k = to.k;
      walk = from.walk;
      named = from.named;
      new_walk = to.walk;
      new_named = to.named;
      file = eqb-true (kind_of d target) 1 (test-holds _ file.0);
      other_file = eqb-true (kind_of d other) 1 (test-holds _ other_file.0);
      apart = eqb-false target other apart.0;
      few = leb-false 8 (links_of d target) few.0;
      are = answer-ok _ changes few.1;
    }
