-- What an accepted operation means for the view of a sound disk.
use Rattle.std.proofs.Common.{◌≡◌, ◌≢◌, ℕ, ◌+◌, ◌<◌, ◌⊎◌, inl, inr, List, [], ◌∷◌, Some, Ok, arith, refl, sym, ◌∙◌, ap}
use Rattle.std.proofs.Common.{subst}
use Rattle.std.proofs.lemmas.Bool.{false≢true}
use Rattle.crash_model.specs.Disk.{Disk, IsDisk}
use Rattle.crash_model.specs.Layout.{target_of}
use Rattle.crash_model.specs.Plan.{plan_of, name_spelling, entry_named, directory_named, walk_end, free_inode}
use Rattle.crash_model.specs.Plan.{free_block, free_slot, with_changes}
use Rattle.crash_model.specs.Sound.{IsSound}
use Rattle.crash_model.specs.View.{View, view_of}
use Rattle.crash_model.specs.Meaning.{Becomes, nothing, with_name, IsLowest, IsFreeInode, IsFreeBlock, IsFreeSlot}
use Rattle.crash_model.specs.Meaning.{IsKind, Walks, IsParent, IsTarget, Means, MeansUnlinkOne, MeansUnlinkLast}
use Rattle.crash_model.specs.Meaning.{MeansReplaceOne, MeansReplaceLast, names_replaced}
use Rattle.crash_model.specs.declared.operations.Op.{Op}
use Rattle.crash_model.specs.declared.names.Path.{Path}
use Rattle.crash_model.specs.declared.operations.Op.TheVariants.{Create, Write, Link, Unlink, Rename, Mkdir, Rmdir}
use Rattle.crash_model.specs.declared.operations.Op.TheVariants.{Overwrite, Truncate, Replace}
use Rattle.crash_model.specs.declared.plans.Change.{Change}
use Rattle.soundness_laws.specs.Tables.{Tables, tables_of, tables_after_unlink, tables_after_removal}
use Rattle.soundness_laws.specs.Tables.{view, SameView, Sound}
use Rattle.soundness_laws.specs.Tables.Place.{Leads}
use Rattle.soundness_laws.proofs.Answered.{then_ok-ok, Entered, directory_named-ok}
use Rattle.soundness_laws.proofs.Becomes.{same-self, same-all_of, same-blocks_of, becomes-same}
use Rattle.soundness_laws.proofs.ByTables.{kind-at}
use Rattle.soundness_laws.proofs.Views.{same-view}
use Rattle.soundness_laws.proofs.ToTables.{sound-tables}
use Rattle.soundness_laws.proofs.Kept.{tables_after_link-sound, tables_after_unlink-sound, tables_after_removal-sound}
use Rattle.soundness_laws.proofs.Meant.{tables_after_create-becomes, tables_after_write-becomes}
use Rattle.soundness_laws.proofs.Meant.{tables_after_link-becomes, tables_after_unlink-becomes}
use Rattle.soundness_laws.proofs.Meant.{tables_after_removal-becomes, tables_after_rename-becomes}
use Rattle.soundness_laws.proofs.Meant.{tables_after_mkdir-becomes, tables_after_truncate-becomes, tables-same_view}
use Rattle.soundness_laws.proofs.Meant.{replaced-one, replaced-last, tables_after_rename}
use Rattle.inode_fs.specs.Inside.{GivesName}
use Rattle.inode_fs.proofs.Accepted.{create-ok, write-ok, link-ok, rename-ok, unlink-ok, mkdir-ok, rmdir-ok}
use Rattle.inode_fs.proofs.Accepted.{overwrite-ok, truncate-ok, replace-ok}
use Rattle.inode_fs.proofs.Searched.{Walked, walk-found, fresh-found, fresh-lowest, block-found, slot-found}
use Rattle.inode_fs.proofs.Searched.{named-found}
use Rattle.inode_fs.proofs.Changed.{Made, can-create, create-made, can-grow, write-made, can-link, link-made}
use Rattle.inode_fs.proofs.Changed.{rename-made, unlink-made, rmdir-made, can-make, mkdir-made}
use Rattle.inode_fs.proofs.Changed.Unlinked.{Named, Gone}
use Rattle.inode_fs.proofs.Saved.{CanReplace, overwrite-made, truncate-made, replace-made}
use Rattle.inode_fs.proofs.Saved.Replaced.{Remains, Vanishes}
use Rattle.inode_fs.proofs.Sounds.{old-entry}

-- ---- names and kinds of the view

pub name-of : (d : Disk) (dir k i : ℕ) (name : List ℕ) → (tables_of d).entry dir k ≡ Leads i (name_spelling name)
    → (view_of d).name dir name i
name-of d dir k i name e = ((same-view d).names dir name i).1 (k, e)

pub kind-of : (d : Disk) (i kind : ℕ) → (tables_of d).kind i ≡ kind → kind ≢ 0 → IsKind (view_of d) i kind
kind-of d i kind e some = (
  (tables_of d).links i,
  ((same-view d).inodes i kind ((tables_of d).links i)).1
      (e, refl, some),
)

-- ---- walks

pub directory_named-name : (d : Disk) (dir : ℕ) (name : List ℕ) (child : ℕ) → dir < 16 → Entered d dir name child
    → (view_of d).name dir name child × Walked d child
directory_named-name d dir name child below e =
    let n = named-found d dir name e.k below e.named in (
      name-of d dir e.k child name (n.leads ∙ ap (λ (x : ℕ). Leads x (name_spelling name)) e.target),
      record {
        below = subst (λ (x : ℕ). x < 16) e.target n.target_below;
        kind = kind-at d child (subst (λ (x : ℕ). x < 16) e.target n.target_below) ∙ e.kind;
      },
    )

pub walks : (d : Disk) (names : List (List ℕ)) (from to : ℕ) → Walked d from → walk_end d from names ≡ Ok to
    → Walks (view_of d) from names to
walks d [] from to at e = cc
walks d (name ∷ names) from to at e =
    let step = then_ok-ok (directory_named d from name) (λ child. walk_end d child names) to e in
    let here = directory_named-name d from name step.0 at.below (directory_named-ok d from name step.0 step.1) in
    (step.0, here.0, kind-of d step.0 2 here.1.kind (λ z. omega arith), walks d names step.0 to here.1 step.2)

pub root-walk_end : (d : Disk) → Sound (tables_of d) → Walked d 0
root-walk_end d sound = record { below = omega arith; kind = sound.inodes.root.0 }

parent-is : (d : Disk) (path : Path) (dir : ℕ) → Sound (tables_of d) → walk_end d 0 path.through.items ≡ Ok dir
    → IsParent (view_of d) path dir
parent-is d path dir sound e = walks d path.through.items 0 dir (root-walk_end d sound) e

target-is : (d : Disk) (path : Path) (dir k : ℕ) → Sound (tables_of d) → walk_end d 0 path.through.items ≡ Ok dir
    → entry_named d dir path.last ≡ Some k → IsTarget (view_of d) path dir (target_of d dir k)
target-is d path dir k sound walk named =
    let at = walk-found d path.through.items dir sound walk in (
      parent-is d path dir sound walk,
      name-of d dir k (target_of d dir k) path.last
          (named-found d dir path.last k at.below named).leads,
    )

-- ---- what is lowest

lowest-inode : (d : Disk) (i : ℕ) → free_inode d ≡ Some i → IsLowest (IsFreeInode (view_of d)) i
lowest-inode d i e =
    let t = tables_of d in
    let fresh = fresh-found d i 1 e (omega arith, omega arith) in
    record {
      here = (
        fresh.below,
        λ w. let in_tables = ((same-view d).inodes i w.0 w.1).0 w.2 in
            in_tables.2 (sym in_tables.0 ∙ fresh.free),
      );
      lower = λ j less w. w.1 (
        t.kind j,
        t.links j,
        ((same-view d).inodes j (t.kind j) (t.links j)).1
            (refl, refl, fresh-lowest d i e j less),
      );
    }

lowest-block : (d : Disk) (b : ℕ) → free_block d ≡ Some b → IsLowest (IsFreeBlock d.blocks d.journal (view_of d)) b
unfolding tables_of
lowest-block d b e =
    let f = block-found d b e in
    record {
      here = (f.low, f.high, λ u. false≢true (sym f.free ∙ (((same-view d).used_blocks b).0 u).1));
      lower = λ c less w. w.2 (((same-view d).used_blocks c).1 (w.0, f.lower c w.0 less));
    }

lowest-slot : (d : Disk) (i s : ℕ) → i < 16 → (tables_of d).kind i ≢ 0 → free_slot d i ≡ Some s
    → IsLowest (IsFreeSlot (view_of d) i) s
lowest-slot d i s below live e =
    let f = slot-found d i s below e in
    record {
      here = (
        f.below,
        λ b h. let in_tables = ((same-view d).pointers i s b).0 h in
            in_tables.2 (sym in_tables.1 ∙ f.empty),
      );
      lower = λ r less w. w.1 ((tables_of d).pointer i r) (((same-view d).pointers i r ((tables_of d).pointer i r)).1
          (live, refl, f.lower r less));
    }

-- ---- what is gained and lost

after : (d : Disk) (changes : List Change) (t : Tables) (gained lost lost' : View) → Made d changes t
    → SameView lost lost' → Becomes (view (tables_of d)) (view t) gained lost'
    → Becomes (view_of d) (view_of (with_changes d changes)) gained lost
after d changes t gained lost lost' made same becomes =
    let new = with_changes d changes in
    becomes-same (view_of d) (view_of new) lost (view (tables_of d)) (view (tables_of new)) lost' gained (same-view d)
    (same-view new) same
    (subst (λ (x : Tables). Becomes (view (tables_of d)) (view x) gained lost') (sym made.tables) becomes)

pub plan-means : (d : Disk) (op : Op) (changes : List Change) → IsDisk d → IsSound d → GivesName op
    → plan_of d op ≡ Ok changes → Means d.blocks d.journal (view_of d) (view_of (with_changes d changes)) op
plan-means d (Create path) changes disk sound name e =
    let t = sound-tables d disk sound in
    let f = create-ok d path changes e in (
      f.dir,
      parent-is d path f.dir t f.walk,
      record {
        inode = f.i;
        lowest = lowest-inode d f.i f.inode;
        becomes = after d changes _ _ _ _ (create-made d path changes disk t name f) (same-self nothing)
            (tables_after_create-becomes (tables_of d) f.dir f.k f.i path.last (can-create d path changes t name f));
      },
    )
plan-means d (Write path) changes disk sound name e =
    let t = sound-tables d disk sound in
    let f = write-ok d path changes e in
    let target = target_of d f.dir f.k in
    let can = can-grow d path changes disk t f in
    let walk = walk-found d path.through.items f.dir t f.walk in
    let below = (named-found d f.dir path.last f.k walk.below f.named).target_below in (
      f.dir,
      target,
      target-is d path f.dir f.k t f.walk f.named,
      record {
        slot = f.s;
        block = f.b;
        lowest_slot = lowest-slot d target f.s below (λ z. let one = can.file in omega arith) f.slot;
        lowest_block = lowest-block d f.b f.block;
        becomes = after d changes _ _ _ _ (write-made d path changes disk t f) (same-self nothing)
            (tables_after_write-becomes (tables_of d) target f.s f.b t can);
      },
    )
plan-means d (Link old new) changes disk sound name e =
    let t = sound-tables d disk sound in
    let found = link-ok d old new changes e in
    let f = found.at in
    let target = target_of d f.old_dir f.old_k in
    let can = can-link d old new t name f in (
      f.old_dir,
      target,
      f.dir,
      target-is d old f.old_dir f.old_k t f.walk f.named,
      parent-is d new f.dir t f.new_walk,
      record {
        links = (tables_of d).links target;
        had = ((same-view d).inodes target 1 ((tables_of d).links target)).1 (can.file, refl, λ z. omega arith);
        becomes = after d changes _ _ _ _ (link-made d old new changes disk t name found) (same-self _)
            (tables_after_link-becomes (tables_of d) f.dir f.k target new.last can);
      },
    )
plan-means d (Unlink path) changes disk sound name e =
    let t = sound-tables d disk sound in
    let f = unlink-ok d path changes e in
    let target = target_of d f.dir f.k in
    let walk = walk-found d path.through.items f.dir t f.walk in
    let file = kind-at d target (named-found d f.dir path.last f.k walk.below f.named).target_below ∙ f.file in
    let means : MeansUnlinkOne (view_of d) (view_of (with_changes d changes)) f.dir path.last target
    ⊎ MeansUnlinkLast (view_of d) (view_of (with_changes d changes)) f.dir path.last target =
    elim (unlink-made d path changes disk t f) [
      | Named left can made ↦ inl (record {
        left = left;
        some = can.some;
        had = ((same-view d).inodes target 1 (left + 1)).1 (can.file, can.links, λ z. omega arith);
        becomes = after d changes _ _ _ _ made (same-self _)
            (tables_after_unlink-becomes (tables_of d) f.dir f.k target path.last left t can);
      })
      | Gone used mark can made ↦ inr (record {
        had = ((same-view d).inodes target 1 1).1 (file, can.last, λ z. omega arith);
        becomes = after d changes _ _ _ _ made (same-all_of (with_name nothing f.dir path.last target) (view_of d)
            (view (tables_of d)) target (same-view d)) (tables_after_removal-becomes (tables_of d) f.dir f.k target
            path.last used mark t can);
      })
    ] in
    (f.dir, target, target-is d path f.dir f.k t f.walk f.named, means)
plan-means d (Rename old new) changes disk sound name e =
    let t = sound-tables d disk sound in
    let found = rename-ok d old new changes e in
    let f = found.at in
    let target = target_of d f.old_dir f.old_k in
    let can = can-link d old new t name f in (
      f.old_dir,
      target,
      f.dir,
      target-is d old f.old_dir f.old_k t f.walk f.named,
      parent-is d new f.dir t f.new_walk,
      record {
        becomes = after d changes _ _ _ _ (rename-made d old new changes disk t name found) (same-self _)
            (tables_after_rename-becomes (tables_of d) f.old_dir f.old_k f.dir f.k target old.last new.last
            (tables_after_link-sound (tables_of d) f.dir f.k target new.last t can) can (old-entry d old new t f));
      },
    )
plan-means d (Mkdir path) changes disk sound name e =
    let t = sound-tables d disk sound in
    let f = mkdir-ok d path changes e in (
      f.dir,
      parent-is d path f.dir t f.walk,
      record {
        inode = f.i;
        block = f.b;
        lowest_inode = lowest-inode d f.i f.inode;
        lowest_block = lowest-block d f.b f.block;
        becomes = after d changes _ _ _ _ (mkdir-made d path changes disk t name f) (same-self nothing)
            (tables_after_mkdir-becomes (tables_of d) f.dir f.k f.i f.b path.last t (can-make d path changes t name f));
      },
    )
plan-means d (Rmdir path) changes disk sound name e =
    let t = sound-tables d disk sound in
    let f = rmdir-ok d path changes e in
    let target = target_of d f.dir f.k in
    let walk = walk-found d path.through.items f.dir t f.walk in
    let directory = kind-at d target (named-found d f.dir path.last f.k walk.below f.named).target_below
    ∙ f.directory in
    let r = rmdir-made d path changes disk t f in (
      f.dir,
      target,
      target-is d path f.dir f.k t f.walk f.named,
      record {
        had = ((same-view d).inodes target 2 1).1 (directory, r.can.last, λ z. omega arith);
        becomes = after d changes _ _ _ _ r.made (same-all_of (with_name nothing f.dir path.last target) (view_of d)
            (view (tables_of d)) target (same-view d)) (tables_after_removal-becomes (tables_of d) f.dir f.k target
            path.last r.used r.mark t r.can);
      },
    )
plan-means d (Overwrite path slot) changes disk sound name e =
    let t = sound-tables d disk sound in
    let f = overwrite-ok d path slot changes e in (
      f.dir,
      target_of d f.dir f.k,
      target-is d path f.dir f.k t f.walk f.named,
      after d changes _ _ _ _ (overwrite-made d path slot changes disk t f) (same-self nothing)
          (tables-same_view (tables_of d)),
    )
plan-means d (Truncate path) changes disk sound name e =
    let t = sound-tables d disk sound in
    let f = truncate-ok d path changes e in
    let target = target_of d f.dir f.k in
    let r = truncate-made d path changes disk t f in (
      f.dir,
      target,
      target-is d path f.dir f.k t f.walk f.named,
      after d changes _ _ _ _ r.made (same-blocks_of nothing (view_of d) (view (tables_of d)) target (same-view d))
          (tables_after_truncate-becomes (tables_of d) target r.used r.can),
    )
plan-means d (Replace old new) changes disk sound name e =
    let t = sound-tables d disk sound in
    let f = replace-ok d old new changes e in
    let target = target_of d f.old_dir f.old_k in
    let other = target_of d f.dir f.k in
    let renamed : (s : Tables) → Sound s → CanReplace s f.old_dir f.old_k f.dir f.k target old.last new.last
    → Becomes (view s) (view (tables_after_rename s f.old_dir f.old_k f.dir f.k target new.last))
    (with_name nothing f.dir new.last target) (with_name nothing f.old_dir old.last target) =
    λ s is can. tables_after_rename-becomes s f.old_dir f.old_k f.dir f.k target old.last new.last
    (tables_after_link-sound s f.dir f.k target new.last is can.link) can.link can.there in
    let means : MeansReplaceOne (view_of d) (view_of (with_changes d changes)) f.old_dir old.last target f.dir new.last
    other
    ⊎ MeansReplaceLast (view_of d) (view_of (with_changes d changes)) f.old_dir old.last target f.dir new.last other =
    elim (replace-made d old new changes disk t name f) [
      | Remains left can then made ↦
          let s = tables_after_unlink (tables_of d) f.dir f.k other left in
          inl (record {
            left = left;
            some = can.some;
            had = ((same-view d).inodes other 1 (left + 1)).1 (can.file, can.links, λ z. omega arith);
            becomes = after d changes _ _ _ _ made (same-self _) (replaced-one (view (tables_of d)) (view s) _ f.old_dir
                old.last target f.dir new.last other left
                (tables_after_unlink-becomes (tables_of d) f.dir f.k other new.last left t can)
                (renamed s (tables_after_unlink-sound (tables_of d) f.dir f.k other (name_spelling new.last) left t can)
                then));
          })
      | Vanishes used mark can then made ↦
          let s = tables_after_removal (tables_of d) f.dir f.k other used mark in
          let walk = walk-found d new.through.items f.dir t f.new_walk in
          let file = kind-at d other (named-found d f.dir new.last f.k walk.below f.new_named).target_below
          ∙ f.other_file in
          inr (record {
            had = ((same-view d).inodes other 1 1).1 (file, can.last, λ z. omega arith);
            becomes = after d changes _ _ _ _ made (same-all_of (names_replaced f.old_dir old.last target f.dir new.last
                other) (view_of d) (view (tables_of d)) other (same-view d))
                (replaced-last (view (tables_of d)) (view (tables_of d)) (view s) _ f.old_dir old.last target f.dir
                new.last other
                (tables_after_removal-becomes (tables_of d) f.dir f.k other new.last used mark t can)
                (renamed s
                (tables_after_removal-sound (tables_of d) f.dir f.k other (name_spelling new.last) used mark t
                can) then));
          })
    ] in (
      f.old_dir,
      target,
      f.dir,
      other,
      target-is d old f.old_dir f.old_k t f.walk f.named,
      target-is d new f.dir f.k t f.new_walk f.new_named,
      means,
    )
