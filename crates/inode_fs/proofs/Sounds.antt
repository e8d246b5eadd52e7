-- An accepted operation leaves a sound disk sound.
use Rattle.std.proofs.Common.{◌≡◌, ℕ, ◌+◌, List, Ok, sym, subst}
use Rattle.crash_model.specs.Disk.{Disk, IsDisk}
use Rattle.crash_model.specs.Layout.{target_of}
use Rattle.crash_model.specs.Plan.{plan_of, name_spelling, with_changes}
use Rattle.crash_model.specs.Sound.{IsSound}
use Rattle.crash_model.specs.declared.operations.Op.{Op}
use Rattle.crash_model.specs.declared.names.Path.{Path}
use Rattle.crash_model.specs.declared.operations.Op.TheVariants.{Create, Write, Link, Unlink, Rename, Mkdir, Rmdir}
use Rattle.crash_model.specs.declared.operations.Op.TheVariants.{Overwrite, Truncate, Replace}
use Rattle.crash_model.specs.declared.plans.Change.{Change}
use Rattle.soundness_laws.specs.Tables.{Tables, tables_of, tables_after_link, tables_after_unlink, tables_after_removal}
use Rattle.soundness_laws.specs.Tables.{Sound}
use Rattle.soundness_laws.specs.Tables.Place.{Leads}
use Rattle.soundness_laws.proofs.Sums.{with_value-same}
use Rattle.soundness_laws.proofs.Names.{entry_kept}
use Rattle.soundness_laws.proofs.ToTables.{sound-tables}
use Rattle.soundness_laws.proofs.FromTables.{tables-sound}
use Rattle.soundness_laws.proofs.Kept.{CanLink, tables_after_create-sound, tables_after_mkdir-sound}
use Rattle.soundness_laws.proofs.Kept.{tables_after_write-sound, tables_after_link-sound, tables_after_unlink-sound}
use Rattle.soundness_laws.proofs.Kept.{tables_after_removal-sound, tables_after_truncate-sound}
use Rattle.soundness_laws.proofs.Meant.{tables_after_rename}
use Rattle.inode_fs.specs.Inside.{GivesName}
use Rattle.inode_fs.proofs.Accepted.{create-ok, write-ok, RelinkFound, link-ok, rename-ok, unlink-ok, mkdir-ok}
use Rattle.inode_fs.proofs.Accepted.{rmdir-ok, overwrite-ok, truncate-ok, replace-ok}
use Rattle.inode_fs.proofs.Searched.{walk-found, named-found}
use Rattle.inode_fs.proofs.Changed.{Made, can-create, create-made, can-grow, write-made, can-link, link-made}
use Rattle.inode_fs.proofs.Changed.{rename-made, unlink-made, rmdir-made, can-make, mkdir-made}
use Rattle.inode_fs.proofs.Changed.Unlinked.{Named, Gone}
use Rattle.inode_fs.proofs.Saved.{overwrite-made, truncate-made, replace-made}
use Rattle.inode_fs.proofs.Saved.Replaced.{Remains, Vanishes}

sound-made : (d : Disk) (changes : List Change) (t : Tables) → Made d changes t → Sound t
    → IsSound (with_changes d changes)
sound-made d changes t made sound = tables-sound (with_changes d changes) made.disk
    (subst Sound (sym made.tables) sound)

-- a file has eight names for a moment at most
pub tables_after_rename-sound : (t : Tables) (old_dir old_k dir k i : ℕ) (old_name name : List ℕ) → Sound t
    → CanLink t dir k i name → t.entry old_dir old_k ≡ Leads i (name_spelling old_name)
    → Sound (tables_after_rename t old_dir old_k dir k i name)
tables_after_rename-sound t old_dir old_k dir k i old_name name sound can there =
    let middle = tables_after_link t dir k i name in
    let some = sound.inodes.few_names i can.file in
    tables_after_unlink-sound middle old_dir old_k i (name_spelling old_name) (t.links i)
    (tables_after_link-sound t dir k i name sound can) (record {
      there = entry_kept t.entry dir k (Leads i (name_spelling name)) old_dir old_k i (name_spelling old_name)
          can.place.free there;
      file = can.file;
      some = some.0;
      links = with_value-same t.links i (t.links i + 1);
    })

-- the old entry of a name
pub old-entry : (d : Disk) (old new : Path) → Sound (tables_of d) → (f : RelinkFound d old new)
    → (tables_of d).entry f.old_dir f.old_k ≡ Leads (target_of d f.old_dir f.old_k) (name_spelling old.last)
old-entry d old new sound f =
    let walk = walk-found d old.through.items f.old_dir sound f.walk in
    (named-found d f.old_dir old.last f.old_k walk.below f.named).leads

pub plan-keeps : (d : Disk) (op : Op) (changes : List Change) → IsDisk d → IsSound d → GivesName op
    → plan_of d op ≡ Ok changes → IsSound (with_changes d changes)
plan-keeps d (Create path) changes disk sound name e =
    let t = sound-tables d disk sound in
    let f = create-ok d path changes e in
    sound-made d changes _ (create-made d path changes disk t name f)
    (tables_after_create-sound (tables_of d) f.dir f.k f.i path.last t (can-create d path changes t name f))
plan-keeps d (Write path) changes disk sound name e =
    let t = sound-tables d disk sound in
    let f = write-ok d path changes e in
    sound-made d changes _ (write-made d path changes disk t f)
    (tables_after_write-sound (tables_of d) (target_of d f.dir f.k) f.s f.b t (can-grow d path changes disk t f))
plan-keeps d (Link old new) changes disk sound name e =
    let t = sound-tables d disk sound in
    let f = link-ok d old new changes e in
    sound-made d changes _ (link-made d old new changes disk t name f)
    (tables_after_link-sound (tables_of d) f.at.dir f.at.k (target_of d f.at.old_dir f.at.old_k) new.last t
    (can-link d old new t name f.at))
plan-keeps d (Unlink path) changes disk sound name e =
    let t = sound-tables d disk sound in
    let f = unlink-ok d path changes e in
    let target = target_of d f.dir f.k in
    elim (unlink-made d path changes disk t f) [
      | Named left can made ↦ sound-made d changes _ made (tables_after_unlink-sound (tables_of d) f.dir f.k target
          (name_spelling path.last) left t can)
      | Gone used mark can made ↦ sound-made d changes _ made (tables_after_removal-sound (tables_of d) f.dir f.k target
          (name_spelling path.last) used mark t can)
    ]
plan-keeps d (Rename old new) changes disk sound name e =
    let t = sound-tables d disk sound in
    let f = rename-ok d old new changes e in
    sound-made d changes _ (rename-made d old new changes disk t name f)
    (tables_after_rename-sound (tables_of d) f.at.old_dir f.at.old_k f.at.dir f.at.k
    (target_of d f.at.old_dir f.at.old_k) old.last new.last t (can-link d old new t name f.at)
    (old-entry d old new t f.at))
plan-keeps d (Mkdir path) changes disk sound name e =
    let t = sound-tables d disk sound in
    let f = mkdir-ok d path changes e in
    sound-made d changes _ (mkdir-made d path changes disk t name f)
    (tables_after_mkdir-sound (tables_of d) f.dir f.k f.i f.b path.last t (can-make d path changes t name f))
plan-keeps d (Rmdir path) changes disk sound name e =
    let t = sound-tables d disk sound in
    let f = rmdir-ok d path changes e in
    let r = rmdir-made d path changes disk t f in
    sound-made d changes _ r.made (tables_after_removal-sound (tables_of d) f.dir f.k (target_of d f.dir f.k)
    (name_spelling path.last) r.used r.mark t r.can)
plan-keeps d (Overwrite path slot) changes disk sound name e =
    let t = sound-tables d disk sound in
    sound-made d changes _ (overwrite-made d path slot changes disk t (overwrite-ok d path slot changes e)) t
plan-keeps d (Truncate path) changes disk sound name e =
    let t = sound-tables d disk sound in
    let f = truncate-ok d path changes e in
    let r = truncate-made d path changes disk t f in
    sound-made d changes _ r.made (tables_after_truncate-sound (tables_of d) (target_of d f.dir f.k) r.used t r.can)
plan-keeps d (Replace old new) changes disk sound name e =
    let t = sound-tables d disk sound in
    let f = replace-ok d old new changes e in
    let target = target_of d f.old_dir f.old_k in
    let other = target_of d f.dir f.k in
    elim (replace-made d old new changes disk t name f) [
      | Remains left can then made ↦ sound-made d changes _ made
          (tables_after_rename-sound (tables_after_unlink (tables_of d) f.dir f.k other left) f.old_dir
          f.old_k f.dir f.k
          target old.last new.last
          (tables_after_unlink-sound (tables_of d) f.dir f.k other (name_spelling new.last) left
          t can) then.link then.there)
      | Vanishes used mark can then made ↦ sound-made d changes _ made
          (tables_after_rename-sound (tables_after_removal (tables_of d) f.dir f.k other used mark) f.old_dir f.old_k
          f.dir f.k target old.last new.last (tables_after_removal-sound (tables_of d) f.dir f.k other
          (name_spelling new.last) used mark t can) then.link then.there)
    ]
