use Rattle.std.proofs.Common.{◌∙◌}
use Rattle.crash_model.specs.Patches.{image_of}
use Rattle.known_bytes.specs.Reading.{disk_of}
use Rattle.known_bytes.proofs.ChildrenIn.{end_free, end_high, end_dead, end_live}
use Rattle.known_bytes.proofs.disk.KnownDisk.end_at.Goals as goal

pub returns-then-entry-eq0-clause-known : goal.returns-then-entry-eq0-clause-known
returns-then-entry-eq0-clause-known g c = λ set m.
    let r = c.args.self.now in
    end_free c.args.block c.args.k c.in_ok-entry.entry (disk_of r (image_of r.family.base r.family.patches set))
    (c.in_ok-entry.ensures set m) c.if-entry-eq0.true

pub returns-then-entry-gt-INODES-clause-known : goal.returns-then-entry-gt-INODES-clause-known
returns-then-entry-gt-INODES-clause-known g c = λ set m.
    let r = c.args.self.now in
    end_high c.args.block c.args.k c.in_ok-entry.entry (disk_of r (image_of r.family.base r.family.patches set))
    (c.in_ok-entry.ensures set m) c.if-entry-gt-INODES.true

pub returns-then-is_live-clause-known : goal.returns-then-is_live-clause-known
returns-then-is_live-clause-known g c = λ set m.
    let r = c.args.self.now in
    end_live c.args.block c.args.k c.in_ok-entry.entry (disk_of r (image_of r.family.base r.family.patches set))
    (c.in_ok-entry.ensures set m) c.if-entry-eq0.false (c.in_ok-is_live.ensures set m ∙ c.if-is_live.true)

pub returns-else-is_live-clause-known : goal.returns-else-is_live-clause-known
returns-else-is_live-clause-known g c = λ set m.
    let r = c.args.self.now in
    end_dead c.args.block c.args.k c.in_ok-entry.entry (disk_of r (image_of r.family.base r.family.patches set))
    (c.in_ok-entry.ensures set m) (c.in_ok-is_live.ensures set m ∙ c.if-is_live.false)
