use Rattle.std.proofs.Common.{◌&&◌, ◌∙◌}
use Rattle.std.specs.Prelude.{◌==◌}
use Rattle.crash_model.specs.Patches.{image_of}
use Rattle.crash_model.specs.Layout.{pointer_of, is_live}
use Rattle.crash_model.specs.Faults.{is_wild}
use Rattle.known_bytes.specs.Reading.{disk_of}
use Rattle.known_bytes.proofs.Answered.{known_in}
use Rattle.known_bytes.proofs.FaultTests.{wild_is, no_wild, no_wild_zero}
use Rattle.known_bytes.proofs.disk.KnownDisk.is_wild.Goals as goal

pub returns-then-block-eq0 : goal.returns-then-block-eq0
returns-then-block-eq0 g c = λ set m.
    let r = c.args.self.now in
    no_wild_zero (disk_of r (image_of r.family.base r.family.patches set)) c.args.inode c.args.slot c.args.block
    c.if-block-eq0.true

pub returns-then-is_data : goal.returns-then-is_data
returns-then-is_data g c = λ set m.
    let r = c.args.self.now in
    no_wild (disk_of r (image_of r.family.base r.family.patches set)) c.args.inode c.args.slot c.args.block
    (c.is_data.ensures.value set m ∙ c.if-is_data.true)

pub returns : goal.returns
returns g c =
    let r = c.args.self.now in
    known_in r (λ d. pointer_of d c.args.inode c.args.slot == c.args.block && is_live d c.args.inode)
    (λ d. is_wild d c.args.inode c.args.slot && pointer_of d c.args.inode c.args.slot == c.args.block)
    c.points_to.result
    (λ set m. wild_is (disk_of r (image_of r.family.base r.family.patches set)) c.args.inode c.args.slot c.args.block
    (c.is_data.ensures.value set m ∙ c.if-is_data.false) c.if-block-eq0.false) c.points_to.ensures
