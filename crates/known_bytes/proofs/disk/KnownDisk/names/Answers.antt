use Rattle.std.proofs.Common.{◌&&◌, ◌∙◌}
use Rattle.std.specs.Prelude.{◌==◌}
use Rattle.crash_model.specs.Patches.{image_of}
use Rattle.crash_model.specs.Layout.{pointer_of, is_live}
use Rattle.crash_model.specs.Faults.{names_block}
use Rattle.known_bytes.specs.Reading.{disk_of}
use Rattle.known_bytes.proofs.Answered.{known_in}
use Rattle.known_bytes.proofs.FaultTests.{names_is, no_names}
use Rattle.known_bytes.proofs.disk.KnownDisk.names.Goals as goal

pub returns-then-not-is_data : goal.returns-then-not-is_data
returns-then-not-is_data g c = λ set m.
    let r = c.args.self.now in
    no_names (disk_of r (image_of r.family.base r.family.patches set)) c.args.inode c.args.slot c.args.block
    (c.is_data.ensures.value set m ∙ c.if-not-is_data.true)

pub returns : goal.returns
returns g c =
    let r = c.args.self.now in
    known_in r (λ d. pointer_of d c.args.inode c.args.slot == c.args.block && is_live d c.args.inode)
    (λ d. names_block d c.args.inode c.args.slot c.args.block) c.points_to.result
    (λ set m. names_is (disk_of r (image_of r.family.base r.family.patches set)) c.args.inode c.args.slot c.args.block
    (c.is_data.ensures.value set m ∙ c.if-not-is_data.false)) c.points_to.ensures
