use Rattle.std.proofs.Common.{not, ◌&&◌, ◌∙◌}
use Rattle.std.specs.Prelude.{◌==◌}
use Rattle.crash_model.specs.Patches.{image_of}
use Rattle.crash_model.specs.Layout.{pointer_of}
use Rattle.crash_model.specs.Faults.{is_unwritten, names_block}
use Rattle.fs_check.specs.Passed.{is_marked}
use Rattle.known_bytes.specs.Reading.{disk_of}
use Rattle.known_bytes.proofs.Answered.{known_as}
use Rattle.known_bytes.proofs.FaultTests.{unwritten_is}
use Rattle.known_bytes.proofs.FaultTests.{none_tame}
use Rattle.known_bytes.proofs.disk.KnownDisk.is_unwritten.Goals as goal

pub returns-then-not-is_data : goal.returns-then-not-is_data
returns-then-not-is_data g c = λ set m.
    let r = c.args.self.now in
    let d = disk_of r (image_of r.family.base r.family.patches set) in
    none_tame d c.args.inode c.args.slot c.args.block (c.is_data.ensures.value set m ∙ c.if-not-is_data.true)
    (λ b. not (is_marked d c.args.inode b))

pub returns : goal.returns
returns g c =
    let r = c.args.self.now in
    let i = c.args.inode in
    let s = c.args.slot in
    let b = c.args.block in
    known_as r (λ d. names_block d i s b && not (is_marked d i b)) (λ d. is_unwritten d i s && pointer_of d i s == b)
    c.both.result (λ set. unwritten_is (disk_of r (image_of r.family.base r.family.patches set)) i s b)
    (c.both.ensures r (λ d. names_block d i s b) (λ d. not (is_marked d i b)) c.names-names.ensures
    (c.negation.ensures r (λ d. is_marked d i b) c.is_marked.ensures))
