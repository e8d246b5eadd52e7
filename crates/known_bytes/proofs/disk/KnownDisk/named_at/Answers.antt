use Rattle.std.proofs.Common.{◌∙◌}
use Rattle.crash_model.specs.Patches.{image_of}
use Rattle.known_bytes.specs.Reading.{disk_of}
use Rattle.known_bytes.specs.NamedIn.{end_in, child_in}
use Rattle.known_bytes.proofs.Answered.{known_in}
use Rattle.known_bytes.proofs.ChildrenIn.{child_spelled, child_other}
use Rattle.known_bytes.proofs.disk.KnownDisk.named_at.Goals as goal

pub returns-then-is_spelled-clause-known : goal.returns-then-is_spelled-clause-known
returns-then-is_spelled-clause-known g c =
    let r = c.args.self.now in
    known_in r (end_in c.args.block c.args.k) (child_in c.args.block c.args.k c.args.spelled.now) c.end_at.result
    (λ set m. child_spelled c.args.block c.args.k c.args.spelled.now
    (disk_of r (image_of r.family.base r.family.patches set)) (c.in_ok-is_spelled.ensures set m ∙ c.if-is_spelled.true))
    c.end_at.ensures.known

pub returns-else-is_spelled-clause-known : goal.returns-else-is_spelled-clause-known
returns-else-is_spelled-clause-known g c = λ set m.
    let r = c.args.self.now in
    child_other c.args.block c.args.k c.args.spelled.now (disk_of r (image_of r.family.base r.family.patches set))
    (c.in_ok-is_spelled.ensures set m ∙ c.if-is_spelled.false)
