use Rattle.std.proofs.Common.{true, false}
use Rattle.crash_model.specs.Patches.{image_of}
use Rattle.known_bytes.specs.NamedIn.{child_in, end_in, is_spelled_in}
use Rattle.known_bytes.specs.Reading.{disk_of}
use Rattle.known_bytes.proofs.ChildrenIn.{child_spelled, child_other}
use Rattle.known_bytes.proofs.MaybeEnds.{surely, end_if_sure, end_none, none_within, same_within}
use Rattle.known_bytes.proofs.disk.KnownDisk.ends_named.Goals as goal

pub returns-then-never_holds-clause-within : goal.returns-then-never_holds-clause-within
returns-then-never_holds-clause-within g c = none_within c.none.result.inodes 16 c.none.ensures.inodes

pub returns-then-never_holds-clause-ends : goal.returns-then-never_holds-clause-ends
returns-then-never_holds-clause-ends g c = λ set m.
    let r = c.args.self.now in
    let d = disk_of r (image_of r.family.base r.family.patches set) in
    let block = c.args.block in
    let k = c.args.k in
    let spelled = c.args.spelled.now in
    end_none (child_in block k spelled d) c.none.result.inodes c.none.result.nowhere c.none.ensures.nowhere
    (child_other block k spelled d (surely r (is_spelled_in block k spelled) c.is_spelled-is_spelled.result false
    (c.never_holds.ensures c.if-never_holds.true) c.is_spelled-is_spelled.ensures set m))

pub returns-clause-within : goal.returns-clause-within
returns-clause-within g c = same_within c.ends_of-ends.result.inodes c.if_sure.result.inodes 16
    c.if_sure.ensures.inodes c.ends_of-ends.ensures.within

pub returns-clause-ends : goal.returns-clause-ends
returns-clause-ends g c = λ set m.
    let r = c.args.self.now in
    let d = disk_of r (image_of r.family.base r.family.patches set) in
    let block = c.args.block in
    let k = c.args.k in
    let spelled = c.args.spelled.now in
    let old = c.ends_of-ends.result in
    let new = c.if_sure.result in
    end_if_sure (child_in block k spelled d) (end_in block k d) (is_spelled_in block k spelled d) old.inodes new.inodes
    old.nowhere c.always_holds.result new.nowhere c.if_sure.ensures.inodes c.if_sure.ensures.nowhere
    (λ sure. surely r (is_spelled_in block k spelled) c.is_spelled-is_spelled.result true
    (c.always_holds.ensures sure) c.is_spelled-is_spelled.ensures set m)
    (child_spelled block k spelled d) (child_other block k spelled d) (c.ends_of-ends.ensures.ends set m)
