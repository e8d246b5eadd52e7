use Rattle.std.proofs.Common.{ℕ, List, true, false, sym, subst, ◌∙◌}
use Rattle.crash_model.specs.Layout.{counts}
use Rattle.crash_model.specs.Patches.{image_of}
use Rattle.crash_model.specs.Paths.{child_of}
use Rattle.crash_model.specs.Plan.{name_spelling}
use Rattle.known_bytes.specs.Directories.{counts_at}
use Rattle.known_bytes.specs.NamedIn.{IsEnd, first_child_in}
use Rattle.known_bytes.specs.Reading.{disk_of}
use Rattle.known_bytes.proofs.ChildrenIn.{child_first, child_none}
use Rattle.known_bytes.proofs.FaultTests.{counts_is}
use Rattle.known_bytes.proofs.MaybeEnds.{surely, end_if_sure, end_none, none_within, same_within}
use Rattle.known_bytes.proofs.MaybeEnds.{no_directory, its_block}
use Rattle.known_bytes.proofs.disk.KnownDisk.ends_through.Goals as goal

pub returns-then-not-is_data-clause-within : goal.returns-then-not-is_data-clause-within
returns-then-not-is_data-clause-within g c = none_within c.none.result.inodes 16 c.none.ensures.inodes

pub returns-then-not-is_data-clause-ends : goal.returns-then-not-is_data-clause-ends
returns-then-not-is_data-clause-ends g c = λ set m at.
    let r = c.args.self.now in
    let d = disk_of r (image_of r.family.base r.family.patches set) in
    let dir = c.args.dir in
    let name = c.args.name.now in
    end_none (child_of d dir name) c.none.result.inodes c.none.result.nowhere c.none.ensures.nowhere
    (child_none d dir name (no_directory d dir c.args.block (c.is_data.ensures.value set m ∙ c.if-not-is_data.true) at))

pub returns-then-never_holds-clause-within : goal.returns-then-never_holds-clause-within
returns-then-never_holds-clause-within g c =
    none_within c.none-then-never_holds.result.inodes 16 c.none-then-never_holds.ensures.inodes

pub returns-then-never_holds-clause-ends : goal.returns-then-never_holds-clause-ends
returns-then-never_holds-clause-ends g c = λ set m at.
    let r = c.args.self.now in
    let d = disk_of r (image_of r.family.base r.family.patches set) in
    let dir = c.args.dir in
    let block = c.args.block in
    let name = c.args.name.now in
    let none = c.none-then-never_holds.result in
    let its = its_block d dir block (c.is_data.ensures.value set m ∙ c.if-not-is_data.false) at in
    end_none (child_of d dir name) none.inodes none.nowhere c.none-then-never_holds.ensures.nowhere
    (child_none d dir name (sym (counts_is d dir block its)
    ∙ surely r (counts_at dir block) c.counts_at-counts.result false (c.never_holds.ensures c.if-never_holds.true)
    c.counts_at-counts.ensures set m))

pub returns-clause-within : goal.returns-clause-within
returns-clause-within g c = same_within c.ends_at-ends.result.inodes c.if_sure.result.inodes 16
    c.if_sure.ensures.inodes c.ends_at-ends.ensures.within

pub returns-clause-ends : goal.returns-clause-ends
returns-clause-ends g c = λ set m at.
    let r = c.args.self.now in
    let d = disk_of r (image_of r.family.base r.family.patches set) in
    let dir = c.args.dir in
    let block = c.args.block in
    let name = c.args.name.now in
    let old = c.ends_at-ends.result in
    let new = c.if_sure.result in
    let its = its_block d dir block (c.is_data.ensures.value set m ∙ c.if-not-is_data.false) at in
    let first = subst (λ (xs : List ℕ). IsEnd (first_child_in 10 block xs d) old.inodes old.nowhere)
    (c.as_slice.ensures.value ∙ c.spelled-spelled.ensures.bytes) (c.ends_at-ends.ensures.ends set m) in
    end_if_sure (child_of d dir name) (first_child_in 10 block (name_spelling name) d) (counts d dir) old.inodes
    new.inodes old.nowhere c.always_holds.result new.nowhere c.if_sure.ensures.inodes c.if_sure.ensures.nowhere
    (λ sure. sym (counts_is d dir block its)
    ∙ surely r (counts_at dir block) c.counts_at-counts.result true (c.always_holds.ensures sure)
    c.counts_at-counts.ensures set m)
    (λ counted. sym (child_first d dir block name counted at)) (child_none d dir name) first
