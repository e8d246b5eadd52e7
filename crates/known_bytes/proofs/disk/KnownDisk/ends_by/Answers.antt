use Rattle.std.proofs.Common.{◌<◌, ◌-◌, ℕ, true, false, arith, sym, subst}
use Rattle.std.specs.Prelude.{Some}
use Rattle.patch_sets.proofs.Bits.{in_with_same}
use Rattle.patch_sets.specs.Sets.{Has}
use Rattle.crash_model.specs.Layout.{is_live}
use Rattle.crash_model.specs.Patches.{image_of}
use Rattle.known_bytes.specs.NamedIn.{end_by}
use Rattle.known_bytes.specs.Reading.{disk_of}
use Rattle.known_bytes.proofs.MaybeEnds.{surely, end_if_sure, end_none, none_within, same_within, one_within}
use Rattle.known_bytes.proofs.MaybeEnds.{by_none, by_high, by_dead, by_live}
use Rattle.known_bytes.proofs.disk.KnownDisk.ends_by.Goals as goal

pub returns-then-entry-eq0-clause-within : goal.returns-then-entry-eq0-clause-within
returns-then-entry-eq0-clause-within g c = none_within c.none.result.inodes 16 c.none.ensures.inodes

pub returns-then-entry-eq0-clause-ends : goal.returns-then-entry-eq0-clause-ends
returns-then-entry-eq0-clause-ends g c = λ set m.
    let r = c.args.self.now in
    let d = disk_of r (image_of r.family.base r.family.patches set) in
    end_none (end_by c.args.entry d) c.none.result.inodes c.none.result.nowhere c.none.ensures.nowhere
    (by_none c.args.entry d c.if-entry-eq0.true)

pub returns-then-entry-gt-INODES-clause-within : goal.returns-then-entry-gt-INODES-clause-within
returns-then-entry-gt-INODES-clause-within g c =
    none_within c.none-then-entry-gt-INODES.result.inodes 16 c.none-then-entry-gt-INODES.ensures.inodes

pub returns-then-entry-gt-INODES-clause-ends : goal.returns-then-entry-gt-INODES-clause-ends
returns-then-entry-gt-INODES-clause-ends g c = λ set m.
    let r = c.args.self.now in
    let d = disk_of r (image_of r.family.base r.family.patches set) in
    let none = c.none-then-entry-gt-INODES.result in
    end_none (end_by c.args.entry d) none.inodes none.nowhere c.none-then-entry-gt-INODES.ensures.nowhere
    (by_high c.args.entry d c.if-entry-gt-INODES.true)

pub returns-then-never_holds-clause-within : goal.returns-then-never_holds-clause-within
returns-then-never_holds-clause-within g c =
    none_within c.none-then-never_holds.result.inodes 16 c.none-then-never_holds.ensures.inodes

pub returns-then-never_holds-clause-ends : goal.returns-then-never_holds-clause-ends
returns-then-never_holds-clause-ends g c = λ set m.
    let r = c.args.self.now in
    let d = disk_of r (image_of r.family.base r.family.patches set) in
    let none = c.none-then-never_holds.result in
    end_none (end_by c.args.entry d) none.inodes none.nowhere c.none-then-never_holds.ensures.nowhere
    (by_dead c.args.entry d (surely r (λ d. is_live d (c.args.entry - 1)) c.is_live-is_live.result false
    (c.never_holds.ensures c.if-never_holds.true) c.is_live-is_live.ensures set m))

pub returns-clause-within : goal.returns-clause-within
returns-clause-within g c =
    let low : c.from.result < 16 = omega (arith, c.from.ensures, c.if-entry-gt-INODES.false, c.if-entry-eq0.false) in
    same_within c.with.result c.if_sure.result.inodes 16 c.if_sure.ensures.inodes
    (one_within c.from.result c.with.result 16 c.with.ensures low)

pub returns-clause-ends : goal.returns-clause-ends
returns-clause-ends g c = λ set m.
    let r = c.args.self.now in
    let d = disk_of r (image_of r.family.base r.family.patches set) in
    let inode = c.args.entry - 1 in
    let new = c.if_sure.result in
    let has = subst (λ (i : ℕ). Has c.with.result i) c.from.ensures
    (subst (λ (s : ℕ). Has s c.from.result) (sym c.with.ensures) (in_with_same 0 c.from.result)) in
    end_if_sure (end_by c.args.entry d) (Some inode) (is_live d inode) c.with.result new.inodes false
    c.always_holds.result new.nowhere c.if_sure.ensures.inodes c.if_sure.ensures.nowhere
    (λ sure. surely r (λ d. is_live d inode) c.is_live-is_live.result true (c.always_holds.ensures sure)
    c.is_live-is_live.ensures set m)
    (λ live. sym (by_live c.args.entry d c.if-entry-eq0.false live)) (by_dead c.args.entry d) has
