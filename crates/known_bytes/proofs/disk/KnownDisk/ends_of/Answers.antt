use Rattle.std.proofs.Common.{◌+◌, ◌*◌, ◌<◌, ◌^◌, ◌≡◌, true, false, sym, ◌∙◌, arith}
use Rattle.patch_sets.proofs.Bits.{none_in_empty}
use Rattle.crash_model.specs.Disk.{byte}
use Rattle.crash_model.specs.Patches.{image_of}
use Rattle.known_bytes.specs.NamedIn.{AreEnds, end_by}
use Rattle.known_bytes.specs.Reading.{disk_of}
use Rattle.known_bytes.proofs.EachValue.{taken_skip, taken_more, taken_all}
use Rattle.known_bytes.proofs.MaybeEnds.{within_either, end_first, end_second}
use Rattle.known_bytes.proofs.disk.KnownDisk.ends_of.Goals as goal
use Rattle.known_bytes.proofs.disk.KnownDisk.ends_of.Goals.{then-has, else-has}

pub loop-entry-init : goal.loop-entry-init
loop-entry-init g c = record {
  within = λ inode is. absurd (none_in_empty inode is);
  taken = record { each = λ value less is. absurd (omega (arith, less)) };
}

pub loop-entry-preserved : goal.loop-entry-preserved
loop-entry-preserved g c =
    let r = c.args.self.now in
    let low = c.entries-entries.result.low in
    let high = c.entries-entries.result.high in
    let n = c.loop-entry.entry in
    let old = c.loop-entry.ends in
    elim c.if-has.branch [
      | then-has w ↦
          let more = w.ends_by-more.result in
          let new = w.or-ends.result in
          let inodes = w.or-ends.ensures.inodes in
          let nowhere = w.or-ends.ensures.nowhere in
          rw w.ends-is record {
            within = within_either old.inodes more.inodes new.inodes 16 inodes c.loop-entry.invariant.within
                w.ends_by-more.ensures.within;
            taken = taken_more low high n (λ value. AreEnds r (end_by value) old.inodes old.nowhere)
                (λ value. AreEnds r (end_by value) new.inodes new.nowhere)
                (λ value before set m. end_first old.inodes more.inodes new.inodes old.nowhere more.nowhere
                new.nowhere inodes nowhere
                (end_by value (disk_of r (image_of r.family.base r.family.patches set))) (before set m))
                (λ set m. end_second old.inodes more.inodes new.inodes old.nowhere more.nowhere new.nowhere inodes
                nowhere (end_by n (disk_of r (image_of r.family.base r.family.patches set)))
                (w.ends_by-more.ensures.ends set m)) c.loop-entry.invariant.taken;
          }
      | else-has w ↦ rw w.ends-is record {
        within = c.loop-entry.invariant.within;
        taken = taken_skip low high n (λ value. AreEnds r (end_by value) old.inodes old.nowhere)
            (λ is. let never : true ≡ false = sym (c.has.ensures.1 is) ∙ w.if-has.false in absurd (cc))
            c.loop-entry.invariant.taken;
      }
    ]

pub returns-clause-ends : goal.returns-clause-ends
returns-clause-ends g c = λ set m.
    let r = c.args.self.now in
    let ends = c.loop-entry.ends in
    let few : c.entries-entries.result.high < 2 ^ 128 = omega arith in
    taken_all c.entries-entries.result.low c.entries-entries.result.high c.loop-entry.entry
    (λ value. AreEnds r (end_by value) ends.inodes ends.nowhere) few (omega arith) c.loop-entry.invariant.taken
    (byte (disk_of r (image_of r.family.base r.family.patches set)) c.args.block (8 + 12 * c.args.k))
    (c.entries-entries.ensures set m) set m
