use Rattle.std.proofs.Common.{ℕ, ◌≡◌, ◌<◌, ◌^◌, true, false, Option, refl, sym, ◌∙◌, arith}
use Rattle.patch_sets.proofs.Bits.{none_in_empty}
use Rattle.crash_model.specs.Disk.{Disk}
use Rattle.crash_model.specs.Layout.{pointer_of}
use Rattle.crash_model.specs.Patches.{image_of}
use Rattle.crash_model.specs.Paths.{child_of}
use Rattle.known_bytes.specs.NamedIn.{AreEndsAt}
use Rattle.known_bytes.specs.Reading.{disk_of}
use Rattle.known_bytes.proofs.EachValue.{taken_skip, taken_more, taken_all}
use Rattle.known_bytes.proofs.MaybeEnds.{within_either, end_first, end_second}
use Rattle.known_bytes.proofs.disk.KnownDisk.ends_in.Goals as goal
use Rattle.known_bytes.proofs.disk.KnownDisk.ends_in.Goals.{then-has, else-has}

pub loop-block-init : goal.loop-block-init
loop-block-init g c = record {
  within = λ inode is. absurd (none_in_empty inode is);
  taken = record { each = λ value less is. absurd (omega (arith, less)) };
}

pub loop-block-preserved : goal.loop-block-preserved
loop-block-preserved g c =
    let r = c.args.self.now in
    let low = c.pointers-blocks.result.low in
    let high = c.pointers-blocks.result.high in
    let n = c.loop-block.block in
    let old = c.loop-block.ends in
    let at : Disk → ℕ = λ d. pointer_of d c.args.dir 0 in
    let end : Disk → Option ℕ = λ d. child_of d c.args.dir c.args.name.now in
    elim c.if-has.branch [
      | then-has w ↦
          let more = w.ends_through-more.result in
          let new = w.or-ends.result in
          let inodes = w.or-ends.ensures.inodes in
          let nowhere = w.or-ends.ensures.nowhere in
          rw w.ends-is record {
            within = within_either old.inodes more.inodes new.inodes 16 inodes c.loop-block.invariant.within
                w.ends_through-more.ensures.within;
            taken = taken_more low high n (λ value. AreEndsAt r at value end old.inodes old.nowhere)
                (λ value. AreEndsAt r at value end new.inodes new.nowhere)
                (λ value before set m is. end_first old.inodes more.inodes new.inodes old.nowhere more.nowhere
                new.nowhere inodes nowhere (end (disk_of r (image_of r.family.base r.family.patches set)))
                (before set m is))
                (λ set m is. end_second old.inodes more.inodes new.inodes old.nowhere more.nowhere new.nowhere inodes
                nowhere (end (disk_of r (image_of r.family.base r.family.patches set)))
                (w.ends_through-more.ensures.ends set m is)) c.loop-block.invariant.taken;
          }
      | else-has w ↦ rw w.ends-is record {
        within = c.loop-block.invariant.within;
        taken = taken_skip low high n (λ value. AreEndsAt r at value end old.inodes old.nowhere)
            (λ is. let never : true ≡ false = sym (c.has.ensures.1 is) ∙ w.if-has.false in absurd (cc))
            c.loop-block.invariant.taken;
      }
    ]

pub returns-clause-ends : goal.returns-clause-ends
returns-clause-ends g c = λ set m.
    let r = c.args.self.now in
    let ends = c.loop-block.ends in
    let few : c.pointers-blocks.result.high < 2 ^ 128 = omega arith in
    taken_all c.pointers-blocks.result.low c.pointers-blocks.result.high c.loop-block.block
    (λ value. AreEndsAt r (λ d. pointer_of d c.args.dir 0) value (λ d. child_of d c.args.dir c.args.name.now)
    ends.inodes ends.nowhere) few (omega arith) c.loop-block.invariant.taken
    (pointer_of (disk_of r (image_of r.family.base r.family.patches set)) c.args.dir 0)
    (c.pointers-blocks.ensures set m) set m refl
