use Rattle.std.proofs.Common.{ℕ, Option, ◌∙◌}
use Rattle.patch_sets.proofs.Bits.{none_in_empty}
use Rattle.crash_model.specs.Disk.{Disk}
use Rattle.crash_model.specs.Patches.{image_of}
use Rattle.crash_model.specs.Paths.{child_of}
use Rattle.known_bytes.specs.NamedIn.{AreEnds}
use Rattle.known_bytes.specs.Reading.{disk_of}
use Rattle.known_bytes.proofs.AtHomes.{seen_none, seen_more, seen_all}
use Rattle.known_bytes.proofs.MaybeEnds.{within_either, end_first, end_second, end_of-step, or_left}
use Rattle.known_bytes.proofs.disk.KnownDisk.ends_from.Goals as goal

pub loop-dir-init : goal.loop-dir-init
loop-dir-init g c = record {
  within = λ inode is. absurd (none_in_empty inode is);
  nowhere = λ is. is;
  seen = seen_none (λ dir. AreEnds c.args.self.now (λ d. child_of d dir c.args.name.now) 0 c.args.here.nowhere)
      c.args.here.inodes;
}

pub ends_in-more-requires : goal.ends_in-more-requires
ends_in-more-requires g c = c.requires c.in-Some.dir
    (c.loop-dir.invariant.seen.inside c.in-Some.dir c.in-Some.ensures.found.inside)

pub loop-dir-preserved : goal.loop-dir-preserved
loop-dir-preserved g c =
    let r = c.args.self.now in
    let old = c.loop-dir.ends in
    let more = c.ends_in-more.result in
    let new = c.or-ends.result in
    let inodes = c.or-ends.ensures.inodes in
    let nowhere = c.or-ends.ensures.nowhere in
    let end : ℕ → Disk → Option ℕ = λ dir d. child_of d dir c.args.name.now in
    record {
      within = within_either old.inodes more.inodes new.inodes 16 inodes c.loop-dir.invariant.within
          c.ends_in-more.ensures.within;
      nowhere = λ is. nowhere ∙ or_left old.nowhere more.nowhere (c.loop-dir.invariant.nowhere is);
      seen = seen_more (λ dir. AreEnds r (end dir) old.inodes old.nowhere)
          (λ dir. AreEnds r (end dir) new.inodes new.nowhere) c.args.here.inodes c.loop-dir.left
          c.without_lowest-left.result c.in-Some.dir
          (λ dir before set m. end_first old.inodes more.inodes new.inodes old.nowhere more.nowhere new.nowhere inodes
          nowhere (end dir (disk_of r (image_of r.family.base r.family.patches set))) (before set m))
          (c.without_lowest-left.ensures.others c.in-Some.dir c.in-Some.ensures.found)
          (λ set m. end_second old.inodes more.inodes new.inodes old.nowhere more.nowhere new.nowhere inodes
          nowhere (end c.in-Some.dir (disk_of r (image_of r.family.base r.family.patches set)))
          (c.ends_in-more.ensures.ends set m)) c.loop-dir.invariant.seen;
    }

pub returns-clause-ends : goal.returns-clause-ends
returns-clause-ends g c = λ end are set m.
    let r = c.args.self.now in
    let d = disk_of r (image_of r.family.base r.family.patches set) in
    let ends = c.loop-dir.ends in
    end_of-step d c.args.name.now (end d) c.args.here.inodes ends.inodes c.args.here.nowhere ends.nowhere
    c.loop-dir.invariant.nowhere
    (λ dir is. seen_all (λ dir. AreEnds r (λ d. child_of d dir c.args.name.now) ends.inodes ends.nowhere)
    c.args.here.inodes c.loop-dir.left c.in_default.ensures.found c.loop-dir.invariant.seen dir is set m)
    (are set m)
