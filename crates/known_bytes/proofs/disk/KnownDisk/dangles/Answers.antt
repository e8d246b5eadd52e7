use Rattle.std.proofs.Common.{◌≡◌, ◌+◌, ◌*◌, ℕ, false, not, ◌&&◌, Option, subst, ◌∙◌}
use Rattle.std.specs.Prelude.{◌==◌, MatchOption}
use Rattle.crash_model.specs.Disk.{byte}
use Rattle.crash_model.specs.Patches.{image_of}
use Rattle.crash_model.specs.Layout.{target_of, is_live, counts}
use Rattle.crash_model.specs.Faults.{is_dangling}
use Rattle.known_bytes.specs.Reading.{IsKnown, InEachDisk, disk_of}
use Rattle.known_bytes.specs.Directories.{IsItsBlock, counts_at}
use Rattle.known_bytes.proofs.Answered.{known_in}
use Rattle.known_bytes.proofs.FaultTests.{dangling_is}
use Rattle.known_bytes.proofs.disk.KnownDisk.dangles.Goals as goal

pub returns : goal.returns
returns g c =
    let r = c.args.self.now in
    let dir = c.args.dir in
    let k = c.args.k in
    let inode = c.args.inode in
    let block = c.in-Some.block in
    let its = subst (λ (o : Option ℕ). MatchOption o (InEachDisk r (λ d. counts d dir ≡ false))
    (λ block. InEachDisk r (IsItsBlock dir block))) c.in-Some.is c.in_ok-block.ensures.ok in
    let one = subst (λ (n : ℕ). IsKnown r (λ d. byte d n c.from-2.result == inode + 1) c.byte_is-names.result)
    c.from.ensures c.byte_is-names.ensures in
    let names = subst (λ (n : ℕ). IsKnown r (λ d. byte d block n == inode + 1) c.byte_is-names.result)
    (c.from-2.ensures ∙ c.entry_offset.ensures) one in
    known_in r (λ d. counts_at dir block d && ((byte d block (8 + 12 * k) == inode + 1) && not (is_live d inode)))
    (λ d. is_dangling d dir k && target_of d dir k == inode) c.both-2.result
    (λ set m. dangling_is (disk_of r (image_of r.family.base r.family.patches set)) dir k block inode (its set m))
    (c.both-2.ensures r (counts_at dir block) (λ d. (byte d block (8 + 12 * k) == inode + 1) && not (is_live d inode))
    c.counts_at.ensures
    (c.both.ensures r (λ d. byte d block (8 + 12 * k) == inode + 1) (λ d. not (is_live d inode)) names
    (c.negation-is_free.ensures r (λ d. is_live d inode) c.is_live.ensures)))
