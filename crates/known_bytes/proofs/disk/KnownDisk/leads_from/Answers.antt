use Rattle.std.proofs.Common.{◌+◌, ◌*◌, ℕ, ◌&&◌, arith, subst, ◌∙◌}
use Rattle.std.specs.Prelude.{◌==◌}
use Rattle.crash_model.specs.Disk.{byte}
use Rattle.crash_model.specs.Patches.{image_of}
use Rattle.crash_model.specs.Faults.{leads_to}
use Rattle.known_bytes.specs.Reading.{IsKnown, disk_of}
use Rattle.known_bytes.specs.Directories.{counts_at}
use Rattle.known_bytes.specs.Counts.{entries_in}
use Rattle.known_bytes.proofs.Answered.{known_in}
use Rattle.known_bytes.proofs.Counted.{entries_zero, entries_more}
use Rattle.known_bytes.proofs.FaultTests.{leads_is}
use Rattle.known_bytes.proofs.disk.KnownDisk.leads_from.Goals as goal

pub loop-k-init : goal.loop-k-init
loop-k-init g c =
    let n = c.none-count.result in
    record {
      right = c.none-count.ensures.right;
      few = omega (arith, c.none-count.ensures.zero);
      bounds = entries_zero c.args.self.now c.args.inode c.args.dir n.least n.most n.ask
          (c.none-count.ensures.counted c.args.self.now);
    }

pub loop-k-preserved : goal.loop-k-preserved
loop-k-preserved g c =
    let r = c.args.self.now in
    let block = c.args.directory.block in
    let dir = c.args.dir in
    let i = c.args.inode in
    let k = c.loop-k.k in
    let n = c.with-count.result in
    let w = c.loop-k.invariant in
    let one = subst (λ (n : ℕ). IsKnown r (λ d. byte d n c.from.result == i + 1) c.byte_is-names.result)
    c.from-block.ensures c.byte_is-names.ensures in
    let names = subst (λ (n : ℕ). IsKnown r (λ d. byte d block n == i + 1) c.byte_is-names.result)
    (c.from.ensures ∙ c.entry_offset.ensures) one in
    let leads = known_in r (λ d. counts_at dir block d && (byte d block (8 + 12 * k) == i + 1))
    (λ d. leads_to d dir k i)
    c.both.result
    (λ set m. leads_is (disk_of r (image_of r.family.base r.family.patches set)) dir k block i
    (c.requires.found.its set m))
    (c.both.ensures r (counts_at dir block) (λ d. byte d block (8 + 12 * k) == i + 1) c.requires.found.known names) in
    record {
      right = c.with-count.ensures.right;
      few = omega (arith, c.with-count.ensures.few, w.few);
      bounds = entries_more r i dir k n.least n.most n.ask (c.with-count.ensures.counted r (λ d. entries_in k d i dir)
          (λ d. leads_to d dir k i) w.bounds leads);
    }
