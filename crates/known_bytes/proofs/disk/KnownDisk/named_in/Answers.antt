use Rattle.std.proofs.Common.{arith}
use Rattle.crash_model.specs.Faults.{names_block}
use Rattle.known_bytes.specs.Counts.{slots_in}
use Rattle.known_bytes.proofs.Counted.{slots_zero, slots_more}
use Rattle.known_bytes.proofs.disk.KnownDisk.named_in.Goals as goal

pub loop-slot-init : goal.loop-slot-init
loop-slot-init g c =
    let n = c.none-count.result in
    record {
      right = c.none-count.ensures.right;
      few = omega (arith, c.none-count.ensures.zero);
      bounds = slots_zero c.args.self.now c.args.block c.args.inode n.least n.most n.ask
          (c.none-count.ensures.counted c.args.self.now);
    }

pub loop-slot-preserved : goal.loop-slot-preserved
loop-slot-preserved g c =
    let r = c.args.self.now in
    let b = c.args.block in
    let i = c.args.inode in
    let s = c.loop-slot.slot in
    let n = c.with-count.result in
    let w = c.loop-slot.invariant in
    record {
      right = c.with-count.ensures.right;
      few = omega (arith, c.with-count.ensures.few, w.few);
      bounds = slots_more r b i s n.least n.most n.ask (c.with-count.ensures.counted r (λ d. slots_in s d b i)
          (λ d. names_block d i s b) w.bounds c.names.ensures);
    }
