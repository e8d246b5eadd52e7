use Rattle.std.proofs.Common.{◌≡◌, length, arith}
use Rattle.crash_model.specs.Lists.{each_below, some_below}
use Rattle.known_bytes.specs.Counts.{slots_in, slot_at}
use Rattle.known_bytes.proofs.Counted.{inodes_zero}
use Rattle.known_bytes.proofs.Counted.{inodes_more, inodes_all}
use Rattle.known_bytes.proofs.disk.KnownDisk.namers.Goals as goal

pub loop-inode-init : goal.loop-inode-init
loop-inode-init g c =
    let n = c.none-count.result in
    record {
      right = c.none-count.ensures.right;
      few = omega (arith, c.none-count.ensures.zero);
      bounds = inodes_zero c.args.self.now c.args.block n.least n.most n.ask
          (c.none-count.ensures.counted c.args.self.now);
    }

pub loop-inode-preserved : goal.loop-inode-preserved
loop-inode-preserved g c =
    let r = c.args.self.now in
    let b = c.args.block in
    let n = c.plus-count.result in
    let w = c.loop-inode.invariant in
    record {
      right = c.plus-count.ensures.right;
      few = omega (arith, c.plus-count.ensures.most, w.few, c.named_in.ensures.few);
      bounds = inodes_more r b c.loop-inode.inode n.least n.most n.ask (c.plus-count.ensures.counted r
          (λ d. length (each_below c.loop-inode.inode (λ inode. some_below 4 (slot_at d b inode))))
          (λ d. slots_in 4 d b c.loop-inode.inode) w.bounds c.named_in.ensures.count);
    }

pub returns : goal.returns
returns g c =
    let end : c.loop-inode.inode ≡ 16 = omega arith in
    let n = c.loop-inode.count in
    inodes_all c.args.self.now c.args.block c.loop-inode.inode n.least n.most n.ask end c.loop-inode.invariant.bounds
