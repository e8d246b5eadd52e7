use Rattle.std.proofs.Common.{◌≡◌, length, arith}
use Rattle.crash_model.specs.Lists.{each_below, some_below}
use Rattle.known_bytes.specs.Counts.{entries_in, entry_at}
use Rattle.known_bytes.proofs.Counted.{dirs_zero, dirs_more, dirs_all}
use Rattle.known_bytes.proofs.disk.KnownDisk.entries_to.Goals as goal

pub loop-dir-init : goal.loop-dir-init
loop-dir-init g c =
    let n = c.none-count.result in
    record {
      right = c.none-count.ensures.right;
      few = omega (arith, c.none-count.ensures.zero);
      bounds = dirs_zero c.args.self.now c.args.inode n.least n.most n.ask
          (c.none-count.ensures.counted c.args.self.now);
    }

pub loop-dir-preserved : goal.loop-dir-preserved
loop-dir-preserved g c =
    let r = c.args.self.now in
    let i = c.args.inode in
    let n = c.plus-count.result in
    let w = c.loop-dir.invariant in
    record {
      right = c.plus-count.ensures.right;
      few = omega (arith, c.plus-count.ensures.most, w.few, c.leads_in.ensures.few);
      bounds = dirs_more r i c.loop-dir.dir n.least n.most n.ask (c.plus-count.ensures.counted r
          (λ d. length (each_below c.loop-dir.dir (λ dir. some_below 10 (entry_at d i dir))))
          (λ d. entries_in 10 d i c.loop-dir.dir) w.bounds c.leads_in.ensures.count);
    }

pub returns-clause-ok : goal.returns-clause-ok
returns-clause-ok g c =
    let end : c.loop-dir.dir ≡ 16 = omega arith in
    let n = c.loop-dir.count in
    dirs_all c.args.self.now c.args.inode c.loop-dir.dir n.least n.most n.ask end c.loop-dir.invariant.bounds
