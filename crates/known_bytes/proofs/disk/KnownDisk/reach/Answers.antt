use Rattle.std.proofs.Common.{ℕ, sym, subst}
use Rattle.known_bytes.specs.Reached.{IsReach}
use Rattle.known_bytes.proofs.Named.{HasRead, reach_starts, read_starts, read_more, reached_all}
use Rattle.known_bytes.proofs.disk.KnownDisk.reach.Goals as goal

pub loop-dir-init : goal.loop-dir-init
loop-dir-init g c =
    let r = c.args.self.now in
    let first = c.root-reach.result in
    record {
      reach = subst (λ (s : ℕ). IsReach r s first.may first.asks) (sym c.root-reach.ensures.sure)
          (subst (λ (s : ℕ). IsReach r 1 s first.asks) (sym c.root-reach.ensures.may)
          (reach_starts r c.requires first.asks));
      read = subst (λ (s : ℕ). HasRead r s 0xFFFF) (sym c.root-reach.ensures.may) (read_starts r);
    }

pub loop-dir-preserved : goal.loop-dir-preserved
loop-dir-preserved g c = record {
  reach = c.read.ensures.reach;
  read = read_more c.args.self.now c.loop-dir.reach.may c.read.new.reach.may c.loop-dir.unread c.without-unread.result
      c.in-Some.dir c.without-unread.ensures.others c.read.ensures.grown c.read.ensures.all c.loop-dir.invariant.read;
}

pub loop-dir-smaller : goal.loop-dir-smaller
loop-dir-smaller g c = c.without-unread.ensures.smaller c.in-Some.ensures.1

pub returns : goal.returns
returns g c =
    let old = c.loop-dir.invariant in
    record {
      reach = old.reach;
      all = reached_all c.args.self.now c.loop-dir.reach.may c.loop-dir.unread c.in_default.ensures old.reach.few
          old.read;
    }
