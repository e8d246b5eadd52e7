use Rattle.std.proofs.Common.{length, ap, sym, subst, arith}
use Rattle.hands.specs.Known.{Known}
use Rattle.hands.specs.Together.{IsHandOf}
use Rattle.hands.proofs.Kept.{way-kept, ways-set}
use Rattle.hands.proofs.hand.Hand.steal.Goals as goal

pub returns-clause-same : goal.returns-clause-same
returns-clause-same g c = (
  ap (λ (h : Known g.row.T.Denot g.row.A.Denot). h.home) c.self.view_is,
  λ homes is.
      let was = subst (IsHandOf homes) (sym c.self.view_is) is in
      let kept = way-kept c.steal.result c.index_mut.result.now c.steal.new.self c.steal.ensures in (
        was.0,
        ways-set homes c.self.inside.reaches.items c.args.from c.index_mut.result.now c.steal.new.self
            (omega (arith, c.requires, ap (λ (h : Known g.row.T.Denot g.row.A.Denot). length h.ways) c.self.view_is))
            c.index_mut.ensures.value kept.0 kept.1 was.1,
      ),
)
