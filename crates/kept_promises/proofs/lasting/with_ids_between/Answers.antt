use Rattle.std.proofs.Common.{inl, inr, length, arith, refl, ◌∙◌}
use Rattle.kept_promises.proofs.Ids.{with_none, with_next, with_all}
use Rattle.kept_promises.proofs.lasting.with_ids_between.Goals as goal

pub loop-id-init : goal.loop-id-init
loop-id-init g c = record { more = with_none c.args.set c.args.known; least = omega arith; most = inr refl }

pub loop-id-preserved : goal.loop-id-preserved
loop-id-preserved g c = record {
  more = c.with-more.ensures
      ∙ with_next c.args.set c.loop-id.more c.args.known c.loop-id.id c.loop-id.invariant.least
      c.loop-id.invariant.more;
  least = omega (arith, c.loop-id.invariant.least);
  most = inl (omega (arith, c.loop-id-test.true, c.len-id-end.ensures.number));
}

pub returns : goal.returns
returns g c =
    with_all c.args.set c.loop-id.more c.args.known c.loop-id.id (length c.args.graph.now) c.loop-id.invariant.more
    (omega (arith, c.loop-id-test.false, c.len-id-end.ensures.number)) c.loop-id.invariant.most
