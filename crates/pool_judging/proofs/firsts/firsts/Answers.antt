use Rattle.std.proofs.Common.{arith, ◌∙◌}
use Rattle.std.proofs.lemmas.List.{length-set}
use Rattle.crash_model.proofs.KindNumbers.{kind_low}
use Rattle.pool_judging.proofs.Least.{least_is_first, least_below_more}
use Rattle.pool_judging.proofs.firsts.firsts.Goals as goal

pub loop-place-preserved : goal.loop-place-preserved
loop-place-preserved c =
    let sets = c.loop-place.first_sets in
    let place = c.loop-place.place in
    let are = c.loop-place.invariant in
    record {
      long = length-set sets place c.first_of.result ∙ are.long;
      so_far = least_below_more c.args.faults.now place sets c.at.result c.first_of.result are.so_far
          (omega (arith, are.long, c.loop-place-test.true)) c.at.ensures c.first_of.ensures;
    }

pub returns : goal.returns
returns c = λ demands base patches are kind.
    least_is_first demands base patches c.args.faults.now kind _ are
    (c.loop-place.invariant.so_far kind (omega (arith, kind_low kind, c.loop-place-test.false)))
