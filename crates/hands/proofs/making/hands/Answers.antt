use Rattle.std.proofs.Common.{length, arith, ap, ◌∙◌, subst}
use Rattle.std.proofs.lemmas.List.{length-map}
use Rattle.hands.specs.Steps.{with_one_less}
use Rattle.hands.proofs.Kept.{fresh-together}
use Rattle.hands.proofs.NewHands.{Made, begin, parts-left, next, done, ways-counted}
use Rattle.hands.proofs.making.hands.Goals as goal

pub loop-worker-init : goal.loop-worker-init
loop-worker-init g c = begin _ _ c.in_ok-hands.ensures.count c.in_ok-hands.ensures.bare

pub ways_to_all-requires : goal.ways_to_all-requires
ways_to_all-requires g c = record {
  parts = parts-left _ _ _ c.loop-worker.invariant c.loop-worker-test.true
      c.requires.workers.1;
}

pub index_mut-requires : goal.index_mut-requires
index_mut-requires g c =
    let count = ap length c.in_ok-ways.ensures.given ∙ length-map c.loop-worker.hands.items with_one_less in
    omega (arith, count, c.ways_to_all.new.hands.ok.0, c.loop-worker.invariant.count, c.loop-worker-test.true)

pub loop-worker-preserved : goal.loop-worker-preserved
loop-worker-preserved g c =
    next _ _ c.loop-worker.hands.items c.ways_to_all.new.hands.items c.index_mut.result.now _ c.loop-worker.invariant
    (omega arith) c.in_ok-ways.ensures.given c.index_mut.ensures.value
    (c.set_ways.ensures ∙ ap (λ ways. record c.index_mut.result.now { ways = ways }) c.in_ok-ways.ensures.ways)

pub returns : goal.returns
returns g c =
    let made : Made c.args.workers c.args.workers c.loop-worker.hands.items =
    subst (λ n. Made c.args.workers n c.loop-worker.hands.items) (omega arith) c.loop-worker.invariant in
    let fresh = done _ _ made in
    record {
      fresh = fresh;
      together = fresh-together c.args.workers c.loop-worker.hands.items (omega arith) fresh;
      count = made.count;
      ways = ways-counted _ _ made;
    }
