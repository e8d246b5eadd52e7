use Rattle.std.proofs.Common.{◌≡◌, ◌+◌, ◌<◌, length, map, take, sym, subst, arith}
use Rattle.hands.specs.Steps.{new_way}
use Rattle.hands.proofs.NewHands.{given-more, ways-more}
use Rattle.hands.proofs.making.ways_to_all.Goals as goal

pub loop-at-preserved : goal.loop-at-preserved
loop-at-preserved g c =
    let old = c.args.hands.now.items in
    let now = c.loop-at.hands.items in
    let kept = c.loop-at.invariant in
    let in' : c.loop-at.at < length old = omega (
      arith,
      c.loop-at-test.true,
      c.len-at-end.ensures,
      c.args.hands.now.ok.0,
    ) in
    let read = c.index_mut.ensures.value in
    record {
      ways = subst (λ ways. ways ≡ map new_way (take (c.loop-at.at + 1) old)) (sym c.in_ok-push.ensures.items)
          (ways-more old now c.loop-at.at _ c.loop-at.ways.items _ in' kept.given read kept.ways
          c.in_ok-way.ensures.way);
      given = given-more old now c.loop-at.at _ _ in' kept.given read c.in_ok-way.ensures.given;
    }
