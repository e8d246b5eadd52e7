use Rattle.std.proofs.Common.{◌≡◌, ◌∙◌, length, IfSome, arith, refl, ap, subst}
use Rattle.std.proofs.lemmas.List.Elements.{All-push, All-pop}
use Rattle.explorers.specs.Ready.{IsReady}
use Rattle.explorers.proofs.Sharing.{whole_alone, whole_split}
use Rattle.explorers.proofs.exploring.new_workers.Goals as goal

pub loop-hand-preserved : goal.loop-hand-preserved
loop-hand-preserved g c =
    let b = c.args.board.now in
    let start = g.S.Space.initial c.args.space.now in
    record {
      idle = c.new_worker.ensures.idle;
      made = c.new_worker.ensures.made ∙ c.loop-hand.invariant.made;
      shares = rw c.in_ok-push.ensures.items (whole_split (λ worker. worker.seat.share) c.loop-hand.seat.share
          c.new_worker.new.seat.share c.loop-hand.workers.items c.in_ok-worker.worker c.in_ok-worker.ensures.share
          c.in_ok-worker.ensures.half c.loop-hand.invariant.shares);
      start = rw c.new_worker.ensures.seen c.loop-hand.invariant.start;
      ready = rw c.in_ok-push.ensures.items (All-push (IsReady b c.args.space.now g.S.Space.is_own)
          c.loop-hand.workers.items c.in_ok-worker.worker c.loop-hand.invariant.ready c.in_ok-worker.ensures.ready);
      ways = (All-pop (λ hand. length hand.ways ≡ c.len-count.result) c.loop-hand.hands.items c.pop.new.self.items
          c.pop.result c.pop.ensures.items c.loop-hand.invariant.ways).0;
      count = omega (arith, c.in-Some.ensures.cases, c.in_ok-push.ensures.len, c.loop-hand.invariant.count);
    }

pub loop-hand-init : goal.loop-hand-init
loop-hand-init g c = record {
  idle = c.requires.idle;
  made = refl;
  shares = rw c.new-workers.ensures.items (whole_alone (λ worker. worker.seat.share) c.args.seat.now.share
      c.requires.whole);
  start = c.requires.start;
  ready = λ k d inside. absurd (omega (arith, inside, ap length c.new-workers.ensures.items));
  ways = λ k d inside. omega (arith, c.requires.ways k d inside, c.len-count.ensures, c.args.hands.ok);
  count = omega (arith, c.len-count.ensures, ap length c.new-workers.ensures.items, c.args.hands.ok);
}

pub new-tasks-requires-clause-ways : goal.new-tasks-requires-clause-ways
new-tasks-requires-clause-ways g c =
    let taken = All-pop (λ hand. length hand.ways ≡ c.len-count.result) c.loop-hand.hands.items c.pop.new.self.items
    c.pop.result c.pop.ensures.items c.loop-hand.invariant.ways in
    let here : length c.in-Some.hand.ways ≡ c.len-count.result =
    subst (λ r. IfSome r (λ hand. length hand.ways ≡ c.len-count.result)) c.in-Some.is taken.1 in
    omega (arith, here)
