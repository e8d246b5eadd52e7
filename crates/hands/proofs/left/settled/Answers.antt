use Rattle.std.proofs.Common.{◌≡◌, ◌∙◌, suc, ◌∷◌, ◌+◌, ◌<◌, All, length, get_or, sum_by, refl, ap, sym, subst, arith}
use Rattle.std.proofs.lemmas.List.Sums.{sum_by-cons}
use Rattle.std.proofs.lemmas.List.{nil_from_length}
use Rattle.crossbeam_deque.specs.Handles.{worker_view, worker_deque, IsPassOf}
use Rattle.hands.specs.Accounts.{weigh}
use Rattle.hands.specs.Known.{Way, Known}
use Rattle.hands.specs.Together.{IsWay}
use Rattle.hands.specs.Remaining.{LeadsTo, weigh_taken}
use Rattle.hands.proofs.Moves.{merges, learns, absorbed}
use Rattle.hands.proofs.Kept.{same-way, first-leads}
use Rattle.hands.proofs.left.settled.Goals as goal

pub loop-hand-init : goal.loop-hand-init
loop-hand-init g c =
    let of = c.args.of in
    let same = c.into_iter-hand-iterator.ensures.into_iter_gives.0 in
    record {
      home = refl;
      ways = subst (All (LeadsTo (worker_deque c.args.deque) of)) (sym same) c.requires.ways;
      part = c.requires.part;
      parts = ap (λ hands. (worker_view c.args.deque).parts + length hands) same ∙ c.requires.parts;
      pushed = refl;
      taken = λ e weight. ap (λ hands. weigh weight (worker_view c.args.deque).taken + sum_by (weigh_taken weight of e)
          hands) same;
    }

pub swap_remove-requires : goal.swap_remove-requires
swap_remove-requires g c =
    let here = first-leads _ _ _ _ c.loop-hand.hand-iterator.rest.items c.in-Some.ensures.steps.0
    c.loop-hand.invariant.ways in
    let within = subst (λ (h : Known g.row.T.Denot g.row.A.Denot). c.args.of < length h.ways) (sym c.hand.view_is)
    here.0 in
    omega (arith, within, c.hand.inside.reaches.ok.0)

pub absorb-requires-clause-table : goal.absorb-requires-clause-table
absorb-requires-clause-table g c =
    let way = c.swap_remove.result in
    let here = first-leads _ _ _ _ c.loop-hand.hand-iterator.rest.items c.in-Some.ensures.steps.0
    c.loop-hand.invariant.ways in
    let at = c.swap_remove.ensures.value ∙ ap (λ (h : Known g.row.T.Denot g.row.A.Denot). get_or h.ways c.args.of way)
    c.hand.view_is in
    let home = ap (λ (w : Way g.row.T.Denot g.row.A.Denot). w.home) at ∙ (here.1 way).0
    ∙ sym c.loop-hand.invariant.home in
    subst (λ to. IsPassOf to c.into_pass.result) home c.into_pass.ensures.deque

pub absorb-requires-clause-rule : goal.absorb-requires-clause-rule
absorb-requires-clause-rule g c = merges _ _ _ _ c.loop-hand.invariant.part

pub loop-hand-smaller : goal.loop-hand-smaller
loop-hand-smaller g c = omega (
  arith,
  ap length c.in-Some.ensures.steps.0,
  c.loop-hand.hand-iterator.rest.ok.0,
  c.next.new.self.rest.ok.0,
)

pub loop-hand-preserved : goal.loop-hand-preserved
loop-hand-preserved g c =
    let kept = c.loop-hand.invariant in
    let of = c.args.of in
    let home = worker_deque c.args.deque in
    let hand = c.in-Some.hand in
    let rest = c.next.new.self.rest.items in
    let step = c.in-Some.ensures.steps.0 in
    let way = c.swap_remove.result in
    let ways : All (LeadsTo home of) (hand ∷ rest) = subst (All (LeadsTo home of)) step kept.ways in
    let here : LeadsTo home of hand = ways 0 hand (omega arith) in
    let at : way ≡ get_or hand.ways of way = c.swap_remove.ensures.value
    ∙ ap (λ (h : Known g.row.T.Denot g.row.A.Denot). get_or h.ways of way) c.hand.view_is in
    let is : IsWay way = subst IsWay (sym at) (here.1 way).1 in
    let holds = c.into_pass.ensures.holds in
    let back = absorbed (worker_view c.loop-hand.deque) (worker_view c.absorb.new.self) _ c.absorb.ensures.rule
    (ap (λ v. v.pushed) holds ∙ is.1) in
    record {
      home = c.absorb.ensures.same.0.0 ∙ kept.home;
      ways = λ k d lt. ways (suc k) d (omega (arith, lt));
      part = omega (arith, back.1, kept.part);
      parts = omega (arith, back.1, kept.parts, ap length step, ap (λ v. v.parts) holds, is.0);
      pushed = back.0 ∙ kept.pushed;
      taken = λ e weight.
          let sums = ap (sum_by (weigh_taken weight of e)) step ∙ sum_by-cons (weigh_taken weight of e) hand rest in
          let same = ap (λ (w : Way g.row.T.Denot g.row.A.Denot). weigh weight w.holds.taken)
          (same-way hand of e way here.0 at) in
          let before = kept.taken e weight in
          let more = back.2 weight in
          omega (arith, sums, same, before, more, ap (λ v. weigh weight v.taken) holds);
    }

pub len_as-requires : goal.len_as-requires
len_as-requires g c = learns _ _

pub returns : goal.returns
returns g c =
    let kept = c.loop-hand.invariant in
    let left = c.len_as.ensures.rule in
    let rest = c.loop-hand.hand-iterator.rest in
    let none = nil_from_length rest.items (omega (arith, rest.ok.0, c.in-None.ensures.steps.0)) in (
      left.0,
      left.1,
      λ e weight.
          let balance = left.2 (omega (arith, kept.parts, ap length none)) weight in
          let taken = kept.taken e weight in
          omega (
            arith,
            balance,
            taken,
            ap (weigh weight) kept.pushed,
            ap (sum_by (weigh_taken weight c.args.of e)) none,
          ),
    )
