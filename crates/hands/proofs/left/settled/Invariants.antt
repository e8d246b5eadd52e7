use Rattle.std.proofs.Common.{◌≡◌, ℕ, ◌+◌, ◌<◌, All, length, sum_by}
use Rattle.crossbeam_deque.specs.Handles.{worker_view, worker_deque}
use Rattle.hands.specs.Accounts.{weigh}
use Rattle.hands.specs.Known.{Way}
use Rattle.hands.specs.Remaining.{LeadsTo, weigh_taken}
use Rattle.hands.proofs.left.settled.Given as goal

-- what the deque's own pass holds has grown by what the passes that came back hold
abbrev pub invariant-loop-hand : goal.invariant-loop-hand
invariant-loop-hand g l =
    let rest = l.hand-iterator.rest.items in
    record {
      home : worker_deque l.deque ≡ worker_deque l.fn.deque;
      ways : All (LeadsTo (worker_deque l.fn.deque) l.fn.of) rest;
      part : 0 < (worker_view l.deque).parts;
      parts : (worker_view l.deque).parts + length rest ≡ 17;
      pushed : (worker_view l.deque).pushed ≡ (worker_view l.fn.deque).pushed;
      taken : (e : Way g.row.T.Denot g.row.A.Denot) (weight : g.row.T.Denot → ℕ)
          → weigh weight (worker_view l.deque).taken + sum_by (weigh_taken weight l.fn.of e) rest
          ≡ weigh weight (worker_view l.fn.deque).taken + sum_by (weigh_taken weight l.fn.of e) l.fn.others.items;
    }
