use Rattle.std.specs.Prelude.{◌≡◌, ℕ}
use Rattle.seen_board.specs.Clauses.{word_at}
use Rattle.explorers.specs.Ready.{IsFree, Keeps, Expands}
use Rattle.explorers.proofs.exploration.Exploration.expand.Given as goal

abbrev pub invariant-loop-next : goal.invariant-loop-next
invariant-loop-next g l =
    let space = l.self.space.now in
    let seen = l.initial.mine.seat.seen in
    record {
      expanded : l.mine.expanded ≡ l.initial.mine.expanded;
      keeps : Keeps l.initial.mine.seat l.mine.seat;
      free : IsFree l.self.board.now space g.S.Space.is_own l.mine;
      k : ℕ;
      ahead : g.S.Space.is_ahead space l.word l.ahead k;
      expands : Expands l.self.board.now seen l.place (g.S.Space.successors space (word_at seen l.place)) k l.mine.seat;
    }

abbrev pub decreases-loop-next : goal.decreases-loop-next
decreases-loop-next g l = l.ahead
