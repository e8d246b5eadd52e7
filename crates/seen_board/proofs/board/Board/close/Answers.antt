use Rattle.seen_board.proofs.Endings.{end_seen, end_whole, end_entries, end_settled, end_claimed, end_given_up}
use Rattle.seen_board.proofs.Endings.{end_learned, end_added, end_accounts, end_done, end_over}
use Rattle.seen_board.proofs.board.Board.close.Goals as goal

pub returns-clause-seen : goal.returns-clause-seen
returns-clause-seen g c = rw (← c.seat.view_is) (end_seen
    _ _ _ _ _ _ _ (rw c.self.invariant.2 at c.close_with.ensures.values.2))

pub returns-clause-whole : goal.returns-clause-whole
returns-clause-whole g c = rw (← c.seat.view_is) (end_whole
    _ _ _ _ _ _ _ (rw c.self.invariant.2 at c.close_with.ensures.values.2))

pub returns-clause-entries : goal.returns-clause-entries
returns-clause-entries g c = rw (← c.self.view_is) (end_entries
    _ _ _ _ _ _ _ (rw c.self.invariant.2 at c.close_with.ensures.values.2))

pub returns-clause-settled : goal.returns-clause-settled
returns-clause-settled g c = rw (← c.self.view_is) (end_settled
    _ _ _ _ _ _ _ (rw c.self.invariant.2 at c.close_with.ensures.values.2))

pub returns-clause-claimed : goal.returns-clause-claimed
returns-clause-claimed g c = rw (← c.seat.view_is) (end_claimed
    _ _ _ _ _ _ _ (rw c.self.invariant.2 at c.close_with.ensures.values.2))

pub returns-clause-given_up : goal.returns-clause-given_up
returns-clause-given_up g c = rw (← c.seat.view_is) (end_given_up
    _ _ _ _ _ _ _ (rw c.self.invariant.2 at c.close_with.ensures.values.2))

pub returns-clause-learned : goal.returns-clause-learned
returns-clause-learned g c = rw (← c.seat.view_is) (end_learned
    _ _ _ _ _ _ _ (rw c.self.invariant.2 at c.close_with.ensures.values.2))

pub returns-clause-added : goal.returns-clause-added
returns-clause-added g c = rw (← c.seat.view_is) (end_added
    _ _ _ _ _ _ _ (rw c.self.invariant.2 at c.close_with.ensures.values.2))

pub returns-clause-accounts : goal.returns-clause-accounts
returns-clause-accounts g c = rw (← c.self.view_is, ← c.seat.view_is)
    (λ whole. end_accounts _ _ _ _ _ _ _ (rw c.self.invariant.2 at c.close_with.ensures.values.2) _ whole
    c.seat.invariant.0.2)

pub returns-clause-finished : goal.returns-clause-finished
returns-clause-finished g c = rw (← c.self.view_is, ← c.seat.view_is)
    (λ f. end_done _ _ _ _ _ _ _ (rw c.self.invariant.2 at c.close_with.ensures.values.2) f)

pub returns-clause-over : goal.returns-clause-over
returns-clause-over g c = rw (← c.self.view_is, ← c.seat.view_is)
    (end_over _ _ _ _ _ _ _ (rw c.self.invariant.3 at (rw c.self.invariant.2 at c.close_with.ensures.values.2)))
