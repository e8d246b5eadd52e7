use Rattle.std.proofs.Common.{subst, get_or, ◌≡◌}
use Rattle.seen_board.specs.Known.{Known}
use Rattle.seen_board.specs.Clauses.{HasPlace, word_at, SeesOn}
use Rattle.seen_board.specs.Inserts.{PutOk}
use Rattle.test_board.specs.Worker.{IsAt}
use Rattle.seen_board.proofs.Chains.{sees_on_refl}
use Rattle.seen_board.proofs.Puts.{put_sees, successor_on}
use Rattle.test_board.proofs.Expanding.{still_at, put_after}
use Rattle.test_board.proofs.start.put_successor.Goals as goal

pub try_insert-requires-clause-successor : goal.try_insert-requires-clause-successor
try_insert-requires-clause-successor g c = let same = c.at-word.ensures.same in
    let word : c.at-word.result ≡ word_at c.at-word.new.seat.seen c.args.place = rw same c.at-word.ensures.word in
    let after = g.S.Space.successors c.args.space.now in
    let s = c.at-word.new.seat in
    let has : HasPlace s.seen c.args.place = rw same c.requires.claim.1 in
    rw c.requires.board.1 (successor_on after s.seen c.args.place c.args.k c.next.result s
    (rw same c.requires.claim.0) has (sees_on_refl s.seen) (rw same c.requires.below) (rw (← word) c.next.ensures))

pub returns-clause-put : goal.returns-clause-put
returns-clause-put g c = subst (λ (s : Known). PutOk (get_or
    (g.S.Space.successors c.args.space.now (word_at c.args.seat.now.seen c.args.place)) c.args.k 0) s
    c.try_insert.new.seat c.try_insert.result) c.at-word.ensures.same
    (rw (← c.at-word.ensures.word) (rw (← c.next.ensures) c.try_insert.ensures.put))

pub returns-clause-sees : goal.returns-clause-sees
returns-clause-sees g c = subst (λ (s : Known). SeesOn s.seen c.try_insert.new.seat.seen) c.at-word.ensures.same
    (put_sees c.next.result c.at-word.new.seat c.try_insert.new.seat c.try_insert.result c.try_insert.ensures.put)

pub returns-clause-still : goal.returns-clause-still
returns-clause-still g c = λ not-over. let same = c.at-word.ensures.same in
    subst (λ (s : Known). IsAt c.args.board.now c.args.place (word_at s.seen c.args.place) c.try_insert.new.seat) same
    (still_at c.args.board.now c.args.place c.next.result c.at-word.new.seat c.try_insert.new.seat c.try_insert.result
    c.try_insert.ensures.put (rw same c.requires.board.0) (rw same c.requires.claim.0)
    (rw same c.requires.claim.1) not-over)

pub returns-clause-after : goal.returns-clause-after
returns-clause-after g c = put_after c.args.board.now c.next.result c.at-word.new.seat c.try_insert.new.seat
    c.try_insert.result c.try_insert.ensures.put (rw c.at-word.ensures.same c.requires.board.0)
