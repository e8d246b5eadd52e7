use Rattle.std.proofs.Common.{ap, ◌∙◌, arith}
use Rattle.seen_board.specs.Known.{Known}
use Rattle.seen_board.proofs.AfterInserts.{returns_from}
use Rattle.seen_board.proofs.board.Board.look_reading.Goals as goal

pub look_from-found-requires-clause-before : goal.look_from-found-requires-clause-before
look_from-found-requires-clause-before g c = λ k h. absurd (omega (arith, h))

pub returns-in-Some-clause-returns : goal.returns-in-Some-clause-returns
returns-in-Some-clause-returns g c = returns_from c.args.seat.now c.try_read.new.seat c.leave.new.seat 1
    c.args.probe.shard (c.try_read.ensures.right c.in-Right.is)
    (c.leave.ensures ∙ ap (λ (s : Known). record s { right = 0 }) c.look_from-found.ensures.same)

pub returns-in-None-clause-returns : goal.returns-in-None-clause-returns
returns-in-None-clause-returns g c = returns_from c.args.seat.now c.try_read.new.seat c.leave.new.seat 1
    c.args.probe.shard (c.try_read.ensures.right c.in-Right.is)
    (c.leave.ensures ∙ ap (λ (s : Known). record s { right = 0 }) c.look_from-found.ensures.same)
