use Rattle.seen_board.specs.declared.answers.Put.TheVariants.{Busy}
use Rattle.seen_board.proofs.AfterInserts.{returns_same, returns_successor, put_after}
use Rattle.seen_board.proofs.board.Board.insert.Goals as goal

pub loop-init : goal.loop-init
loop-init g c = returns_same c.args.seat.now c.args.seat.now c.requires.seat.1 (λ i. c.args.seat.now)

pub try_insert-requires-clause-successor : goal.try_insert-requires-clause-successor
try_insert-requires-clause-successor g c = returns_successor (g.S.Space.successors c.args.self.now.space)
    c.args.seat.now c.loop.seat c.args.word c.loop.invariant c.requires.successor

pub loop-preserved : goal.loop-preserved
loop-preserved g c = put_after c.args.seat.now c.loop.seat c.try_insert.new.seat c.args.word Busy c.loop.invariant
    c.in-Busy.ensures.put

pub returns-in_default-clause-put : goal.returns-in_default-clause-put
returns-in_default-clause-put g c = put_after c.args.seat.now c.loop.seat c.try_insert.new.seat c.args.word
    c.try_insert.result c.loop.invariant c.try_insert.ensures.put
