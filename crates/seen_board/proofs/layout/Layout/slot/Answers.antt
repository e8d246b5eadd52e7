use Rattle.std.proofs.Common.{arith}
use Rattle.seen_board.proofs.Slots.{slot_on, slot_wrapped}
use Rattle.seen_board.proofs.layout.Layout.slot.Goals as goal

pub returns-then-slot-self-clause-slot : goal.returns-then-slot-self-clause-slot
returns-then-slot-self-clause-slot c = slot_on c.args.self.now.places c.args.probe.word c.args.probe.first c.args.t
    c.requires.probe.1 c.if-slot-self.true

pub returns-else-slot-self-clause-slot : goal.returns-else-slot-self-clause-slot
returns-else-slot-self-clause-slot c = slot_wrapped c.args.self.now.places c.args.probe.word c.args.probe.first c.args.t
    c.requires.probe.1 c.requires.probe.2 c.requires.range.0 (omega (arith, c.if-slot-self.false))
