use Rattle.std.proofs.Common.{◌≡◌, ◌∙◌, ℕ, ap, arith, ◌%◌}
use Rattle.seen_board.proofs.AfterInserts.{returns_after, returns_successor, put_after}
use Rattle.seen_board.proofs.board.Board.try_insert.Goals as goal

pub insert_writing-requires-clause-successor : goal.insert_writing-requires-clause-successor
insert_writing-requires-clause-successor g c =
    rw c.probe-probe.ensures.word (returns_successor (g.S.Space.successors c.args.self.now.space) c.args.seat.now
    c.look_reading.new.seat c.args.word (returns_after c.args.seat.now c.find_probe.new.seat c.look_reading.new.seat
    c.find_probe.ensures.sees c.look_reading.ensures.returns) c.requires.successor)

pub returns-in-Taken : goal.returns-in-Taken
returns-in-Taken g c = record {
  put = returns_after c.args.seat.now c.find_probe.new.seat c.look_reading.new.seat
      c.find_probe.ensures.sees c.look_reading.ensures.returns;
}

pub returns-in-At : goal.returns-in-At
returns-in-At g c = let w = c.probe-probe.ensures.word in let q : c.probe-probe.result.shard ≡ c.args.word % 13 =
    c.probe-probe.ensures.probe.0 ∙ ap (λ (x : ℕ). x % 13) w in
    record {
      put = (
        returns_after c.args.seat.now c.find_probe.new.seat c.look_reading.new.seat
            c.find_probe.ensures.sees c.look_reading.ensures.returns,
        ((omega (arith, q), c.in-At.ensures.looked.0), c.in-At.ensures.looked.1 ∙ w, q),
      );
    }

pub returns-in-Absent : goal.returns-in-Absent
returns-in-Absent g c = record {
  put = put_after c.args.seat.now c.look_reading.new.seat c.insert_writing.new.seat
      c.args.word c.insert_writing.result (returns_after c.args.seat.now c.find_probe.new.seat c.look_reading.new.seat
      c.find_probe.ensures.sees c.look_reading.ensures.returns)
      (rw c.probe-probe.ensures.word at c.insert_writing.ensures.put);
}
