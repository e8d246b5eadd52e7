use Rattle.std.proofs.Common.{arith, ap, subst, ◌∙◌, ◌≡◌, ◌<◌, ℕ, length, get_or}
use Rattle.board_rule.specs.Layout.{writer}
use Rattle.board_rule.specs.Lists.{row_of}
use Rattle.seen_board.specs.Clauses.{Gains, Lacks, with_given_up}
use Rattle.seen_board.specs.Known.{Known}
use Rattle.seen_board.proofs.AfterInserts.{before_lacks, gains_successor, put_known, put_over, put_added}
use Rattle.seen_board.proofs.board.Board.insert_writing.Goals as goal

pub look_from-requires-clause-before : goal.look_from-requires-clause-before
look_from-requires-clause-before g c = let gains : Gains c.args.seat.now writer c.args.probe.shard
    c.try_write.new.seat = c.try_write.ensures.right c.in-Right.is in let near : c.args.probe.shard < 13 =
    omega (arith, c.requires.probe.0) in
    before_lacks c.args.seat.now.seen c.try_write.new.seat.seen c.args.probe.shard c.args.probe.word
    (get_or c.seat.inside.counts c.args.probe.shard 0) near gains.1
    (c.seat.invariant.1.each c.args.probe.shard near ∙ ap (λ (s : Known). length (row_of s.seen c.args.probe.shard))
    c.seat.view_is)
    c.requires.absent

pub overflow-requires-clause-successor : goal.overflow-requires-clause-successor
overflow-requires-clause-successor g c = gains_successor (g.S.Space.successors c.args.self.now.space) c.args.seat.now
    c.try_write.new.seat c.look_from.new.seat writer c.args.probe.shard c.args.probe.word
    (c.try_write.ensures.right c.in-Right.is) c.look_from.ensures.same c.requires.successor

pub add-requires-clause-successor : goal.add-requires-clause-successor
add-requires-clause-successor g c = gains_successor (g.S.Space.successors c.args.self.now.space) c.args.seat.now
    c.try_write.new.seat c.look_from.new.seat writer c.args.probe.shard c.args.probe.word
    (c.try_write.ensures.right c.in-Right.is) c.look_from.ensures.same c.requires.successor

pub returns-in-Some : goal.returns-in-Some
returns-in-Some g c = record {
  put = put_known c.args.seat.now c.try_write.new.seat c.give.new.seat writer
      c.args.probe.shard c.args.probe.word record { shard = c.args.probe.shard; at = c.in-Some.at }
      (c.try_write.ensures.right c.in-Right.is) (c.give.ensures
      ∙ ap (λ (s : Known). record s { right = 0 }) c.look_from.ensures.same)
      ((omega (arith, c.requires.probe.0), c.in-Some.ensures.found.0), c.in-Some.ensures.found.1, c.requires.probe.0);
}

pub returns-then-seat-shard : goal.returns-then-seat-shard
returns-then-seat-shard g c = let same : c.overflow.new.seat
    ≡ record (with_given_up c.try_write.new.seat) { over = 1 } = rw c.look_from.ensures.same at c.overflow.ensures in
    record {
      put = put_over c.args.seat.now c.try_write.new.seat c.give-then-seat-shard.new.seat writer
          c.args.probe.shard c.args.probe.word (c.try_write.ensures.right c.in-Right.is)
          (rw same at c.give-then-seat-shard.ensures);
    }

pub returns : goal.returns
returns g c = record {
  put = put_added c.args.seat.now c.try_write.new.seat c.add.new.seat writer c.args.probe.shard
      c.args.probe.word c.add.result (c.try_write.ensures.right c.in-Right.is)
      (subst (λ (q : ℕ). Lacks (row_of c.args.seat.now.seen q) c.args.probe.word) c.requires.probe.0 c.requires.absent)
      (rw c.look_from.ensures.same at c.add.ensures.added);
}
