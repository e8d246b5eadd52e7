use Rattle.std.proofs.Common.{rules, sym, ap, ◌≡◌, ◌∙◌}
use Rattle.board_rule.specs.Lives.{verdict_of}
use Rattle.board_rule.proofs.LifeSteps.{settles}
use Rattle.board_rule.proofs.CounterSteps.{repays}
use Rattle.seen_board.proofs.board.Board.settle.Goals.{then-good, else-good}
use Rattle.seen_board.proofs.board.Board.settle.Goals as goal

pub store-requires : goal.store-requires
store-requires g c = let stored : c.if-good.verdict ≡ verdict_of c.args.good =
    elim c.if-good.branch [
      | then-good w ↦ w.verdict-is ∙ ap verdict_of (sym w.if-good.true)
      | else-good w ↦ w.verdict-is
          ∙ ap verdict_of (sym w.if-good.false)
    ] in (
      search rules,
      search rules,
      settles _ _ _ _ _ _ _ c.args.place.shard c.args.place.at _ c.args.good (search rules)
          c.requires.seen.0 (search rules) (search rules) (search rules) stored
          (rw (← c.seat.view_is, ← c.self.view_is) at c.requires.verdict)
          (rw (← c.seat.view_is, ← c.self.view_is) at c.requires.successors),
    )

pub fetch_sub-requires : goal.fetch_sub-requires
fetch_sub-requires g c = (search rules, search rules, repays _ _ _ _ _ _ (search rules))
