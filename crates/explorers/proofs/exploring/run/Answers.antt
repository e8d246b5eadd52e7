use Rattle.std.proofs.Common.{sym, ◌∙◌}
use Rattle.explorers.proofs.exploring.run.Goals as goal

pub work_all-requires-clause-ways : goal.work_all-requires-clause-ways
work_all-requires-clause-ways g c = λ _ _ k d inside. c.in_ok-hands.ensures.ways k d inside
    ∙ sym c.in_ok-hands.ensures.count

pub answer-requires-clause-board : goal.answer-requires-clause-board
answer-requires-clause-board g c = c.in_ok-board.ensures.board
