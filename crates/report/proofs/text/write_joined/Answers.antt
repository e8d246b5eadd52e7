use Rattle.report.proofs.Adding.{added}
use Rattle.report.proofs.Joining.{joined_first, joined_after}
use Rattle.report.proofs.text.write_joined.Goals as goal
use Rattle.report.proofs.text.write_joined.Goals.{then-at-gt0+in_ok-push_str, else-at-gt0}

pub loop-at-preserved : goal.loop-at-preserved
loop-at-preserved g c = elim c.if-at-gt0.branch [
  | then-at-gt0+in_ok-push_str w ↦ joined_after c.args.between.now g.W.Word.word c.args.words.now c.loop-at.at
      c.index-words-at.result c.loop-at-test.true c.index-words-at.is w.if-at-gt0.true c.loop-at.invariant
      (rw w.out-is (added w.in_ok-push_str.ensures.bytes)) c.in_ok-write_word.ensures
  | else-at-gt0 w ↦ joined_first c.args.between.now g.W.Word.word c.args.words.now c.loop-at.at
      c.index-words-at.result c.loop-at-test.true c.index-words-at.is w.if-at-gt0.false c.loop-at.invariant
      (rw w.out-is at c.in_ok-write_word.ensures)
]
