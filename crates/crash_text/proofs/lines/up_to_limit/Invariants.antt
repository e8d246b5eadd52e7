use Rattle.std.proofs.Common.{◌≤◌}
use Rattle.question_model.specs.declared.question.TheConstants.{MAX_SYNCS}
use Rattle.crash_text.proofs.Limit.{AreUpTo}
use Rattle.crash_text.proofs.lines.up_to_limit.Given as goal

abbrev pub invariant-loop-at : goal.invariant-loop-at
invariant-loop-at l = record {
  few : l.waiting ≤ MAX_SYNCS;
  so_far : AreUpTo MAX_SYNCS l.steps l.at l.waiting;
}
