use Rattle.question_model.specs.EnoughLines.{all_waits}
use Rattle.enough_deciding.specs.Lines.{AreEnoughWaiting}
use Rattle.enough_deciding.proofs.SmallerGroups.{IsPartInEach}
use Rattle.enough_deciding.proofs.lines.LineOracle.smaller.Given as goal

abbrev pub invariant-loop-line : goal.invariant-loop-line
invariant-loop-line g l = IsPartInEach (all_waits l.self.traced.now.waits)
    (AreEnoughWaiting l.self.demands.now l.self.base.now l.self.traced.now) l.group l.part
