use Rattle.std.proofs.Common.{◌≡◌, ◌≤◌, take}
use Rattle.crash_image.specs.Moves.{IsGood}
use Rattle.bench_judge.specs.Counted.{IsCountOfOthers}
use Rattle.bench_judge.proofs.rounds.count_failing.Given as goal

abbrev pub invariant-loop-set : goal.invariant-loop-set
invariant-loop-set l = (l.scratch ≡ l.space) × (l.failing ≤ l.set-index)
    × IsCountOfOthers (IsGood l.space) (take l.set-index l.sets) l.failing
