use Rattle.std.proofs.Common.{◌≡◌}
use Rattle.bench_judge.proofs.rounds.count_in_rounds.Given as goal

abbrev pub invariant-loop : goal.invariant-loop
invariant-loop l = l.scratch ≡ l.space
