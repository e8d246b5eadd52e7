use Rattle.std.proofs.Common.{ℕ, ◌<◌, ◌≤◌, get_or}
use Rattle.fs_check.proofs.list.most.Given as goal

abbrev pub invariant-loop-count : goal.invariant-loop-count
invariant-loop-count l = (at : ℕ) → at < l.count-index → get_or l.counts at 0 ≤ l.most
