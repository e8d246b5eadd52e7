use Rattle.std.proofs.Common.{◌≡◌, ℕ, true}
use Rattle.crash_model.proofs.Reached.{reached-root, reached-step, reached-least}
use Rattle.fs_check.proofs.laws.reached_inodes_are_the_least_set.Goals as goal

pub returns-clause-root : goal.returns-clause-root
returns-clause-root c = reached-root

pub returns-clause-step : goal.returns-clause-step
returns-clause-step c = reached-step

pub returns-clause-least : goal.returns-clause-least
returns-clause-least c = λ d set root step. reached-least d (λ (i : ℕ). set i ≡ true) root step
