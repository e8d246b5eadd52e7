use Rattle.std.proofs.Common.{◌≡◌, ◌≤◌, ◌-◌, ◌++◌}
use Rattle.crash_model.specs.Lists.{some_below}
use Rattle.crash_model.specs.BrokenLines.{lines_end}
use Rattle.fs_check.specs.Broken.{line_behind}
use Rattle.fs_check.proofs.BrokenLines.{broken_at}
use Rattle.fs_check.proofs.promises.push_broken.Given as goal

abbrev pub invariant-loop-line : goal.invariant-loop-line
invariant-loop-line g l = record {
  listed : l.found.items ≡ l.fn.found.items ++ some_below (line_behind l.last) (broken_at l.set l.image l.promises);
  within : line_behind l.last ≤ lines_end l.promises;
}

abbrev pub decreases-loop-line : goal.decreases-loop-line
decreases-loop-line g l = lines_end l.promises - line_behind l.last
