use Rattle.fs_check.specs.Passed.{HavePassed, entries_of}
use Rattle.fs_check.proofs.Reaching.{AreNamed}
use Rattle.fs_check.proofs.clean.clean_directory.Given as goal

abbrev pub invariant-loop-k : goal.invariant-loop-k
invariant-loop-k g l = HavePassed (entries_of l.image) l.dir l.k l.entries × AreNamed l.image l.dir l.k l.named
