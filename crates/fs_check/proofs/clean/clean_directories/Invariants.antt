use Rattle.fs_check.specs.Passed.{HavePassed, entries_of}
use Rattle.fs_check.proofs.Reaching.{AreDirectoriesBelow, AreNamedBelow}
use Rattle.fs_check.proofs.clean.clean_directories.Given as goal

abbrev pub invariant-loop-dir : goal.invariant-loop-dir
invariant-loop-dir g l = HavePassed (entries_of l.image) l.dir 0 l.entries × AreNamedBelow l.image l.dir l.named
    × AreDirectoriesBelow l.image l.dir l.inodes
