use Rattle.fs_check.specs.Passed.{HavePassed, slots_of}
use Rattle.fs_check.proofs.clean.has_clean_pointers.Given as goal

abbrev pub invariant-loop-inode : goal.invariant-loop-inode
invariant-loop-inode g l = HavePassed (slots_of l.image) l.inode 0 l.named
