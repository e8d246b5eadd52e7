use Rattle.fs_check.specs.Passed.{HavePassed, slots_of}
use Rattle.fs_check.proofs.clean.has_clean_slots.Given as goal

abbrev pub invariant-loop-slot : goal.invariant-loop-slot
invariant-loop-slot g l = HavePassed (slots_of l.image) l.inode l.slot l.named
