use Rattle.std.proofs.Common.{◌≡◌, [], take}
use Rattle.std.specs.List.{filter_map}
use Rattle.fs_check.specs.References.{fault_of}
use Rattle.fs_check.proofs.counted.finds_none.Given as goal

abbrev pub invariant-loop-pointer : goal.invariant-loop-pointer
invariant-loop-pointer g l = filter_map (fault_of l.image l.test) (take l.pointer-index l.pointers) ≡ []
