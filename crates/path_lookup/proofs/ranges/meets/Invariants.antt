use Rattle.std.proofs.Common.{◌≡◌, false, take}
use Rattle.std.specs.List.{list_any}
use Rattle.crash_model.specs.Patches.{place}
use Rattle.crash_model.specs.Waiting.{meets_range}
use Rattle.path_lookup.proofs.ranges.meets.Given as goal

abbrev pub invariant-loop-range : goal.invariant-loop-range
invariant-loop-range l = list_any (meets_range (place l.patch.block l.patch.offset l.patch.new.items))
    (take l.range-index l.ranges) ≡ false
