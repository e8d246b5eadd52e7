use Rattle.std.proofs.Common.{◌≡◌, ◌+◌, ◌-◌, ◌≤◌, [], ◌∷◌, ◌++◌, length}
use Rattle.std.specs.Prelude.{Some, flat_map, if◌then◌else◌, ◌==◌}
use Rattle.std.specs.List.{range_with_len}
use Rattle.crash_model.specs.Layout.{pointer_of}
use Rattle.crash_model.specs.Promises.{touched_ranges}
use Rattle.crash_model.specs.Waiting.{range}
use Rattle.path_lookup.proofs.ranges.push_touched.Given as goal

abbrev pub invariant-loop-slot : goal.invariant-loop-slot
invariant-loop-slot g l = record {
  rest : l.ranges.items
      ++ flat_map (λ slot. if pointer_of l.image l.inode slot == 0 then [] else range
      (pointer_of l.image l.inode slot) 0 4 ∷ []) (range_with_len l.slot (4 - l.slot))
      ≡ l.fn.ranges.items ++ touched_ranges l.image (Some l.inode) [];
  room : length l.ranges.items ≤ 6 + l.slot;
}
