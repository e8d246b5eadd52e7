use Rattle.std.proofs.Common.{◌≡◌, ◌+◌, ◌-◌, ◌*◌, ◌≤◌, [], ◌++◌, length}
use Rattle.std.specs.Prelude.{Some, flat_map, if◌then◌else◌, ◌==◌}
use Rattle.std.specs.List.{range_with_len}
use Rattle.crash_model.specs.Layout.{pointer_of}
use Rattle.crash_model.specs.Waiting.{ranges_from, block_ranges}
use Rattle.path_lookup.proofs.ranges.push_inode.Given as goal

abbrev pub invariant-loop-slot : goal.invariant-loop-slot
invariant-loop-slot g l = record {
  rest : l.ranges.items
      ++ flat_map (λ slot. if pointer_of l.image l.inode slot == 0 then [] else block_ranges
      (pointer_of l.image l.inode slot)) (range_with_len l.slot (4 - l.slot))
      ≡ l.fn.ranges.items ++ ranges_from l.image (Some l.inode) [];
  room : length l.ranges.items ≤ 13 + 2 * l.slot;
}
