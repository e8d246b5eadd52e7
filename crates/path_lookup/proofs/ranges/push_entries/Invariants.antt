use Rattle.std.proofs.Common.{◌≡◌, ◌<◌, ◌≤◌, [], ◌∷◌, ◌++◌, length, drop}
use Rattle.std.specs.Prelude.{Some}
use Rattle.crash_model.specs.Paths.{names_of}
use Rattle.crash_model.specs.Promises.{touched_ranges}
use Rattle.path_lookup.proofs.ranges.push_entries.Given as goal

abbrev pub invariant-loop-name : goal.invariant-loop-name
invariant-loop-name g l = record {
  rest : l.ranges.items ++ touched_ranges l.image (Some l.dir)
      (drop l.name-index l.path.through.items ++ l.path.last ∷ [])
      ≡ touched_ranges l.image (Some 0) (names_of l.path);
  within : l.dir < 16;
  room : length l.ranges.items ≤ l.name-index;
}
