use Rattle.std.proofs.Common.{◌≡◌, ◌≤◌, length, map, take}
use Rattle.crash_model.specs.Paths.{path_shows}
use Rattle.path_lookup.proofs.showing.paths_show.Given as goal

abbrev pub invariant-loop-path : goal.invariant-loop-path
invariant-loop-path g l = record {
  shows : l.shows.items ≡ map (path_shows l.image) (take l.path-index l.paths.items);
  room : length l.shows.items ≤ l.path-index;
}
