use Rattle.std.proofs.Common.{◌≡◌, ◌≤◌, length, take, map}
use Rattle.crash_model.specs.Paths.{path_shows}
use Rattle.known_bytes.specs.Reading.{InEachDisk}
use Rattle.fault_deciding.proofs.promise.paths_show.Given as goal

abbrev pub invariant-loop-path : goal.invariant-loop-path
invariant-loop-path g l = record {
  shows : InEachDisk l.disk (λ d. map (path_shows d) (take l.path-index l.paths.items) ≡ l.shows.items);
  room : length l.shows.items ≤ l.path-index;
}
