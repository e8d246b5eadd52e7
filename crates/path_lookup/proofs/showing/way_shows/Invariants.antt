use Rattle.std.proofs.Common.{◌≡◌, ◌+◌, ◌<◌, ◌≤◌, length, take, map}
use Rattle.std.specs.Prelude.{Some, IfSome}
use Rattle.std.specs.List.{range_with_len}
use Rattle.crash_model.specs.Paths.{end_of, names_of, names_show}
use Rattle.path_lookup.proofs.showing.way_shows.Given as goal

abbrev pub invariant-loop-name : goal.invariant-loop-name
invariant-loop-name g l = record {
  shows : l.shows.items
      ≡ map (λ n. names_show l.image (take (n + 1) (names_of l.path))) (range_with_len 0 l.name-index);
  leads : l.inode ≡ end_of l.image (Some 0) (take l.name-index (names_of l.path));
  within : IfSome l.inode (λ i. i < 16);
  room : length l.shows.items ≤ l.name-index;
}
