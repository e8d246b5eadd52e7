-- Ids one after another.
use Rattle.std.specs.Prelude.{◌≡◌, ℕ, ◌-◌, ◌<◌, ◌≤◌, ◌++◌}
use Rattle.std.specs.List.{range_with_len}
use Rattle.patch_sets.specs.Sets.{Has, ids_of}
use Rattle.patch_sets.specs.Iter.{most_ids}
use Rattle.patch_sets.specs.declared.leading.Run.{Run}

-- the id is smaller than each of the set
abbrev pub ComesBefore : ℕ → ℕ → Type 0
ComesBefore set id = (other : ℕ) → Has set other → id < other

-- the ids of a set are those of a run, which goes on as far as it can, and then the rest
pub record BeginsWith (set : ℕ) (run : Run) : Type 0 where
  pub ordered : run.from < run.end
  pub within : run.end ≤ 128
  pub ids : ids_of most_ids set ≡ range_with_len run.from (run.end - run.from) ++ ids_of most_ids run.rest
  pub smaller : run.rest < set
  pub longest : ¬ (Has set run.end)
