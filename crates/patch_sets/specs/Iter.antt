-- The ids that an iterator over a set still gives.
use Rattle.std.specs.Prelude.{ℕ, List}
use Rattle.patch_sets.specs.Sets.{ids_of}
use Rattle.patch_sets.specs.declared.iter.Ids.{Ids}

-- as many ids as a set can have
unfoldable pub most_ids : ℕ
most_ids = 128

abbrev pub ids_left : Ids → List ℕ
ids_left ids = ids_of most_ids ids.left
