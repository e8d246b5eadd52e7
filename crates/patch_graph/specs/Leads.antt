-- The block writes that lead to a set, in two parts.
use Rattle.std.specs.Prelude.{ℕ, ◌<◌, List, ◌++◌}
use Rattle.patch_sets.specs.Sets.{IsSubset}
use Rattle.patch_sets.specs.Writes.{AreRuns}
use Rattle.patch_sets.specs.declared.write.BlockWrite.{BlockWrite}
use Rattle.patch_graph.specs.declared.graph.Lead.{Lead}

-- the writes of some ids of the set, and then those of the rest, are those of the set
pub record IsLead (homes : List ℕ) (set : ℕ) (lead : Lead) : Type 0 where
  pub runs : (first others : List BlockWrite) → AreRuns homes lead.ids first → AreRuns homes lead.rest others
      → AreRuns homes set (first ++ others)
  pub known : IsSubset lead.ids set
  pub left : IsSubset lead.rest set
  pub smaller : lead.rest < set
