use Rattle.std.proofs.Common.{List, ◌-◌, ◌^◌, replicate, sym, subst}
use Rattle.crash_model.specs.declared.patches.Patch.{Patch}
use Rattle.crash_model.specs.Patches.{deps_of, homes_of}
use Rattle.patch_graph.specs.Graph.{IsGraph}
use Rattle.patch_graph.specs.Independent.{AreIndependent}
use Rattle.patch_graph.specs.Homes.{AreAtBlocks}
use Rattle.patch_graph.proofs.Independent.{apart_none}
use Rattle.patch_graph.proofs.Homes.{blocks_none}
use Rattle.patch_graph.proofs.Patches.{graph_none}
use Rattle.patch_graph.proofs.graph.Graph.new.Goals as goal

pub invariant_of-result : goal.invariant_of-result
invariant_of-result g c = (
  subst IsGraph (sym c.new.ensures.items) graph_none,
  subst (λ (xs : List Patch). AreIndependent (deps_of xs) (replicate 124 (2 ^ 128 - 1)))
      (sym c.new.ensures.items) apart_none,
  subst (λ (xs : List Patch). AreAtBlocks (homes_of xs) (replicate 256 0)) (sym c.new.ensures.items) blocks_none,
)
