-- The patches of a trace, with what each of them is.
use Rattle.std.specs.Prelude.{◌≡◌, ℕ, List, Bool, Option}
use Rattle.crash_model.specs.Reasons.{Dependency, ExplainedPatch, dependency, explained_patch, rules_between}
use Rattle.crash_model.specs.Patches.{overlap}
use Rattle.crash_model.specs.Trace.{Emitted, groups_depend, waits_for}
use Rattle.crash_model.specs.WholeBlocks.{shares_block}
use Rattle.crash_model.specs.Waiting.{Wait}
use Rattle.crash_model.specs.declared.patches.Patch.{Patch}
use Rattle.crash_model.specs.declared.rules.Rule.{Rule}
use Rattle.traced_patches.specs.declared.reasons.Reasons.{Reasons}

pub record TracedPatches : Type 0 where
  -- the patches as they are in the graph, and as they were emitted
  pub patches : List Patch
  pub emitted : List Emitted
  -- the pairs (B, A) of groups with `depend B A`, and the rules of the ordering
  pub links : List (List ℕ × List ℕ)
  pub rules : List Rule
  -- whether blocks are written whole
  pub whole : Bool
  -- the lines that wait
  pub waits : List Wait

-- all that makes patch q wait for the earlier patch p, of this id
pub record AreReasons (t : TracedPatches) (q : Emitted) (id : ℕ) (p : Emitted) (reasons : Reasons) : Type 0 where
  pub overlap : reasons.overlap ≡ overlap q.place p.place
  pub block : reasons.block ≡ shares_block t.whole q p
  pub group : reasons.group ≡ groups_depend t.links q p
  pub wait : reasons.wait ≡ waits_for q id
  pub rules : reasons.rules.items ≡ rules_between t.rules q p

-- the explanation of the patch of an id, and of an earlier one that patch q depends on
abbrev pub explained_at : TracedPatches → ℕ → Option ExplainedPatch
explained_at t id = explained_patch t.rules t.whole t.links t.emitted t.patches id

abbrev pub dependency_at : TracedPatches → Emitted → ℕ → Option Dependency
dependency_at t q earlier = dependency t.rules t.whole t.links t.emitted q earlier
