-- What the patches of a trace are, and why each depends on others.
use Rattle.std.specs.Prelude.{ℕ, List, [], ◌∷◌, ◌++◌, length, map, Bool, if◌then◌else◌, Option, Some, None, slice_get}
use Rattle.std.specs.Prelude.{codes, filter}
use Rattle.std.specs.List.{range_with_len}
use Rattle.crash_model.specs.Lists.{some_below, when}
use Rattle.crash_model.specs.Disk.{Disk, block_of}
use Rattle.crash_model.specs.Patches.{overlap}
use Rattle.crash_model.specs.RuleTexts.{rule_text}
use Rattle.crash_model.specs.Trace.{Emitted, groups_depend, waits_for, depends, applies}
use Rattle.crash_model.specs.Tracing.{Tracing}
use Rattle.crash_model.specs.WholeBlocks.{shares_block}
use Rattle.crash_model.specs.Waiting.{Wait}
use Rattle.crash_model.specs.declared.patches.Patch.{Patch}
use Rattle.crash_model.specs.declared.rules.Rule.{Rule}

-- a patch that another depends on, and why
pub record Dependency : Type 0 where
  pub id : ℕ
  pub reasons : List (List ℕ)

-- the explanation of a patch: its id, what it is, its undo data, and what it depends on, ascending
pub record ExplainedPatch : Type 0 where
  pub id : ℕ
  pub emitted : Emitted
  pub undo : List ℕ
  pub after : List Dependency

-- the rules that make a patch wait for an earlier one
abbrev pub rules_between : List Rule → Emitted → Emitted → List Rule
rules_between rules q p = filter (λ rule. applies rule q p) rules

-- why a patch depends on an earlier one, of this id
abbrev pub reasons : List Rule → Bool → List (List ℕ × List ℕ) → Emitted → ℕ → Emitted → List (List ℕ)
reasons rules whole links q id p =
    (if overlap q.place p.place then codes "overlap" ∷ [] else [])
    ++ (if shares_block whole q p then codes "block" ∷ [] else [])
    ++ (if groups_depend links q p then codes "group" ∷ [] else [])
    ++ (if waits_for q id then codes "wait" ∷ [] else [])
    ++ map rule_text (rules_between rules q p)

-- the patch of an id, where q depends on it
abbrev pub dependency : List Rule → Bool → List (List ℕ × List ℕ) → List Emitted → Emitted → ℕ → Option Dependency
dependency rules whole links emitted q id = elim (slice_get emitted id) [
  | Some p ↦ when (depends rules whole links q id p) (record { id = id; reasons = reasons rules whole links q id p })
  | None ↦ None
]

-- the explanation of an id's patch
abbrev pub explained_patch : List Rule → Bool → List (List ℕ × List ℕ) → List Emitted → List Patch → ℕ
    → Option ExplainedPatch
explained_patch rules whole links emitted patches id = elim (slice_get emitted id) [
  | Some q ↦ elim (slice_get patches id) [
    | Some patch ↦ Some (record {
      id = id;
      emitted = q;
      undo = patch.undo.items;
      after = some_below id (dependency rules whole links emitted q);
    })
    | None ↦ None
  ]
  | None ↦ None
]

-- the explanation of each patch, ascending
abbrev pub explained_patches : List Rule → Bool → List (List ℕ × List ℕ) → List Emitted → List Patch
    → List ExplainedPatch
explained_patches rules whole links emitted patches =
    some_below (length patches) (explained_patch rules whole links emitted patches)

abbrev pub blocks_of : Disk → List (List ℕ)
blocks_of disk = map (block_of disk) (range_with_len 0 disk.blocks)

-- the base's blocks, the explanation of each patch, and the lines that wait
pub record Explanation : Type 0 where
  pub base : List (List ℕ)
  pub patches : List ExplainedPatch
  pub waits : List Wait

abbrev pub explanation : List Rule → Disk → Tracing → List Patch → Explanation
explanation rules base s patches =
    record {
      base = blocks_of base;
      patches = explained_patches rules s.whole s.links s.emitted patches;
      waits = s.waits;
    }
