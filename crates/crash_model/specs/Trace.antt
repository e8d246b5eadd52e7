-- The patches of a script's steps, and which depends on which.
use Rattle.std.specs.Prelude.{◌≡◌, ℕ, ◌+◌, ◌<◌, List, [], ◌∷◌, ◌++◌, length, map, filter, Bool, true, false, ◌&&◌, ◌||◌}
use Rattle.std.specs.Prelude.{◌==◌, not, nat_lt, Option, Some, None, is_some, Result, Ok, Err, bytes_eq, ◌↔◌, slice_get}
use Rattle.std.specs.Prelude.{slice_index, IsTrue, if◌then◌else◌}
use Rattle.std.specs.List.{range_with_len, list_any}
use Rattle.crash_model.specs.declared.patches.TheConstants.{MAX_PATCHES}
use Rattle.crash_model.specs.declared.disk_bytes.TheConstants.{JOURNAL_AT, COMMITTED_MARK, DONE_MARK}
use Rattle.patch_sets.specs.Sets.{Has, has}
use Rattle.patch_sets.specs.Closed.{AreEarlier}
use Rattle.crash_model.specs.Disk.{Disk, block_of}
use Rattle.crash_model.specs.Plan.{then_ok, unless, with_found, plan_of, with_changes}
use Rattle.crash_model.specs.Patches.{place, places_of, deps_of, overlap, AreUndo}
use Rattle.crash_model.specs.Refusals.{trace_fault}
use Rattle.crash_model.specs.Waiting.{forced_by_sync, forced_by_fsync}
use Rattle.crash_model.specs.Paths.{is_same_path}
pub use Rattle.crash_model.specs.Emitted.{Origin, origin_at, Emitted}
use Rattle.crash_model.specs.Rules.{has_part, are_scoped}
use Rattle.crash_model.specs.declared.refusals.FsFault.{FsFault}
use Rattle.crash_model.specs.declared.refusals.TraceFault.{TraceFault}
use Rattle.crash_model.specs.declared.refusals.TraceFault.TheVariants as no
use Rattle.crash_model.specs.declared.plans.Change.{Change}
use Rattle.crash_model.specs.declared.plans.Role.{Role}
use Rattle.crash_model.specs.declared.plans.Role.TheVariants.{InitFile, NewData}
use Rattle.crash_model.specs.declared.operations.Op.{Op}
use Rattle.crash_model.specs.declared.rules.Part.{Part}
use Rattle.crash_model.specs.declared.rules.Part.TheVariants.{InPlace, FileData, Copy, Commit, Done}
use Rattle.crash_model.specs.declared.rules.Part.TheVariants as part
use Rattle.crash_model.specs.declared.rules.Rule.{Rule}
use Rattle.crash_model.specs.declared.patches.Patch.{Patch}
use Rattle.crash_model.specs.declared.modules.Module.{Module}
use Rattle.crash_model.specs.declared.modules.Module.TheVariants.{Meta, Full}
use Rattle.crash_model.specs.declared.steps.Target.TheVariants.{At}
use Rattle.crash_model.specs.declared.steps.Act.{Act}
use Rattle.crash_model.specs.declared.steps.Act.TheVariants.{Do, Group, End, Depend, Sync, Fsync, Keep, Hold, Spare}
use Rattle.crash_model.specs.declared.steps.Step.{Step}
use Rattle.crash_model.specs.WholeBlocks.{shares_block}
use Rattle.crash_model.specs.Tracing.{Tracing}
use Rattle.crash_model.specs.WaitSteps.{target_found, when_found, with_wait}

-- ---- which patch depends on which

abbrev pub is_same_group : Option (List ℕ) → List ℕ → Bool
is_same_group None name = false
is_same_group (Some group) name = bytes_eq group name

-- a patch of group B, and one of a group A with `depend B A`
abbrev pub groups_depend : List (List ℕ × List ℕ) → Emitted → Emitted → Bool
groups_depend links q p =
    list_any (λ link. is_same_group q.origin.group link.0 && is_same_group p.origin.group link.1) links

-- a rule makes a patch wait for an earlier one
abbrev pub applies : Rule → Emitted → Emitted → Bool
applies rule q p =
    has_part rule.later q.part && (has_part rule.earlier p.part && are_scoped rule.scope q.op_number p.op_number)

-- a line before the patch waits for the patch of an id
abbrev pub waits_for : Emitted → ℕ → Bool
waits_for q id = has q.origin.waits_for id

-- a patch depends on an earlier one, of this id
abbrev pub depends : List Rule → Bool → List (List ℕ × List ℕ) → Emitted → ℕ → Emitted → Bool
depends rules whole links q id p =
    overlap q.place p.place || shares_block whole q p || groups_depend links q p || waits_for q id
    || list_any (λ rule. applies rule q p) rules

-- ---- the patches of an operation

abbrev pub in_place_patch : ℕ → Origin → Change → Emitted
in_place_patch op_number origin c =
    record { place = place c.block c.offset c.new.items; part = InPlace c.role; op_number = op_number; origin = origin }

abbrev pub is_file_data : Change → Bool
is_file_data c = elim c.role [ InitFile ↦ true | NewData ↦ true | _ ↦ false ]

-- what the patch of a change of file data is under meta
abbrev pub data_part : Role → Part
data_part NewData = part.NewData
data_part _ = FileData

-- the changes that go through the journal under meta
abbrev pub metadata_changes : List Change → List Change
metadata_changes changes = filter (λ c. not (is_file_data c)) changes

-- the blocks that changes touch, ascending
abbrev pub touched_blocks : ℕ → List Change → List ℕ
touched_blocks blocks changes = filter (λ b. list_any (λ c. c.block == b) changes) (range_with_len 0 blocks)

-- a patch of the transaction that has the number of its operation
abbrev pub part_of : ℕ → Origin → Part → ℕ → ℕ → List ℕ → Emitted
part_of op_number origin part block offset new =
    record { place = place block offset new; part = part; op_number = op_number; origin = origin }

-- from journal block j on, a block of `after` in each
abbrev pub copies : Disk → ℕ → ℕ → Origin → List ℕ → List Emitted
copies after op_number j origin [] = []
copies after op_number j origin (b ∷ bs) =
    part_of op_number origin Copy j 0 (block_of after b) ∷ copies after op_number (j + 1) origin bs

-- changes that go through the journal, as the transaction of this number with its header at journal block j; `after`
-- is the disk after it
abbrev pub journal_patches : Disk → ℕ → ℕ → Origin → List ℕ → List Change → List Emitted
journal_patches after op_number j origin targets changes =
    copies after op_number (j + 1) origin targets
    ++ (part_of op_number origin Commit j 0 (COMMITTED_MARK ∷ op_number ∷ length targets ∷ targets)
    ∷ (map (in_place_patch op_number origin) changes
    ++ (part_of op_number origin Done j 0 (DONE_MARK ∷ []) ∷ [])))

-- the operation with the file data that go ahead of it
abbrev pub transaction : Disk → ℕ → ℕ → Origin → List Change → List Emitted
transaction after op_number j origin changes =
    map (λ c. part_of op_number origin (data_part c.role) c.block c.offset c.new.items) (filter is_file_data changes)
    ++ journal_patches after op_number j origin (touched_blocks after.blocks (metadata_changes changes))
    (metadata_changes changes)

-- ---- the steps

-- how many journal blocks an operation takes, and its patches
abbrev pub journal_blocks : Module → ℕ → List Change → ℕ
journal_blocks Meta blocks changes = 1 + length (touched_blocks blocks (metadata_changes changes))
journal_blocks Full blocks changes = 1 + length (touched_blocks blocks changes)
journal_blocks _ blocks changes = 0

abbrev pub patches_by : Module → Disk → ℕ → ℕ → Origin → List Change → List Emitted
patches_by Meta after op_number j origin changes = transaction after op_number j origin changes
patches_by Full after op_number j origin changes =
    journal_patches after op_number j origin (touched_blocks after.blocks changes) changes
patches_by _ after op_number j origin changes = map (in_place_patch op_number origin) changes

abbrev pub trace_of_plan : Module → ℕ → Op → Tracing → Result (List Change) FsFault → Result Tracing TraceFault
trace_of_plan kind line op s (Err e) = Err (trace_fault line e)
trace_of_plan kind line op s (Ok changes) =
    let after = with_changes s.disk changes in
    let more = patches_by kind after s.op_number s.journal (origin_at line op s.current s.forced) changes in
    let next = s.journal + journal_blocks kind s.disk.blocks changes in
    unless (nat_lt (JOURNAL_AT + s.disk.journal) next) (no.JournalFull line)
    (unless (nat_lt MAX_PATCHES (length s.emitted + length more)) (no.TooManyPatches line)
    (Ok (record s { disk = after; emitted = s.emitted ++ more; op_number = s.op_number + 1; journal = next })))

abbrev pub is_among : List ℕ → List (List ℕ) → Bool
is_among name names = list_any (bytes_eq name) names

abbrev pub step : Module → Tracing → ℕ → Act → Result Tracing TraceFault
step kind s line (Do op) = trace_of_plan kind line op s (plan_of s.disk op)
step kind s line (Group a) = unless (is_some s.current || is_among a s.opened) (no.GroupFault line)
    (Ok (record s { current = Some a; opened = s.opened ++ a ∷ [] }))
step kind s line End =
    with_found s.current (no.GroupFault line) (λ a. Ok (record s { current = None; ended = s.ended ++ a ∷ [] }))
step kind s line (Depend b a) =
    unless (not (is_among a s.ended) || bytes_eq b a
    || list_any (λ e. is_same_group e.origin.group b) s.emitted) (no.GroupFault line)
    (Ok (record s { links = s.links ++ (b, a) ∷ [] }))
step kind s line Sync = Ok (with_wait line Sync (forced_by_sync kind s.emitted) s)
step kind s line (Fsync target) =
    when_found line (target_found s.disk target)
    (with_wait line (Fsync target) (forced_by_fsync kind s.disk target s.emitted) s)
step kind s line (Keep _) = Ok s
step kind s line (Hold _) = Ok s
step kind s line (Spare of other) =
    if is_same_path of other then Ok s else when_found line (target_found s.disk (At other)) s

-- all steps, up to the first refused one
abbrev pub trace_from : Module → Tracing → List Step → Result Tracing TraceFault
trace_from kind s [] = Ok s
trace_from kind s (x ∷ xs) = then_ok (step kind s x.line x.act) (λ next. trace_from kind next xs)

-- ---- the base

-- the disk after the operations of the steps; a group has no place there, nor has a line that waits or promises
abbrev pub base_from : Disk → List Step → Result Disk TraceFault
base_from d [] = Ok d
base_from d (x ∷ xs) = elim x.act [
  | Do op ↦ elim (plan_of d op) [
    | Err e ↦ Err (trace_fault x.line e)
    | Ok changes ↦ base_from (with_changes d changes) xs
  ]
  | Group _ ↦ Err (no.GroupFault x.line)
  | End ↦ Err (no.GroupFault x.line)
  | Depend _ _ ↦ Err (no.GroupFault x.line)
  | _ ↦ Err (no.OnlyAfterStart x.line)
]

-- ---- the graph

-- the graph of the traced steps by these rules: their patches in order, each with its undo data and exactly its
-- dependencies
pub record IsGraphOf (rules : List Rule) (base : Disk) (s : Tracing) (patches : List Patch) : Type 0 where
  pub places : places_of patches ≡ map (λ e. e.place) s.emitted
  pub undo : AreUndo base patches
  pub earlier : AreEarlier (deps_of patches)
  pub exactly : (q p : ℕ) (later before : Emitted) → p < q → slice_get s.emitted q ≡ Some later
      → slice_get s.emitted p ≡ Some before
      → (Has (slice_index (deps_of patches) q) p ↔ IsTrue (depends rules s.whole s.links later p before))
