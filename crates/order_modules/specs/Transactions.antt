-- The patches of a transaction of the journal, for both journals.
use Rattle.std.specs.Prelude.{ℕ, ◌+◌, ◌==◌, List, [], ◌∷◌, ◌++◌, length, map, Bool, false, not}
use Rattle.std.specs.List.{filter, list_any, range_with_len}
use Rattle.crash_model.specs.declared.disk_bytes.TheConstants.{COMMITTED_MARK, DONE_MARK}
use Rattle.crash_model.specs.Disk.{Disk}
use Rattle.crash_model.specs.Trace.{Emitted, Origin, is_file_data, data_part, in_place_patch, part_of, copies}
use Rattle.crash_model.specs.declared.rules.Part.TheVariants.{Commit, Done}
use Rattle.crash_model.specs.declared.plans.Change.{Change}
use Rattle.crash_model.specs.declared.modules.Module.{Module}
use Rattle.crash_model.specs.declared.modules.Module.TheVariants.{Async, Soft, Meta, Full}

-- file data, which the metadata journal writes ahead of the transaction
abbrev pub is_ahead : Module → Change → Bool
is_ahead Async c = false
is_ahead Soft c = false
is_ahead Meta c = is_file_data c
is_ahead Full c = false

abbrev pub is_placed : Module → Change → Bool
is_placed kind c = not (is_ahead kind c)

abbrev pub changes_ahead : Module → List Change → List Change
changes_ahead kind changes = filter (is_ahead kind) changes

-- the changes that are made in place
abbrev pub changes_in_place : Module → List Change → List Change
changes_in_place kind changes = filter (is_placed kind) changes

abbrev pub file_data : ℕ → Origin → Change → Emitted
file_data op_number origin c = part_of op_number origin (data_part c.role) c.block c.offset c.new.items

-- the blocks below n that the changes in place touch, ascending
abbrev pub targets_of : Module → ℕ → List Change → List ℕ
targets_of kind n changes =
    filter (λ b. list_any (λ c. c.block == b) (changes_in_place kind changes)) (range_with_len 0 n)

abbrev pub transaction_of : Module → Disk → ℕ → ℕ → Origin → List ℕ → List Change → List Emitted
transaction_of kind after op_number j origin targets changes =
    map (file_data op_number origin) (changes_ahead kind changes)
    ++ (copies after op_number (j + 1) origin targets
    ++ (part_of op_number origin Commit j 0 (COMMITTED_MARK ∷ op_number ∷ length targets ∷ targets)
    ∷ (map (in_place_patch op_number origin) (changes_in_place kind changes)
    ++ (part_of op_number origin Done j 0 (DONE_MARK ∷ []) ∷ []))))
