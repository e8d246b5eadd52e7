-- What replay of the journal makes of a disk.
use Rattle.std.specs.Prelude.{ℕ, zero, suc, ◌+◌, List, [], ◌∷◌, flat_map, take, drop, slice_index, Bool, true, ◌&&◌}
use Rattle.std.specs.Prelude.{◌||◌, ◌==◌, nat_le, nat_lt, if◌then◌else◌, Option, None, unwrap_or, option_map, position}
use Rattle.std.specs.List.{range_with_len, list_all}
use Rattle.crash_model.specs.declared.disk_bytes.TheConstants.{JOURNAL_AT, MOST_TARGETS, COMMITTED_MARK, DONE_MARK}
use Rattle.crash_model.specs.Disk.{Disk, block_of}
use Rattle.crash_model.specs.Layout.{is_data}

-- how many targets a header has, and which, by the bytes of its block
abbrev pub count_of : List ℕ → ℕ
count_of row = slice_index row 2

abbrev pub targets_of : List ℕ → List ℕ
targets_of row = take (count_of row) (drop 3 row)

-- block 1, 2 or 3, or one of the data area
abbrev pub is_target : Disk → ℕ → Bool
is_target d b = (nat_le 1 b && nat_le b 3) || is_data d b

abbrev pub is_ascending : List ℕ → Bool
is_ascending [] = true
is_ascending (x ∷ []) = true
is_ascending (x ∷ y ∷ ys) = nat_lt x y && is_ascending (y ∷ ys)

-- the bytes of block j make it a header for transaction t
abbrev pub is_header : Disk → ℕ → ℕ → List ℕ → Bool
is_header d j t row =
    nat_lt j (JOURNAL_AT + d.journal) && (slice_index row 0 == COMMITTED_MARK || slice_index row 0 == DONE_MARK)
    && slice_index row 1 == t
    && nat_le 1 (count_of row) && nat_le (count_of row) MOST_TARGETS && nat_le (j + count_of row) (3 + d.journal)
    && is_ascending (targets_of row) && list_all (is_target d) (targets_of row)

-- The headers from block j and transaction t on, each after the copies of the one before: the longest such list,
-- of at most `most`.
abbrev pub headers_from : ℕ → Disk → ℕ → ℕ → List ℕ
headers_from zero d j t = []
headers_from (suc most) d j t =
    if is_header d j t (block_of d j) then j ∷ headers_from most d (j + 1 + count_of (block_of d j)) (t + 1) else []

abbrev pub headers : Disk → List ℕ
headers d = headers_from d.journal d JOURNAL_AT 1

-- where the header at block j, of these bytes, has a committed copy of a block
abbrev pub copy_in : List ℕ → ℕ → ℕ → Option ℕ
copy_in row j block =
    if slice_index row 0 == COMMITTED_MARK
    then option_map (λ m. j + 1 + m) (position (λ b. b == block) (targets_of row))
    else None

-- where the last committed copy of a block is, by the headers in order; `found` is where it was before them
abbrev pub copy_after : Disk → ℕ → ℕ → List ℕ → ℕ
copy_after d block found [] = found
copy_after d block found (j ∷ js) = copy_after d block (unwrap_or (copy_in (block_of d j) j block) found) js

-- each block is its last committed copy, or itself
abbrev pub image_after_replay : Disk → Disk
image_after_replay d =
    record d {
      bytes = flat_map (λ block. block_of d (copy_after d block block (headers d))) (range_with_len 0 d.blocks);
    }
