-- Copies of journal blocks, one after another.
use Rattle.std.specs.Prelude.{ℕ, ◌+◌, List, [], ◌∷◌}
use Rattle.crash_model.specs.Disk.{Disk, block_of, with_bytes}

-- the disk with the blocks from `first` on copied over the targets
abbrev pub with_copies : Disk → ℕ → List ℕ → Disk
with_copies d first [] = d
with_copies d first (target ∷ targets) = with_copies (with_bytes d target 0 (block_of d first)) (first + 1) targets
