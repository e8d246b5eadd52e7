-- Replay of a disk without a journal.
use Rattle.std.proofs.Common.{◌≡◌, ℕ, ◌≤◌, List, flat_map, refl, sym, ap, ◌∙◌, arith}
use Rattle.std.specs.List.{range_with_len}
use Rattle.crash_model.specs.Disk.{Disk, IsDisk, block_of}
use Rattle.crash_model.specs.Patches.{image_of}
use Rattle.crash_model.specs.Replay.{image_after_replay, headers, headers_from, copy_after}
use Rattle.journal_replay.proofs.Blocks.{joined_blocks}
use Rattle.crash_image.specs.Moves.{Applied}
use Rattle.crash_image.proofs.Moved.{image-shape}

-- the image of a set has as many journal blocks as the base
pub journal_size : (a : Applied) (image : Disk) (size : ℕ) → image ≡ image_of a.base a.patches a.set
    → size ≡ image.journal → size ≡ a.base.journal
journal_size a image size is number = number ∙ ap (λ (d : Disk). d.journal) is
    ∙ (image-shape 0 a.base a.patches a.set).journal

pub has_journal : (a : Applied) (image : Disk) (size : ℕ) → image ≡ image_of a.base a.patches a.set
    → size ≡ image.journal → (size ≡ 0 → ⊥) → 1 ≤ a.base.journal
has_journal a image size is number some =
    let same : size ≡ a.base.journal = journal_size a image size is number in
    omega (arith, some)

-- replay leaves it as it is
pub not_replayed : (d : Disk) → IsDisk d → d.journal ≡ 0 → image_after_replay d ≡ d
not_replayed d is none =
    let no_header : headers d ≡ headers_from 0 d 4 1 = ap (λ (n : ℕ). headers_from n d 4 1) none in
    let at_home : flat_map (λ block. block_of d (copy_after d block block (headers d))) (range_with_len 0 d.blocks)
    ≡ flat_map (block_of d) (range_with_len 0 d.blocks) =
    ap (λ (hs : List ℕ). flat_map (λ block. block_of d (copy_after d block block hs)) (range_with_len 0 d.blocks))
    no_header in
    let whole : flat_map (block_of d) (range_with_len 0 d.blocks) ≡ d.bytes =
    sym (joined_blocks d.blocks d (block_of d) is.whole (λ block within. refl)) in
    ap (λ (bytes : List ℕ). let e : Disk = record d { bytes = bytes } in e) (at_home ∙ whole)

pub nothing_replayed : (a : Applied) (image : Disk) (size : ℕ) → image ≡ image_of a.base a.patches a.set → IsDisk image
    → size ≡ image.journal → size ≡ 0 → image ≡ image_after_replay (image_of a.base a.patches a.set)
nothing_replayed a image size is disk number none = sym (not_replayed image disk (sym number ∙ none))
    ∙ ap (λ (d : Disk). image_after_replay d) is
