-- Transactions of the full journal: their places, and what a closed set has of them.
use Rattle.std.specs.Prelude.{◌≡◌, ℕ, ◌+◌, ◌≤◌, ◌<◌, List, [], ◌∷◌, ◌++◌, length, map, slice_index, Bool, true}
use Rattle.std.specs.Prelude.{if◌then◌else◌}
use Rattle.crash_model.specs.Disk.{Disk, block_of}
use Rattle.patch_sets.specs.Sets.{has}
use Rattle.crash_model.specs.Patches.{Place, place, image_from}
use Rattle.crash_model.specs.Plan.{with_changes}
use Rattle.crash_model.specs.Replay.{is_target, headers_from, copy_after}
use Rattle.crash_model.specs.Trace.{touched_blocks}
use Rattle.full_journal_laws.specs.Full.{IsOutside}
use Rattle.journal_replay.proofs.Blocks.{IsShaped}
use Rattle.crash_model.specs.declared.plans.Change.{Change}

-- ---- the places of a log of operations

abbrev pub copy_places : Disk → ℕ → List ℕ → List Place
copy_places after j [] = []
copy_places after j (b ∷ bs) = place j 0 (block_of after b) ∷ copy_places after (j + 1) bs

abbrev pub change_places : List Change → List Place
change_places cs = map (λ c. place c.block c.offset c.new.items) cs

-- a transaction: copies, commit, the changes, done
abbrev pub turn_places : Disk → ℕ → ℕ → List ℕ → List Change → List Place
turn_places after t j targets cs =
    copy_places after (j + 1) targets ++ (place j 0 (0xC7 ∷ t ∷ length targets ∷ targets)
    ∷ (change_places cs ++ (place j 0 (0xC8 ∷ []) ∷ [])))

-- transactions t, t + 1, .. of a disk of n blocks, the first with its header at journal block j
abbrev pub log_places : ℕ → Disk → ℕ → ℕ → List (List Change) → List Place
log_places n d t j [] = []
log_places n d t j (cs ∷ ops) =
    turn_places (with_changes d cs) t j (touched_blocks n cs) cs
    ++ log_places n (with_changes d cs) (t + 1) (j + 1 + length (touched_blocks n cs)) ops

-- ---- what a set has of it

-- Of a transaction that begins at id, with `copies` copies and `changes` changes. `committed` and `done` say whether
-- the one before it is.
pub record IsTurnClosed (id copies changes : ℕ) (committed done : Bool) (set : ℕ) : Type 0 where
  pub copied : has set (id + copies) ≡ true → (p : ℕ) → id ≤ p → p < id + copies → has set p ≡ true
  pub chained : has set (id + copies) ≡ true → committed ≡ true
  pub after_commit : (p : ℕ) → id + copies < p → p < id + copies + 1 + changes → has set p ≡ true
      → has set (id + copies) ≡ true
  pub done_last : has set (id + copies + 1 + changes) ≡ true → (p : ℕ) → id + copies ≤ p → p < id + copies + 1 + changes
      → has set p ≡ true
  pub done_chained : has set (id + copies + 1 + changes) ≡ true → done ≡ true

abbrev pub IsLogClosed : ℕ → ℕ → Bool → Bool → List (List Change) → ℕ → Type 0
IsLogClosed n id committed done [] set = Unit {0}
IsLogClosed n id committed done (cs ∷ ops) set =
    IsTurnClosed id (length (touched_blocks n cs)) (length cs) committed done set
    × IsLogClosed n (id + length (touched_blocks n cs) + 1 + length cs + 1)
    (has set (id + length (touched_blocks n cs))) (has set (id + length (touched_blocks n cs) + 1 + length cs)) ops
    set

-- the disk after the operations whose commits the set has
abbrev pub committed_disk : ℕ → Disk → ℕ → List (List Change) → ℕ → Disk
committed_disk n d id [] set = d
committed_disk n d id (cs ∷ ops) set =
    if has set (id + length (touched_blocks n cs))
    then committed_disk n (with_changes d cs) (id + length (touched_blocks n cs) + 1 + length cs + 1) ops set
    else d

-- ---- what operations keep

-- a place inside a block of a disk of n blocks
pub record IsPlaced (n : ℕ) (p : Place) : Type 0 where
  pub inside : p.offset + length p.new ≤ 128
  pub known : p.block < n

abbrev pub ArePlaced : ℕ → List Place → Type 0
ArePlaced n [] = Unit {0}
ArePlaced n (p ∷ ps) = IsPlaced n p × ArePlaced n ps

-- the changes are to blocks 1, 2, 3 and the data area
abbrev pub AreAimed : Disk → List Change → Type 0
AreAimed d [] = Unit {0}
AreAimed d (c ∷ cs) = (is_target d c.block ≡ true) × AreAimed d cs

-- a plan's changes, which its transaction has room for
pub record IsTurn (n jl : ℕ) (d : Disk) (j : ℕ) (cs : List Change) : Type 0 where
  pub placed : ArePlaced n (change_places cs)
  pub aimed : AreAimed d cs
  pub some : 1 ≤ length (touched_blocks n cs)
  pub few : length (touched_blocks n cs) ≤ 8
  pub room : j + 1 + length (touched_blocks n cs) ≤ 4 + jl

abbrev pub IsLog : ℕ → ℕ → Disk → ℕ → List (List Change) → Type 0
IsLog n jl d j [] = Unit {0}
IsLog n jl d j (cs ∷ ops) = IsTurn n jl d j cs × IsLog n jl (with_changes d cs) (j + 1 + length (touched_blocks n cs))
    ops

-- the block after replay
abbrev pub replayed_block : Disk → ℕ → ℕ → ℕ → ℕ → ℕ → List ℕ
replayed_block d most j t b found = block_of d (copy_after d b found (headers_from most d j t))

-- Of a sound disk whose journal is zero, each block outside the journal is after replay as the committed operations
-- left it.
abbrev pub LogSafe : Type 0
LogSafe = (ops : List (List Change)) (n jl : ℕ) (d : Disk) (set b : ℕ) → IsShaped n jl d → 4 + jl ≤ n
    → IsLog n jl d 4 ops
    → IsLogClosed n 0 true true ops set → ((x : ℕ) → 4 ≤ x → x < 4 + jl → slice_index (block_of d x) 0 ≡ 0)
    → IsOutside jl b → b < n
    → replayed_block (image_from 0 d (log_places n d 1 4 ops) set) jl 4 1 b b ≡ block_of (committed_disk n d 0 ops set)
    b
