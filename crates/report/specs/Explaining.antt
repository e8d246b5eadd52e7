-- What is explained of the image that a crash leaves: what replay changes, and what paths show.
use Rattle.std.specs.Prelude.{ℕ, List, Bool, ◌∷◌, [], Option, Some, ◌==◌, if◌then◌else◌, not, ◌&&◌, None, bytes_eq}
use Rattle.std.specs.Prelude.{option_map}
use Rattle.crash_model.specs.Promises.{Promise, is_broken, paths_show}
use Rattle.report.specs.declared.replayed.ReplayedBlock.{ReplayedBlock}
use Rattle.crash_model.specs.Disk.{Disk, block_of}
use Rattle.crash_model.specs.Replay.{image_after_replay}
use Rattle.crash_model.specs.declared.fault.Fault.{Fault}
use Rattle.crash_model.specs.Lists.{some_below, when}
use Rattle.crash_model.specs.declared.fault.Fault.TheVariants.{BrokenPromise}
use Rattle.crash_model.specs.declared.showing.Shown.{Shown}
use Rattle.crash_model.specs.Checker.{Demands, promised}
use Rattle.arrayvec.specs.ArrayVec.{ArrayVec}

-- the blocks in which a disk differs from the one before, ascending
abbrev pub changed_blocks : Disk → Disk → List ReplayedBlock
changed_blocks before after =
    some_below before.blocks (λ b.
    when (not (bytes_eq (block_of before b) (block_of after b))) (record { block = b; bytes = block_of after b }))

-- what replay changes in an image, if that is explained
abbrev pub replay_of : Bool → Disk → List ReplayedBlock
replay_of explain image = if explain then changed_blocks image (image_after_replay image) else []

-- what the paths show of the first promise of a line that a set breaks, whose image after replay this is
abbrev pub shown_at : List Promise → ℕ → Disk → ℕ → Option (List Shown)
shown_at [] set d line = None
shown_at (promise ∷ promises) set d line =
    if promise.line == line && is_broken promise set d then Some (paths_show d promise.paths)
    else shown_at promises set d line

-- what is shown where a fault is that a promise is broken
abbrev pub shown_for : List Promise → ℕ → Disk → Fault → Option (List Shown)
shown_for promises set d (BrokenPromise line) = shown_at promises set d line
shown_for promises set d _ = None

-- the same, if that is explained
abbrev pub shows_of : Bool → Demands → ℕ → Disk → Fault → Option (ArrayVec Shown)
shows_of explain demands set d fault =
    if explain then option_map (λ shows. record { items = shows }) (shown_for (promised demands.promises) set d fault)
    else None
