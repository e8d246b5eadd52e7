-- What a slot shows that names a block.
use Rattle.std.specs.Prelude.{ℕ, ◌+◌, ◌*◌, slice_range, ◌==◌, if◌then◌else◌}
use Rattle.crash_model.specs.declared.disk_bytes.TheConstants.{BLOCK_SIZE, SHOWN_BYTES}
use Rattle.crash_model.specs.declared.showing.ShownSlot.{ShownSlot}
use Rattle.crash_model.specs.declared.showing.ShownSlot.TheVariants.{Hole, Wild, Begins}
use Rattle.crash_model.specs.Disk.{Disk}
use Rattle.crash_model.specs.Layout.{is_data}

abbrev pub block_shown : Disk → ℕ → ShownSlot
block_shown d block =
    if block == 0 then Hole
    else if is_data d block then Begins (slice_range d.bytes (BLOCK_SIZE * block) (BLOCK_SIZE * block + SHOWN_BYTES))
    else Wild
