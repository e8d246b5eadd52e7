-- Patches of one block where blocks are written whole.
use Rattle.std.specs.Prelude.{Bool, ◌&&◌, ◌==◌}
use Rattle.crash_model.specs.Emitted.{Emitted}

-- blocks are written whole, and two patches change the same block
abbrev pub shares_block : Bool → Emitted → Emitted → Bool
shares_block whole q p = whole && q.place.block == p.place.block
