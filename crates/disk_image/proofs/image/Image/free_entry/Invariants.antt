use Rattle.std.proofs.Common.{◌≡◌, ℕ, ◌<◌, false}
use Rattle.crash_model.specs.Plan.{is_free_entry}
use Rattle.disk_image.proofs.image.Image.free_entry.Given as goal

abbrev pub invariant-loop-k : goal.invariant-loop-k
invariant-loop-k g l = (k : ℕ) → k < l.k → is_free_entry l.self l.dir k ≡ false
