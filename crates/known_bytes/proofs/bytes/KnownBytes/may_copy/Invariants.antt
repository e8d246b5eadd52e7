use Rattle.std.proofs.Common.{◌≡◌, ◌≢◌, ℕ, ◌+◌, ◌<◌, ◌≤◌}
use Rattle.crash_model.specs.Disk.{byte}
use Rattle.known_bytes.specs.Family.{InEach}
use Rattle.known_bytes.proofs.bytes.KnownBytes.may_copy.Given as goal

abbrev pub invariant-loop-place : goal.invariant-loop-place
invariant-loop-place g l = (place header : ℕ) → place < l.place → 4 ≤ header → l.at ≡ header + 1 + place
    → InEach l.self (λ d. byte d header (3 + place) ≢ l.block)
