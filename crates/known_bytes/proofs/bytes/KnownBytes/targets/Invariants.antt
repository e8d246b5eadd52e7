use Rattle.std.proofs.Common.{◌≡◌, ◌<◌, ◌+◌, ℕ, length, true}
use Rattle.std.specs.Prelude.{slice_index}
use Rattle.crash_model.specs.Disk.{byte}
use Rattle.known_bytes.specs.Family.{InEach, is_one_of}
use Rattle.known_bytes.proofs.bytes.KnownBytes.targets.Given as goal

abbrev pub invariant-loop-k : goal.invariant-loop-k
invariant-loop-k g l = record {
  long : length l.targets.items ≡ l.k;
  each : (k : ℕ) → k < l.k
      → InEach l.self (λ d. is_one_of 0 (slice_index l.targets.items k) (byte d l.at (3 + k)) ≡ true);
}
