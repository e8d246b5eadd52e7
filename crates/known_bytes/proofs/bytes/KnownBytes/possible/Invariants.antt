use Rattle.std.proofs.Common.{ℕ, ◌<◌, ◌≤◌}
use Rattle.crash_model.specs.Disk.{byte}
use Rattle.crash_model.specs.declared.disk_bytes.TheConstants.{JOURNAL_AT}
use Rattle.known_bytes.specs.Family.{InEach, HasValue}
use Rattle.known_bytes.specs.Headers.{IsCopyOf}
use Rattle.known_bytes.proofs.bytes.KnownBytes.possible.Given as goal

abbrev pub invariant-loop-at : goal.invariant-loop-at
invariant-loop-at g l = record {
  own : InEach l.self (λ d. HasValue l.values.low l.values.high (byte d l.block l.offset));
  copies : (at : ℕ) → JOURNAL_AT ≤ at → at < l.at
      → InEach l.self (λ d. IsCopyOf d l.block at → HasValue l.values.low l.values.high (byte d at l.offset));
}
