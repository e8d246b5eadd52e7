use Rattle.crash_model.specs.Disk.{byte}
use Rattle.crash_model.specs.Patches.{image_of}
use Rattle.known_bytes.specs.Family.{HasValue}
use Rattle.known_bytes.proofs.Undecided.{IsPassing}
use Rattle.known_bytes.proofs.bytes.KnownBytes.values.Given as goal

abbrev pub invariant-loop-id : goal.invariant-loop-id
invariant-loop-id g l = record {
  held : HasValue l.values.low l.values.high (byte (image_of l.self.base l.self.patches l.self.held) l.block l.offset);
  walk : IsPassing l.self l.block l.offset (λ x. HasValue l.values.low l.values.high x) l.left;
}

abbrev pub decreases-loop-id : goal.decreases-loop-id
decreases-loop-id g l = l.left
