use Rattle.std.proofs.Common.{◌≡◌, take}
use Rattle.order_modules.proofs.log.bytes_of.Given as goal

abbrev pub invariant-loop-byte : goal.invariant-loop-byte
invariant-loop-byte l = l.items.items ≡ take l.byte-index l.bytes
