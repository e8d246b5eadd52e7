use Rattle.std.proofs.Common.{◌≡◌, ℕ, ◌<◌, get_or, length}
use Rattle.known_bytes.proofs.homes.own_blocks.Given as goal

abbrev pub invariant-loop-block : goal.invariant-loop-block
invariant-loop-block l = record {
  long : length l.blocks ≡ 128;
  own : (k : ℕ) → k < l.block → get_or l.blocks k 0 ≡ k;
}
