use Rattle.std.proofs.Common.{◌≡◌, ◌-◌, drop}
use Rattle.crash_model.specs.Replay.{is_ascending}
use Rattle.known_bytes.proofs.headers.is_ascending.Given as goal

abbrev pub invariant-loop-i : goal.invariant-loop-i
invariant-loop-i l = is_ascending (drop (l.i - 1) l.numbers) ≡ is_ascending l.numbers
