use Rattle.std.proofs.Common.{◌-◌}
use Rattle.known_bytes.specs.Chains.{AddsFrom}
use Rattle.known_bytes.proofs.chains.mark.Given as goal

abbrev pub invariant-loop-place : goal.invariant-loop-place
invariant-loop-place l = AddsFrom l.id l.from (l.place - l.from) l.initial.sets l.sets
