use Rattle.std.proofs.Common.{◌≡◌, take}
use Rattle.crash_model.proofs.names.Path.copy.Given as goal

abbrev pub invariant-loop-name : goal.invariant-loop-name
invariant-loop-name l = l.through.items ≡ take l.name-index l.self.through.items
