use Rattle.std.proofs.Common.{take}
use Rattle.std.specs.List.{All}
use Rattle.crash_model.specs.Names.{IsName}
use Rattle.crash_model.proofs.names.Path.has_names.Given as goal

abbrev pub invariant-loop-name : goal.invariant-loop-name
invariant-loop-name l = All IsName (take l.name-index l.self.through.items)
