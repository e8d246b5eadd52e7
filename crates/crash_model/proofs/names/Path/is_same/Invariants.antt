use Rattle.std.proofs.Common.{◌≡◌, [], ◌∷◌, ◌++◌, drop}
use Rattle.crash_model.specs.Paths.{are_same_names, is_same_path}
use Rattle.crash_model.proofs.names.Path.is_same.Given as goal

abbrev pub invariant-loop-at : goal.invariant-loop-at
invariant-loop-at l =
    are_same_names (drop l.at l.self.through.items ++ l.self.last ∷ [])
    (drop l.at l.other.through.items ++ l.other.last ∷ []) ≡ is_same_path l.self l.other
