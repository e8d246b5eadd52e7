use Rattle.std.proofs.Common.{◌∷◌, List, ℕ, take}
use Rattle.std.specs.List.{flat_map}
use Rattle.std.specs.Fmt.{HasWritten, IsPlainFormatter}
use Rattle.crash_model.proofs.names.PathDisplay.fmt.Given as goal

abbrev pub invariant-loop-name : goal.invariant-loop-name
invariant-loop-name g l =
    IsPlainFormatter l.initial.f
    → HasWritten g.W.Write.write_str_gives l.initial.f (flat_map (λ (name : List ℕ). 47 ∷ name)
    (take l.name-index l.self.through.items)) l.f
