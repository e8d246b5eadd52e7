use Rattle.std.proofs.Common.{◌≡◌, ◌++◌, ◌≤◌, ◌∷◌, [], length}
use Rattle.std.specs.List.{All}
use Rattle.crash_model.specs.Names.{IsName}
use Rattle.crash_model.specs.FirstNames.{IsNothingOrSlash}
use Rattle.crash_model.proofs.Paths.{slash_text}
use Rattle.crash_model.proofs.names.Path.read.Given as goal

abbrev pub invariant-loop-rest : goal.invariant-loop-rest
invariant-loop-rest l = record {
  few : length l.through.items ≤ 3;
  names : All IsName (l.through.items ++ l.last ∷ []);
  text : l.text ≡ slash_text (l.through.items ++ l.last ∷ []) ++ l.rest;
  ends : IsNothingOrSlash l.rest;
}

abbrev pub decreases-loop-rest : goal.decreases-loop-rest
decreases-loop-rest l = length l.rest
