use Rattle.std.proofs.Common.{◌≡◌, ◌<◌, [], ◌∷◌, ◌++◌, drop}
use Rattle.std.specs.Prelude.{Some}
use Rattle.crash_model.specs.Paths.{end_of, names_of}
use Rattle.path_lookup.proofs.lookup.end_of.Given as goal

abbrev pub invariant-loop-name : goal.invariant-loop-name
invariant-loop-name g l = record {
  rest : end_of l.image (Some l.dir) (drop l.name-index l.path.through.items ++ l.path.last ∷ [])
      ≡ end_of l.image (Some 0) (names_of l.path);
  within : l.dir < 16;
}
