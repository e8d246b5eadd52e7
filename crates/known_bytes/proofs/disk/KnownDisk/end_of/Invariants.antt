use Rattle.std.proofs.Common.{◌≡◌, ◌<◌, [], ◌∷◌, ◌++◌, drop}
use Rattle.std.specs.Prelude.{Some}
use Rattle.crash_model.specs.Paths.{end_of, names_of}
use Rattle.known_bytes.specs.Reading.{InEachDisk}
use Rattle.known_bytes.proofs.disk.KnownDisk.end_of.Given as goal

abbrev pub invariant-loop-name : goal.invariant-loop-name
invariant-loop-name g l = record {
  rest : InEachDisk l.self (λ d. end_of d (Some l.dir) (drop l.name-index l.path.through.items ++ l.path.last ∷ [])
      ≡ end_of d (Some 0) (names_of l.path));
  within : l.dir < 16;
}
