use Rattle.std.proofs.Common.{◌∷◌, take}
use Rattle.std.specs.List.{flat_map}
use Rattle.std.specs.Fmt.{HasWritten, IsPlainFormatter}
use Rattle.crash_model.specs.PathTexts.{path_text}
use Rattle.crash_model.specs.declared.names.Path.{Path}
use Rattle.crash_model.proofs.steps.PathWordsDisplay.fmt.Given as goal

abbrev pub invariant-loop-path : goal.invariant-loop-path
invariant-loop-path g l =
    IsPlainFormatter l.initial.f
    → HasWritten g.W.Write.write_str_gives l.initial.f (flat_map (λ (path : Path). 32 ∷ path_text path)
    (take l.path-index l.path-items)) l.f
