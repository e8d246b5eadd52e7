use Rattle.std.proofs.Common.{take}
use Rattle.std.specs.List.{flat_map}
use Rattle.report.specs.Written.{AddsTokens, tokens_of}
use Rattle.report.proofs.part.write_array.Given as goal

abbrev pub invariant-loop-part : goal.invariant-loop-part
invariant-loop-part g l = AddsTokens l.initial.out l.out
    (flat_map (λ x. tokens_of (g.P.Part.json l.form.numbers x)) (take l.part-index l.parts))
