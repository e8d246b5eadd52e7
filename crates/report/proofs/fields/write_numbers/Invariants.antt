use Rattle.std.proofs.Common.{take}
use Rattle.std.specs.List.{flat_map}
use Rattle.report.specs.Fields.{field, natural}
use Rattle.report.specs.Written.{AddsFields}
use Rattle.report.proofs.fields.write_numbers.Given as goal

abbrev pub invariant-loop-key : goal.invariant-loop-key
invariant-loop-key l = AddsFields l.initial.out l.out
    (flat_map (λ n. field n.0.now (natural n.1)) (take l.key-index l.numbers))
