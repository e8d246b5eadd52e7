use Rattle.std.proofs.Common.{take}
use Rattle.std.specs.List.{flat_map}
use Rattle.report.specs.FaultsJson.{fault_json}
use Rattle.report.specs.Written.{AddsTokens, tokens_of}
use Rattle.report.specs.declared.found.FoundFault.{FoundFault}
use Rattle.report.proofs.found.write_all_numbers.Given as goal

abbrev pub invariant-loop-one : goal.invariant-loop-one
invariant-loop-one l = AddsTokens l.initial.out l.out
    (flat_map (λ (f : FoundFault). tokens_of (fault_json f.fault)) (take l.one-index l.found))
