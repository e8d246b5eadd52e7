use Rattle.std.proofs.Common.{map}
use Rattle.std.specs.List.{flat_map, range_with_len}
use Rattle.crash_model.specs.Disk.{block_of}
use Rattle.report.specs.Fields.{hex_json}
use Rattle.report.specs.Written.{AddsTokens, tokens_of}
use Rattle.report.proofs.graph.write_base_field.Given as goal

abbrev pub invariant-loop-block : goal.invariant-loop-block
invariant-loop-block g l = AddsTokens l.initial.out l.out
    (flat_map (λ bytes. tokens_of (hex_json bytes)) (map (block_of l.base) (range_with_len 0 l.block)))
