use Rattle.std.proofs.Common.{string_bytes, take}
use Rattle.std.specs.List.{flat_map}
use Rattle.report.specs.Written.{Adds}
use Rattle.report.proofs.part.write_all.Given as goal

abbrev pub invariant-loop-part : goal.invariant-loop-part
invariant-loop-part g l = Adds (string_bytes l.initial.out) (string_bytes l.out)
    (flat_map g.P.Part.text (take l.part-index l.parts))
