use Rattle.std.proofs.Common.{string_bytes, map, take}
use Rattle.report.specs.Texts.{joined}
use Rattle.report.specs.Written.{Adds}
use Rattle.report.proofs.text.write_joined.Given as goal

abbrev pub invariant-loop-at : goal.invariant-loop-at
invariant-loop-at g l = Adds (string_bytes l.initial.out) (string_bytes l.out)
    (joined l.between (map g.W.Word.word (take l.at l.words)))
