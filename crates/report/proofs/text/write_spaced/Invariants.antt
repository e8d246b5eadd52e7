use Rattle.std.proofs.Common.{string_bytes, take}
use Rattle.report.specs.Texts.{spaced}
use Rattle.report.specs.Written.{Adds}
use Rattle.report.proofs.text.write_spaced.Given as goal

abbrev pub invariant-loop-word : goal.invariant-loop-word
invariant-loop-word g l = Adds (string_bytes l.initial.out) (string_bytes l.out)
    (spaced g.W.Word.word (take l.word-index l.words))
