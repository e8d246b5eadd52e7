use Rattle.std.proofs.Common.{[], map, take}
use Rattle.std.specs.List.{Contains}
use Rattle.script_text.proofs.operands.has_empty.Given as goal

abbrev pub invariant-loop-word : goal.invariant-loop-word
invariant-loop-word l = ¬ (Contains (map (λ word. word.now) (take l.word-index l.words)) [])
