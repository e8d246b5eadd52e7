use Rattle.std.proofs.Common.{take}
use Rattle.std.specs.List.{flat_map}
use Rattle.serde_json.specs.Data.{string}
use Rattle.report.specs.Written.{AddsTokens, tokens_of}
use Rattle.report.proofs.fields.write_array_of_words.Given as goal

abbrev pub invariant-loop-word : goal.invariant-loop-word
invariant-loop-word g l = AddsTokens l.initial.out l.out
    (flat_map (λ x. tokens_of (string (g.W.Word.word x))) (take l.word-index l.words))
