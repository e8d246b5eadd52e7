use Rattle.std.proofs.Common.{ℕ, List, [], ◌∷◌, ◌++◌, length, ap, ◌∙◌, arith, lit<}
use Rattle.std.proofs.lemmas.List.{map-append}
use Rattle.std.proofs.lemmas.Iterator.Splits.{YieldsList-from_str_split}
use Rattle.std.proofs.lemmas.Iterator.Consumers.{YieldsList-turn, YieldsList-end}
use Rattle.std.proofs.lemmas.Bool.Decides.{nat_tests}
use Rattle.script_text.proofs.Spaces.{words_are, are_words, same_lengths}
use Rattle.script_text.proofs.words.words.Goals as goal

pub returns-then-is_full : goal.returns-then-is_full
returns-then-is_full c words are =
    let chain = YieldsList-from_str_split {s = c.into_iter-word-iterator.result} 32 c.args.text.now (lit< tt) (cc) (cc)
    (cc) in
    let turn = YieldsList-turn chain c.loop-word.yielded _ c.loop-word.yielded_by _ _ c.in-Some.word c.in-Some.is
    c.next.ensures.steps in
    let all = ap length (words_are c.args.text.now words are) in
    let so_far = same_lengths c.loop-word.words.items c.loop-word.yielded c.loop-word.invariant in
    grind (arith, nat_tests)

pub loop-word-preserved : goal.loop-word-preserved
loop-word-preserved c = rw c.push.ensures.items (simp map-append
    (ap (λ (words : List (List ℕ)). words ++ c.in-Some.word.now ∷ []) c.loop-word.invariant))

pub returns : goal.returns
returns c =
    let chain = YieldsList-from_str_split {s = c.into_iter-word-iterator.result} 32 c.args.text.now (lit< tt) (cc) (cc)
    (cc) in
    let end = YieldsList-end chain c.loop-word.yielded _ c.loop-word.yielded_by _ _ c.in-None.is c.next.ensures.steps in
    are_words c.args.text.now _ (c.loop-word.invariant ∙ end.0)
