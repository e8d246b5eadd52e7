use Rattle.std.proofs.Common.{◌+◌, ℕ, length, ap, ◌∙◌}
use Rattle.std.proofs.lemmas.List.{length_push}
use Rattle.std.proofs.lemmas.List.Elements.{All-push}
use Rattle.crash_model.specs.PathTexts.{IsPath}
use Rattle.script_text.proofs.Forms.{not_so}
use Rattle.script_text.proofs.PathLists.{path_refused, texts_more}
use Rattle.script_text.proofs.operands.paths.Goals as goal

pub returns-in-None : goal.returns-in-None
returns-in-None c =
    path_refused c.args.operands.now c.loop-word.word-index _ c.loop-word-test.true c.in-None.ensures
    c.if-operands-gt-MOST_PATHS.false
    (not_so c.has_empty.result c.has_empty.ensures c.if-has_empty.false)

pub loop-word-preserved : goal.loop-word-preserved
loop-word-preserved c =
    let paths = c.loop-word.paths.items in
    let path = c.in-Some.path in
    let so_far = c.loop-word.invariant in
    record {
      are = rw c.push.ensures.items (All-push IsPath paths path so_far.are c.in-Some.ensures.0);
      said = texts_more c.args.operands.now c.loop-word.word-index _ paths c.push.new.self.items path
          c.loop-word-test.true so_far.said c.in-Some.ensures.1 c.push.ensures.items;
      number = ap length c.push.ensures.items ∙ (length_push paths path ∙ ap (λ (n : ℕ). n + 1) so_far.number);
    }
