use Rattle.std.proofs.Common.{◌≡◌, length, map, take}
use Rattle.std.specs.List.{All}
use Rattle.crash_model.specs.PathTexts.{IsPath, path_text}
use Rattle.script_text.proofs.operands.paths.Given as goal

abbrev pub invariant-loop-word : goal.invariant-loop-word
invariant-loop-word l = record {
  are : All IsPath l.paths.items;
  said : map (λ word. word.now) (take l.word-index l.operands) ≡ map path_text l.paths.items;
  number : length l.paths.items ≡ l.word-index;
}
