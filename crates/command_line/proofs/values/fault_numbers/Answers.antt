use Rattle.std.proofs.Common.{◌∙◌, ap, lit<}
use Rattle.std.proofs.lemmas.Iterator.Consumers.{YieldsList-end}
use Rattle.std.proofs.lemmas.Iterator.Splits.{YieldsList-from_str_split}
use Rattle.command_line.specs.Said.{set_of}
use Rattle.command_line.proofs.values.fault_numbers.Goals as goal

pub returns : goal.returns
returns c =
    let chain = YieldsList-from_str_split {s = c.into_iter-piece-iterator.result} 44 c.args.word.now (lit< tt) (cc) (cc)
    (cc) in
    let end =
    YieldsList-end chain c.loop-piece.yielded _ c.loop-piece.yielded_by _ _ c.in-None.is c.next.ensures.steps in
    c.loop-piece.invariant ∙ ap set_of end.0
