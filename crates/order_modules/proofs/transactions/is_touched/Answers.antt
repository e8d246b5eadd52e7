use Rattle.std.proofs.Common.{not, sym, ap, ◌∙◌}
use Rattle.std.specs.Prelude.{◌==◌}
use Rattle.patch_sets.proofs.Ids.{true_from_eq}
use Rattle.order_modules.specs.Transactions.{is_placed}
use Rattle.order_modules.proofs.Adding.{any_chosen}
use Rattle.order_modules.proofs.transactions.is_touched.Goals as goal

pub returns-then-not-is_ahead : goal.returns-then-not-is_ahead
returns-then-not-is_ahead c =
    let x = c.change-item.result in
    sym (any_chosen (is_placed c.args.module) (λ y. y.block == c.args.block) c.args.changes.now
    c.loop-change.change-index x c.loop-change-test.true c.change-item.is
    (ap not (sym c.if-not-is_ahead.ensures)) (true_from_eq x.block c.args.block
    (sym c.from.ensures ∙ c.if-from-block.true)))
