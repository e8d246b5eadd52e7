use Rattle.std.proofs.Common.{◌≡◌, false, take}
use Rattle.std.specs.Prelude.{◌==◌}
use Rattle.std.specs.List.{list_any}
use Rattle.order_modules.specs.Transactions.{changes_in_place}
use Rattle.order_modules.proofs.transactions.is_touched.Given as goal

abbrev pub invariant-loop-change : goal.invariant-loop-change
invariant-loop-change l = list_any (λ c. c.block == l.block) (changes_in_place l.module (take l.change-index l.changes))
    ≡ false
