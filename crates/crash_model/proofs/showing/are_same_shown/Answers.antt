use Rattle.std.proofs.Common.{sym, arith}
use Rattle.crash_model.proofs.SameLists.{unlike_shown}
use Rattle.crash_model.proofs.showing.are_same_shown.Goals as goal

pub returns-then-one-two : goal.returns-then-one-two
returns-then-one-two c = sym (unlike_shown c.args.one.now c.args.two.now (λ e. omega (arith, e, c.if-one-two.true)))
