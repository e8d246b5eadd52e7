use Rattle.std.proofs.Common.{◌≤◌, ◌-◌, arith}
use Rattle.known_bytes.proofs.ByteSets.{added_low, added_high, kept_low, kept_high}
use Rattle.known_bytes.proofs.byte_set.ByteSet.with.Goals as goal

pub returns-then-value-lt128-clause-added : goal.returns-then-value-lt128-clause-added
returns-then-value-lt128-clause-added c = added_low c.args.self.low c.args.self.high c.args.value c.from.result
    c.with.result c.if-value-lt128.true c.from.ensures c.with.ensures

pub returns-then-value-lt128-clause-others : goal.returns-then-value-lt128-clause-others
returns-then-value-lt128-clause-others c = λ other was. kept_low c.args.self.low c.args.self.high c.from.result
    c.with.result other c.with.ensures was

pub returns-else-value-lt128-clause-added : goal.returns-else-value-lt128-clause-added
returns-else-value-lt128-clause-added c =
    let large : 128 ≤ c.args.value = omega (arith, c.if-value-lt128.false) in
    added_high c.args.self.low c.args.self.high c.args.value (c.from-else-value-lt128.result - 128)
    c.with-else-value-lt128.result large (omega (arith, c.from-else-value-lt128.ensures))
    c.with-else-value-lt128.ensures

pub returns-else-value-lt128-clause-others : goal.returns-else-value-lt128-clause-others
returns-else-value-lt128-clause-others c = λ other was. kept_high c.args.self.low c.args.self.high
    (c.from-else-value-lt128.result - 128) c.with-else-value-lt128.result other c.with-else-value-lt128.ensures was
