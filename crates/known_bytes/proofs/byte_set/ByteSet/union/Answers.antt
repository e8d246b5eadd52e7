use Rattle.known_bytes.proofs.Sources.{in_first, in_second}
use Rattle.known_bytes.proofs.byte_set.ByteSet.union.Goals as goal

pub returns-clause-first : goal.returns-clause-first
returns-clause-first c = λ value is. in_first c.args.self.low c.args.self.high c.args.more.low c.args.more.high value is

pub returns-clause-second : goal.returns-clause-second
returns-clause-second c = λ value is. in_second c.args.self.low c.args.self.high c.args.more.low c.args.more.high value
    is
