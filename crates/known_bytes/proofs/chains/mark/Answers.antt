use Rattle.std.proofs.Common.{◌+◌, ◌*◌, arith}
use Rattle.known_bytes.proofs.Marked.{adds_step}
use Rattle.known_bytes.proofs.chains.mark.Goals as goal

pub loop-place-preserved : goal.loop-place-preserved
loop-place-preserved c = adds_step c.args.id (128 * c.from.result + c.from-2.result) c.loop-place.place c.with.result
    c.args.sets.now c.loop-place.sets (omega (arith, c.loop-place.auto.place))
    (omega (arith, c.loop-place.invariant.long))
    c.with.ensures c.loop-place.invariant
