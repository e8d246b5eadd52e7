use Rattle.std.proofs.Common.{ap, arith, length, length-take}
use Rattle.workload_search.proofs.places.copied.Goals as goal

pub push-requires : goal.push-requires
push-requires c = omega (
  arith,
  ap length c.loop-place.invariant,
  length-take c.loop-place.place-index c.as_slice-place-items.result.now,
  c.as_slice-place-items.ensures.fits,
  c.loop-place-test.true,
)
