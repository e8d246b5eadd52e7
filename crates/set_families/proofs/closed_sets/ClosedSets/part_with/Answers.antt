use Rattle.std.proofs.Common.{◌≢◌, sym, subst, arith}
use Rattle.patch_sets.specs.Sets.{Has, IsSubset}
use Rattle.patch_sets.proofs.Bits.{in_with_same}
use Rattle.set_families.proofs.Links.{one_within, subset_le}
use Rattle.set_families.proofs.closed_sets.ClosedSets.part_with.Goals as goal

pub loop-part-init : goal.loop-part-init
loop-part-init c = record {
  within = subst (λ part. IsSubset part c.undecided_ids-undecided.result) (sym c.with-part.ensures)
      (one_within c.undecided_ids-undecided.result c.args.id ((c.undecided_ids-undecided.ensures c.args.id).1
      c.requires));
  inside = subst (λ part. Has part c.args.id) (sym c.with-part.ensures) (in_with_same 0 c.args.id);
}

pub loop-part-smaller : goal.loop-part-smaller
loop-part-smaller c =
    let up = subset_le c.loop-part.part c.widened-wider.result c.widened-wider.ensures.more in
    let small = c.widened-wider.type_inv in
    let other : c.widened-wider.result ≢ c.loop-part.part = c.if-wider-part.false in
    omega (arith, up, small, other)
