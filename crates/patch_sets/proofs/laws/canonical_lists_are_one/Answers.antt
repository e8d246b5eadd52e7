use Rattle.patch_sets.proofs.Canonical.{one_order}
use Rattle.patch_sets.proofs.laws.canonical_lists_are_one.Goals as goal

pub returns : goal.returns
returns c = one_order c.args.sets.now c.args.others.now c.requires.ordered c.requires.others_ordered
    (λ z. (c.requires.same z).0) (λ z. (c.requires.same z).1)
