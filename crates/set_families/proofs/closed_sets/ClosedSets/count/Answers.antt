use Rattle.state_space.proofs.Counting.{number_like}
use Rattle.patch_sets.specs.Closed.{IsClosed}
use Rattle.set_families.specs.Families.{IsMember}
use Rattle.set_families.proofs.closed_sets.ClosedSets.count.Goals as goal

pub returns : goal.returns
returns c =
    let deps = c.args.self.now.deps.now in
    number_like (IsMember deps c.whole-whole.result) (IsClosed deps) (λ w. (c.whole-whole.ensures.members w).0)
    (λ w. (c.whole-whole.ensures.members w).1) c.count_members.result c.count_members.ensures
