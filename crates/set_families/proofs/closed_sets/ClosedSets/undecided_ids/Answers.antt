use Rattle.std.proofs.Common.{◌-◌, length, subst}
use Rattle.std.specs.Prelude.{bit_or}
use Rattle.patch_sets.specs.Ends.{IsDifference}
use Rattle.set_families.proofs.Held.{undecided_exactly, shift_is}
use Rattle.set_families.proofs.closed_sets.ClosedSets.undecided_ids.Goals as goal

pub returns : goal.returns
returns c =
    let deps = c.args.self.now.deps.now in
    undecided_exactly deps c.args.family c.difference.result
    (subst (λ n. IsDifference (n - 1) (bit_or c.args.family.held c.args.family.barred) c.difference.result)
    (shift_is (length deps) c.args.self.now.few) c.difference.ensures)
