use Rattle.std.proofs.Common.{sym, arith}
use Rattle.std.proofs.lemmas.Grind.{common_steps}
use Rattle.crash_model.proofs.EachBelow.{first_below-none, first_below-lowest}
use Rattle.crash_model.specs.Plan.{is_free_inode}
use Rattle.inode_fs.proofs.lookup.free_inode.Goals as goal

pub returns-then-kind-eq-FREE_KIND-clause-value : goal.returns-then-kind-eq-FREE_KIND-clause-value
returns-then-kind-eq-FREE_KIND-clause-value g c =
    sym (first_below-lowest 16 c.loop-i.i (is_free_inode c.args.image.now) (omega arith) c.loop-i.invariant
    (grind (arith, common_steps)))

pub returns-clause-value : goal.returns-clause-value
returns-clause-value g c = sym (first_below-none 16 (is_free_inode c.args.image.now)
    (λ k below. c.loop-i.invariant k (omega arith)))
