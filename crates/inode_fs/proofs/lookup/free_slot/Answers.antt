use Rattle.std.proofs.Common.{sym, arith}
use Rattle.std.proofs.lemmas.Grind.{common_steps}
use Rattle.crash_model.proofs.EachBelow.{first_below-none, first_below-lowest}
use Rattle.crash_model.specs.Plan.{is_free_slot}
use Rattle.inode_fs.proofs.lookup.free_slot.Goals as goal

pub returns-then-pointer-eq0-clause-value : goal.returns-then-pointer-eq0-clause-value
returns-then-pointer-eq0-clause-value g c =
    sym (first_below-lowest 4 c.loop-s.s (is_free_slot c.args.image.now c.args.inode) (omega arith) c.loop-s.invariant
    (grind (arith, common_steps)))

pub returns-clause-value : goal.returns-clause-value
returns-clause-value g c = sym (first_below-none 4 (is_free_slot c.args.image.now c.args.inode)
    (λ k below. c.loop-s.invariant k (omega arith)))
