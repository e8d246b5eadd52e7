use Rattle.std.proofs.Common.{sym, arith}
use Rattle.std.proofs.lemmas.Grind.{common_steps}
use Rattle.crash_model.proofs.EachBelow.{first_below-none, first_below-lowest}
use Rattle.crash_model.specs.Plan.{is_free_block}
use Rattle.inode_fs.proofs.lookup.free_block.Goals as goal

pub returns-then-map-eq0-clause-value : goal.returns-then-map-eq0-clause-value
returns-then-map-eq0-clause-value g c =
    sym (first_below-lowest c.args.image.now.blocks c.loop-b.b (is_free_block c.args.image.now) (omega arith)
    c.loop-b.invariant (grind (arith, common_steps)))

pub returns-clause-value : goal.returns-clause-value
returns-clause-value g c = sym (first_below-none c.args.image.now.blocks (is_free_block c.args.image.now)
    (λ k below. c.loop-b.invariant k (omega arith)))
