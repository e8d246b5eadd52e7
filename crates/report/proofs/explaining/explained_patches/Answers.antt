use Rattle.std.proofs.Common.{refl}
use Rattle.crash_model.proofs.EachBelow.{some_below-zero}
use Rattle.traced_patches.specs.Traced.{explained_at}
use Rattle.report.proofs.Numbered.{one_more}
use Rattle.report.proofs.explaining.explained_patches.Goals as goal

pub loop-id-init : goal.loop-id-init
loop-id-init g c = rw (c.in_ok-patches.ensures.items, some_below-zero) refl

pub loop-id-preserved : goal.loop-id-preserved
loop-id-preserved g c =
    one_more (explained_at c.args.traced.now) c.loop-id.id c.loop-id.patches.items c.push.new.self.items
    c.in_ok-explained_patch.field-0 c.loop-id.invariant c.in_ok-push.ensures.items c.in_ok-explained_patch.ensures
