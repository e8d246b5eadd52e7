use Rattle.std.proofs.Common.{◌≡◌, subst}
use Rattle.order_modules.specs.Tracer.{Trace}
use Rattle.order_modules.specs.Transactions.{targets_of}
use Rattle.order_modules.proofs.Planning.{targets_read}
use Rattle.order_modules.proofs.tracer.Tracer.touched_by.Goals as goal

pub returns : goal.returns
returns g c =
    let i = c.self.inside in
    let cs = c.args.plan.now.items in
    let targets = c.touched.result.items in
    subst (λ (t : Trace). targets ≡ targets_of t.log.kind t.tracing.disk.blocks cs) c.self.view_is
    (targets_read i.log.kind c.module.result i.disk.blocks c.blocks-2.result cs c.as_slice.result.now targets
    c.touched.ensures c.module.ensures c.blocks-2.ensures.value c.as_slice.ensures.value)
