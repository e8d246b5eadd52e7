use Rattle.std.proofs.Common.{◌≡◌, ◌≢◌, sym, ap, ◌∙◌}
use Rattle.std.specs.Prelude.{Ok, Err}
use Rattle.std.proofs.lemmas.Result.{IfErr-weaker}
use Rattle.crash_model.specs.Paths.{is_same_path}
use Rattle.crash_model.specs.Trace.{step}
use Rattle.crash_model.specs.Tracing.{Tracing}
use Rattle.crash_model.specs.WaitSteps.{target_found, when_found}
use Rattle.crash_model.specs.declared.refusals.TraceFault.TheVariants.{OutOfMemory}
use Rattle.crash_model.specs.declared.steps.Act.TheVariants.{Spare}
use Rattle.crash_model.specs.declared.steps.Target.TheVariants.{At}
use Rattle.order_modules.specs.Tracer.{Trace}
use Rattle.order_modules.proofs.WaitSteps.{other_stands}
use Rattle.order_modules.proofs.tracer.Tracer.stand_in.Goals as goal

pub returns-clause-refused : goal.returns-clause-refused
returns-clause-refused g c =
    let i = c.self.inside in
    let line = c.args.line in
    let path = c.args.path.now in
    let other = c.args.other.now in
    let kind = c.args.self.now.log.kind in
    let s = c.args.self.now.tracing in
    IfErr-weaker c.find_path.result
    (λ fault. (t : Tracing) → when_found line (target_found i.disk (At other)) t ≡ Err fault)
    (λ fault. fault ≢ OutOfMemory → step kind s line (Spare path other) ≡ Err fault)
    (λ fault each _. other_stands (is_same_path path other) (Ok s) (when_found line (target_found s.disk (At other)) s)
    (sym c.is_same.ensures ∙ c.if-is_same.false)
    ∙ (ap (λ (t : Trace). when_found line (target_found t.tracing.disk (At other)) s) (sym c.self.view_is) ∙ each s))
    c.find_path.ensures.refused
