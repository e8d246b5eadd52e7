use Rattle.std.proofs.Common.{◌≡◌, List, ap, ◌∙◌, subst}
use Rattle.std.specs.Prelude.{Ok}
use Rattle.crash_model.specs.Disk.{Disk}
use Rattle.crash_model.specs.Trace.{step}
use Rattle.crash_model.specs.Tracing.{Tracing}
use Rattle.crash_model.specs.WaitSteps.{target_found, when_found, with_wait}
use Rattle.crash_model.specs.Waiting.{ranges_of, fsync_forces, ids_from}
use Rattle.crash_model.specs.declared.ranges.Range.{Range}
use Rattle.order_modules.specs.Tracer.{Trace}
use Rattle.order_modules.proofs.WaitSteps.{fsync_step, moves_to}
use Rattle.order_modules.proofs.tracer.Tracer.wait_for.Goals as goal

pub returns-clause-ok : goal.returns-clause-ok
returns-clause-ok g c =
    let now = c.args.self.now in
    let i = c.self.inside in
    let x = c.args.step.now in
    let kind = now.log.kind in
    let s = now.tracing in
    let target = c.args.target.now in
    let ids = c.forced_by_fsync-ids.result in
    let ranges = c.ranges_of-ranges.result.items in
    let disk : i.disk ≡ s.disk = ap (λ (t : Trace). t.tracing.disk) c.self.view_is in
    let found : (next : Tracing) → when_found x.line (target_found s.disk target) next ≡ Ok next =
    λ next. subst (λ (d : Disk). when_found x.line (target_found d target) next ≡ Ok next) disk
    (c.in_ok-find_target.ensures.found next) in
    let are : ranges ≡ ranges_of s.disk target = c.ranges_of-ranges.ensures
    ∙ ap (λ (d : Disk). ranges_of d target) disk in
    let forced : ids ≡ ids_from 0 (fsync_forces kind ranges s.emitted) s.emitted =
    c.forced_by_fsync-ids.ensures
    ∙ (ap (λ (rs : List Range). ids_from 0 (fsync_forces i.log.kind rs i.log.emitted) i.log.emitted)
    c.as_slice.ensures.value
    ∙ ap (λ (t : Trace). ids_from 0 (fsync_forces t.log.kind ranges t.tracing.emitted) t.tracing.emitted)
    c.self.view_is) in
    moves_to now c.wait.new.self (Ok (with_wait x.line x.act ids s)) (step kind s x.line x.act)
    (fsync_step kind s x.line x.act target c.requires ids ranges found are forced) c.in_ok-wait.ensures
