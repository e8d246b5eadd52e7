use Rattle.std.proofs.Common.{List, bit_or, refl, sym, ap, subst, arith}
use Rattle.std.specs.Prelude.{Ok}
use Rattle.crash_model.specs.WaitSteps.{with_wait}
use Rattle.crash_model.specs.Waiting as waiting
use Rattle.traced_patches.specs.Labels.{group_by, waits_by}
use Rattle.order_modules.specs.Tracer.{Trace, Moves, names_by, trace_of}
use Rattle.order_modules.proofs.WaitSteps.{waits_push}
use Rattle.order_modules.proofs.tracer.Tracer.wait.Goals as goal

pub returns : goal.returns
returns g c =
    let i = c.self.inside in
    let step = c.args.step in
    let ids = c.args.ids in
    let old : Trace = trace_of i.log i.disk i.op_number i.next (group_by i.current) (names_by i.opened.items)
    (names_by i.ended.items) i.forced (waits_by i.waits.items) in
    subst (λ (t : Trace). Moves t
    (trace_of i.log i.disk i.op_number i.next (group_by i.current) (names_by i.opened.items)
    (names_by i.ended.items) (bit_or i.forced ids) (waits_by c.push.new.self.items))
    (Ok (with_wait step.now.line step.now.act ids t.tracing))) c.self.view_is
    (record {
      base = refl;
      kind = refl;
      rules = refl;
      whole = refl;
      op_numbers = omega arith;
      answered = ap (λ (ws : List waiting.Wait). Ok (record old.tracing { forced = bit_or i.forced ids; waits = ws }))
          (sym (waits_push i.waits.items c.push.new.self.items (record { step = step; ids = ids })
          c.in_ok-push.ensures.items));
    })
