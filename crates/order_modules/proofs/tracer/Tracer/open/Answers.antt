use Rattle.std.proofs.Common.{◌≡◌, ℕ, List, [], ◌∷◌, ◌++◌, false, ◌||◌, refl, sym, ap, subst, ◌∙◌, arith}
use Rattle.std.specs.Prelude.{Some, is_some, Ok}
use Rattle.crash_model.specs.Plan.{unless}
use Rattle.crash_model.specs.Trace.{is_among}
use Rattle.crash_model.specs.declared.refusals.TraceFault.TheVariants as fault
use Rattle.traced_patches.specs.Labels.{group_by, waits_by}
use Rattle.order_modules.specs.Tracer.{Trace, Moves, names_by, trace_of}
use Rattle.order_modules.proofs.Grouping.{refused, accepted, or_first, or_second, or_neither, some_group, among_read}
use Rattle.order_modules.proofs.Grouping.{names_push}
use Rattle.order_modules.proofs.tracer.Tracer.open.Goals as goal
use Rattle.order_modules.proofs.tracer.Tracer.open.Goals.{then-is_some-via-then-is_some}
use Rattle.order_modules.proofs.tracer.Tracer.open.Goals.{then-is_some-via-else-is_some+then-is_among}

pub returns-then-is_some-clause-refused : goal.returns-then-is_some-clause-refused
returns-then-is_some-clause-refused g c = λ _.
    let i = c.self.inside in
    let s = c.args.self.now.tracing in
    let name = c.args.name.now in
    let current : is_some s.current ≡ c.is_some.result = ap (λ (t : Trace). is_some t.tracing.current)
    (sym c.self.view_is) ∙ some_group i.current ∙ sym c.is_some.ensures in
    refused (is_some s.current || is_among name s.opened) (fault.GroupFault c.args.line) _ (elim c.then-is_some.branch [
      | then-is_some-via-then-is_some w ↦ or_first (is_some s.current) (is_among name s.opened)
          (current ∙ w.if-is_some.true)
      | then-is_some-via-else-is_some+then-is_among w ↦
          or_second (is_some s.current) (is_among name s.opened)
          (among_read c.args.self.now name i.opened.items w.as_slice.result.now w.is_among.result s.opened
          w.is_among.ensures w.as_slice.ensures.value (ap (λ (t : Trace). t.tracing.opened) c.self.view_is)
          ∙ w.if-is_among.true)
    ])

pub returns-clause-ok : goal.returns-clause-ok
returns-clause-ok g c =
    let i = c.self.inside in
    let s = c.args.self.now.tracing in
    let name = c.args.name.now in
    let old : Trace = trace_of i.log i.disk i.op_number i.next (group_by i.current) (names_by i.opened.items)
    (names_by i.ended.items) i.forced (waits_by i.waits.items) in
    let line = c.args.line in
    let current : is_some (group_by i.current) ≡ false = some_group i.current ∙ sym c.is_some.ensures
    ∙ c.if-is_some.false in
    let among : is_among name (names_by i.opened.items) ≡ false =
    among_read old name i.opened.items c.as_slice.result.now c.is_among.result (names_by i.opened.items)
    c.is_among.ensures c.as_slice.ensures.value refl ∙ c.if-is_among.false in
    subst (λ (t : Trace). Moves t (trace_of i.log i.disk i.op_number i.next (Some name) (names_by c.push.new.self.items)
    (names_by i.ended.items) i.forced (waits_by i.waits.items))
    (unless (is_some t.tracing.current || is_among name t.tracing.opened) (fault.GroupFault line)
    (Ok (record t.tracing { current = Some name; opened = t.tracing.opened ++ name ∷ [] })))) c.self.view_is
    (record {
      base = refl;
      kind = refl;
      rules = refl;
      whole = refl;
      op_numbers = omega arith;
      answered = accepted (is_some (group_by i.current) || is_among name (names_by i.opened.items))
          (fault.GroupFault line) _ (or_neither (is_some (group_by i.current)) (is_among name (names_by i.opened.items))
          current among)
          ∙ ap (λ (names : List (List ℕ)). Ok (record old.tracing { current = Some name; opened = names }))
          (sym (names_push i.opened.items c.push.new.self.items c.args.name c.in_ok-push.ensures.items));
    })
