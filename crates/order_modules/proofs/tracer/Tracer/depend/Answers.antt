use Rattle.std.proofs.Common.{[], ◌∷◌, ◌++◌, Bool, not, ◌||◌, refl, sym, ap, subst, ◌∙◌, arith}
use Rattle.std.specs.Prelude.{Ok, bytes_eq}
use Rattle.std.specs.List.{list_any}
use Rattle.crash_model.specs.Plan.{unless}
use Rattle.crash_model.specs.Trace.{is_among, is_same_group}
use Rattle.crash_model.specs.declared.refusals.TraceFault.TheVariants as fault
use Rattle.traced_patches.specs.Labels.{group_by, waits_by}
use Rattle.order_modules.specs.Log.{Log}
use Rattle.order_modules.specs.Tracer.{Trace, Moves, names_by, trace_of}
use Rattle.order_modules.proofs.Grouping.{refused, accepted, or_first, or_second, or_neither, among_read}
use Rattle.order_modules.proofs.tracer.Tracer.depend.Goals as goal
use Rattle.order_modules.proofs.tracer.Tracer.depend.Goals.{then-not-is_among-via-then-not-is_among}
use Rattle.order_modules.proofs.tracer.Tracer.depend.Goals.{then-not-is_among-via-else-not-is_among+then-is_same}
use Rattle.order_modules.proofs.tracer.Tracer.depend.Goals.{then-not-is_among-via-else-not-is_among+else-is_same+then-has_patch_in}

pub returns-then-not-is_among-clause-refused : goal.returns-then-not-is_among-clause-refused
returns-then-not-is_among-clause-refused g c = λ _.
    let i = c.self.inside in
    let s = c.args.self.now.tracing in
    let later = c.args.later.now in
    let earlier = c.args.earlier.now in
    let a : Bool = not (is_among earlier s.ended) in
    let b : Bool = bytes_eq later earlier in
    let p : Bool = list_any (λ e. is_same_group e.origin.group later) s.emitted in
    let among = among_read c.args.self.now earlier i.ended.items c.as_slice.result.now c.is_among.result s.ended
    c.is_among.ensures c.as_slice.ensures.value (ap (λ (t : Trace). t.tracing.ended) c.self.view_is) in
    refused (a || b || p) (fault.GroupFault c.args.line) _ (elim c.then-not-is_among.branch [
      | then-not-is_among-via-then-not-is_among w ↦ or_first (a || b) p
          (or_first a b (ap not (among ∙ w.if-not-is_among.true)))
      | then-not-is_among-via-else-not-is_among+then-is_same w ↦
          or_first (a || b) p (or_second a b (sym w.is_same.ensures ∙ w.if-is_same.true))
      | then-not-is_among-via-else-not-is_among+else-is_same+then-has_patch_in w ↦
          or_second (a || b) p (ap (λ (t : Trace). list_any (λ e. is_same_group e.origin.group later) t.tracing.emitted)
          (sym c.self.view_is) ∙ sym w.has_patch_in.ensures ∙ w.if-has_patch_in.true)
    ])

pub returns-clause-ok : goal.returns-clause-ok
returns-clause-ok g c =
    let i = c.self.inside in
    let later = c.args.later.now in
    let earlier = c.args.earlier.now in
    let line = c.args.line in
    let old : Trace = trace_of i.log i.disk i.op_number i.next (group_by i.current) (names_by i.opened.items)
    (names_by i.ended.items) i.forced (waits_by i.waits.items) in
    let a : Bool = not (is_among earlier (names_by i.ended.items)) in
    let b : Bool = bytes_eq later earlier in
    let p : Bool = list_any (λ e. is_same_group e.origin.group later) i.log.emitted in
    let among = among_read old earlier i.ended.items c.as_slice.result.now c.is_among.result (names_by i.ended.items)
    c.is_among.ensures c.as_slice.ensures.value refl in
    let linked = c.in_ok-link.ensures.ok in
    subst (λ (t : Trace). Moves t (trace_of c.link.new.self i.disk i.op_number i.next (group_by i.current)
    (names_by i.opened.items) (names_by i.ended.items) i.forced (waits_by i.waits.items))
    (unless (not (is_among earlier t.tracing.ended) || bytes_eq later earlier
    || list_any (λ e. is_same_group e.origin.group later) t.tracing.emitted) (fault.GroupFault line)
    (Ok (record t.tracing { links = t.tracing.links ++ (later, earlier) ∷ [] })))) c.self.view_is
    (record {
      base = ap (λ (l : Log). l.base) linked;
      kind = ap (λ (l : Log). l.kind) linked;
      rules = ap (λ (l : Log). l.rules) linked;
      whole = ap (λ (l : Log). l.whole) linked;
      op_numbers = omega arith;
      answered = accepted (a || b || p) (fault.GroupFault line) _
          (or_neither (a || b) p (or_neither a b (ap not (among ∙ c.if-not-is_among.false))
          (sym c.is_same.ensures ∙ c.if-is_same.false)) (sym c.has_patch_in.ensures ∙ c.if-has_patch_in.false))
          ∙ ap (λ (l : Log). Ok (record old.tracing { emitted = l.emitted; whole = l.whole; links = l.links }))
          (sym linked);
    })
