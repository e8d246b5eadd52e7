use Rattle.std.proofs.Common.{◌≡◌, ◌+◌, ◌≤◌, List, length, map, arith, refl, sym, ap, subst}
use Rattle.std.specs.Prelude.{Ok}
use Rattle.crash_model.specs.Trace.{origin_at, in_place_patch, trace_of_plan}
use Rattle.crash_model.specs.declared.plans.Change.{Change}
use Rattle.traced_patches.specs.Labels.{group_by, waits_by}
use Rattle.order_modules.specs.Log.{Adds}
use Rattle.order_modules.specs.Tracer.{Trace, Moves, IsOrdered, names_by, trace_of}
use Rattle.order_modules.specs.Transactions.{changes_in_place}
use Rattle.order_modules.proofs.Planning.{trace_kept, not_journaled, moves_in_place, placed_all}
use Rattle.order_modules.proofs.tracer.Tracer.write_in_place.Goals as goal

pub emit_in_place-requires-clause-room : goal.emit_in_place-requires-clause-room
emit_in_place-requires-clause-room g c =
    let i = c.self.inside in
    let order = subst (λ (t : Trace). IsOrdered t.log.kind) (sym c.self.view_is) c.requires.order in
    let all : length (changes_in_place i.log.kind c.as_slice.result.now) ≡ length c.as_slice.result.now =
    ap (λ (xs : List Change). length xs) (placed_all i.log.kind c.as_slice.result.now order) in
    let same : length c.as_slice.result.now ≡ length c.args.plan.now.items =
    ap (λ (xs : List Change). length xs) c.as_slice.ensures.value in
    let room : length i.log.emitted + c.len.result ≤ 124 = c.has_room.ensures.0 c.if-not-has_room.false in
    omega (arith, all, same, room, c.len.ensures.value)

pub invariant_of-self : goal.invariant_of-self
invariant_of-self g c = trace_kept _ _ c.emit_in_place.new.self c.apply.new.image c.args.plan.now.items
    c.self.inside.op_number c.self.inside.next c.self.view_is c.self.invariant c.emit_in_place.ensures.kept
    c.requires.inside c.apply.ensures.changes
    (omega arith) c.self.invariant.to c.self.invariant.counted

pub invariant_of-self-2 : goal.invariant_of-self-2
invariant_of-self-2 g c =
    let order = subst (λ (t : Trace). IsOrdered t.log.kind) (sym c.self.view_is) c.requires.order in
    trace_kept _ _ c.emit_in_place.new.self c.apply.new.image c.args.plan.now.items (c.self.inside.op_number + 1)
    c.self.inside.next c.self.view_is c.self.invariant c.emit_in_place.ensures.kept c.requires.inside
    c.apply.ensures.changes
    (omega arith) c.self.invariant.to (λ j. absurd (not_journaled c.self.inside.log.kind order j))

pub returns-clause-ok : goal.returns-clause-ok
returns-clause-ok g c =
    let i = c.self.inside in
    let old : Trace = trace_of i.log i.disk i.op_number i.next (group_by i.current) (names_by i.opened.items)
    (names_by i.ended.items) i.forced (waits_by i.waits.items) in
    let cs = c.args.plan.now.items in
    let order = subst (λ (t : Trace). IsOrdered t.log.kind) (sym c.self.view_is) c.requires.order in
    let room : length i.log.emitted + c.len.result ≤ 124 = c.has_room.ensures.0 c.if-not-has_room.false in
    let adds = subst (λ (xs : List Change). Adds i.log c.emit_in_place.new.self
    (map (in_place_patch i.op_number (origin_at c.args.line c.args.op.now (group_by i.current) i.forced))
    (changes_in_place i.log.kind xs))) c.as_slice.ensures.value c.in_ok-emit_in_place.ensures.ok in
    subst (λ (t : Trace). Moves t (trace_of c.emit_in_place.new.self c.apply.new.image (i.op_number + 1) i.next
    (group_by i.current) (names_by i.opened.items) (names_by i.ended.items) i.forced (waits_by i.waits.items))
    (trace_of_plan t.log.kind c.args.line c.args.op.now t.tracing (Ok cs))) c.self.view_is
    (moves_in_place old c.args.line c.args.op.now cs c.emit_in_place.new.self c.apply.new.image
    (i.op_number + 1) i.next refl
    refl refl c.apply.ensures.changes order adds refl refl c.self.invariant.to
    (omega (arith, room, c.len.ensures.value)))
