use Rattle.std.proofs.Common.{◌≡◌, ◌+◌, ◌<◌, ◌≤◌, length, arith, refl, sym, ap, subst, ◌∙◌}
use Rattle.std.specs.Prelude.{Ok}
use Rattle.crash_model.specs.Trace.{origin_at, trace_of_plan}
use Rattle.traced_patches.specs.Labels.{group_by, waits_by}
use Rattle.order_modules.specs.Tracer.{Trace, Moves, IsJournaled, names_by, trace_of}
use Rattle.order_modules.specs.Transactions.{targets_of}
use Rattle.order_modules.proofs.Planning.{trace_kept, moves_journaled, refused_full, refused_many, past_room}
use Rattle.order_modules.proofs.Planning.{transaction_read, known_read}
use Rattle.order_modules.proofs.tracer.Tracer.write_journaled.Goals as goal

pub returns-then-next-journal-clause-refused : goal.returns-then-next-journal-clause-refused
returns-then-next-journal-clause-refused g c = λ _.
    let targets = c.touched_by-targets.result.items in
    refused_full c.args.self.now c.args.line c.args.op.now c.args.plan.now.items targets c.requires.order
    c.touched_by-targets.ensures
    (subst (λ (t : Trace). 4 + t.tracing.disk.journal < t.tracing.journal + (1 + length targets)) c.self.view_is
    (omega (arith, c.if-next-journal.true, c.journal.ensures.value, c.len.ensures.value)))

pub returns-then-not-has_room-clause-refused : goal.returns-then-not-has_room-clause-refused
returns-then-not-has_room-clause-refused g c = λ _.
    let cs = c.args.plan.now.items in
    let targets = c.touched_by-targets.result.items in
    let past = past_room _ c.has_room.result c.has_room.ensures.1 c.if-not-has_room.true in
    let full = subst (λ (t : Trace). (t.tracing.journal + (1 + length targets) ≤ 4 + t.tracing.disk.journal)
    × (124 < length t.tracing.emitted + (length cs + length targets + 2))) c.self.view_is (
      omega (arith, c.if-next-journal.false, c.journal.ensures.value, c.len.ensures.value),
      omega (arith, past, c.len-2.ensures.value, c.len-3.ensures.value),
    ) in
    refused_many c.args.self.now c.args.line c.args.op.now cs targets c.requires.order c.touched_by-targets.ensures
    full.0 full.1

pub emit_transaction-requires-clause-known : goal.emit_transaction-requires-clause-known
emit_transaction-requires-clause-known g c =
    let now = c.args.self.now in
    known_read now.log.kind now.tracing.disk.blocks c.apply.new.image.blocks c.args.plan.now.items
    c.touched_by-targets.result.items c.as_slice.result.now c.touched_by-targets.ensures c.as_slice.ensures.value
    (c.apply.ensures.size.0 ∙ ap (λ (t : Trace). t.tracing.disk.blocks) c.self.view_is)

pub invariant_of-self : goal.invariant_of-self
invariant_of-self g c = trace_kept _ _ c.emit_transaction.new.self c.apply.new.image c.args.plan.now.items
    c.self.inside.op_number c.self.inside.next c.self.view_is c.self.invariant c.emit_transaction.ensures.kept
    c.requires.inside c.apply.ensures.changes
    (omega arith) c.self.invariant.to c.self.invariant.counted

pub invariant_of-self-2 : goal.invariant_of-self-2
invariant_of-self-2 g c = trace_kept _ _ c.emit_transaction.new.self c.apply.new.image c.args.plan.now.items
    (c.self.inside.op_number + 1) (c.self.inside.next + 1 + c.len.result) c.self.view_is c.self.invariant
    c.emit_transaction.ensures.kept c.requires.inside c.apply.ensures.changes
    (omega arith) (omega (arith, c.if-next-journal.false, c.journal.ensures.value))
    (λ j. omega (arith, c.self.invariant.counted j))

pub returns-clause-ok : goal.returns-clause-ok
returns-clause-ok g c =
    let i = c.self.inside in
    let old : Trace = trace_of i.log i.disk i.op_number i.next (group_by i.current) (names_by i.opened.items)
    (names_by i.ended.items) i.forced (waits_by i.waits.items) in
    let cs = c.args.plan.now.items in
    let targets = c.touched_by-targets.result.items in
    let order = subst (λ (t : Trace). IsJournaled t.log.kind) (sym c.self.view_is) c.requires.order in
    let are = subst (λ (t : Trace). targets ≡ targets_of t.log.kind t.tracing.disk.blocks cs) (sym c.self.view_is)
    c.touched_by-targets.ensures in
    let room = c.has_room.ensures.0 c.if-not-has_room.false in
    let adds = transaction_read i.log c.emit_transaction.new.self c.apply.new.image i.op_number i.next
    (origin_at c.args.line c.args.op.now (group_by i.current) i.forced) targets c.as_slice.result.now cs
    c.as_slice-2.result.now c.in_ok-emit_transaction.ensures.ok c.as_slice.ensures.value
    c.as_slice-2.ensures.value in
    subst (λ (t : Trace). Moves t (trace_of c.emit_transaction.new.self c.apply.new.image (i.op_number + 1)
    (i.next + 1 + c.len.result) (group_by i.current) (names_by i.opened.items) (names_by i.ended.items) i.forced
    (waits_by i.waits.items))
    (trace_of_plan t.log.kind c.args.line c.args.op.now t.tracing (Ok cs))) c.self.view_is
    (moves_journaled old c.args.line c.args.op.now cs c.emit_transaction.new.self c.apply.new.image (i.op_number + 1)
    (i.next + 1 + c.len.result) refl refl refl c.apply.ensures.changes targets order are adds refl
    (omega (arith, c.len.ensures.value)) (omega (arith, c.if-next-journal.false, c.journal.ensures.value))
    (omega (arith, room, c.len-2.ensures.value, c.len-3.ensures.value)))
