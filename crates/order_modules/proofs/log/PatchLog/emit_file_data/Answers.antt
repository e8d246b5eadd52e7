use Rattle.std.proofs.Common.{◌≡◌, ◌∙◌, [], ◌∷◌, ℕ, List, true, false, sym, ap, subst, map, take, ◌+◌}
use Rattle.crash_model.specs.declared.rules.Part.{Part}
use Rattle.crash_model.specs.Trace.{part_of}
use Rattle.std.specs.List.{filter}
use Rattle.traced_patches.specs.Labels.{origin_by}
use Rattle.order_modules.specs.Log.{Log, Adds}
use Rattle.order_modules.specs.Transactions.{is_ahead, file_data}
use Rattle.order_modules.proofs.Adding.{ahead_read, adds-same, chosen_space, chosen_next, chosen_skip}
use Rattle.order_modules.proofs.log.PatchLog.emit_file_data.Goals as goal
use Rattle.order_modules.proofs.log.PatchLog.emit_file_data.Goals.{then-is_ahead+in_ok-emit, else-is_ahead}

pub emit-requires-clause-room : goal.emit-requires-clause-room
emit-requires-clause-room g c =
    let x = c.change-item.result in
    let t : is_ahead c.args.self.now.kind x ≡ true = ahead_read c.args.self.now.kind c.loop-change.self.kind
    c.module.result x true c.module.ensures c.loop-change.invariant.kind c.if-is_ahead.ensures in
    chosen_space c.args.self.now c.loop-change.self (is_ahead c.args.self.now.kind)
    (file_data c.args.op_number (origin_by c.args.origin)) c.args.changes.now c.loop-change.change-index x
    c.loop-change-test.true c.change-item.is c.loop-change.invariant (t) c.requires.room

pub loop-change-preserved : goal.loop-change-preserved
loop-change-preserved g c =
    let old = c.args.self.now in let now = c.loop-change.self in let x = c.change-item.result in
    let op_number = c.args.op_number in let origin = origin_by c.args.origin in let i = c.loop-change.change-index in
    let p = is_ahead c.args.self.now.kind in let f = file_data c.args.op_number (origin_by c.args.origin) in
    let next : Log → Type 0 = λ log. Adds old log (map f (filter p (take (i + 1) c.args.changes.now))) in
    let same : is_ahead old.kind x ≡ c.is_ahead.result = ahead_read old.kind now.kind c.module.result x
    c.is_ahead.result c.module.ensures c.loop-change.invariant.kind c.is_ahead.ensures in
    elim c.if-is_ahead.branch [
      | then-is_ahead+in_ok-emit w ↦
          let t : is_ahead old.kind x ≡ true = same ∙ w.if-is_ahead.true in
          let one = adds-same now w.emit.new.self _ (f x ∷ [])
          (ap (λ (new : List ℕ). part_of op_number origin w.data_part.result x.block x.offset new ∷ [])
          w.as_slice.ensures.value ∙ ap (λ (p : Part). part_of op_number origin p x.block x.offset x.new.items ∷ [])
          w.data_part.ensures) w.in_ok-emit.ensures.ok in
          subst next (sym w.self-is) (chosen_next old now p f c.args.changes.now i x c.loop-change-test.true
          c.change-item.is c.loop-change.invariant w.emit.new.self (t) one)
      | else-is_ahead w ↦
          let t : is_ahead old.kind x ≡ false = same ∙ w.if-is_ahead.false in
          subst next (sym w.self-is) (chosen_skip old now p f c.args.changes.now i x c.loop-change-test.true
          c.change-item.is c.loop-change.invariant (t))
    ]
