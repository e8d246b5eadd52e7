use Rattle.std.proofs.Common.{◌+◌, [], ◌∷◌, get_or, refl, arith, subst}
use Rattle.crash_model.specs.Patches.{place}
use Rattle.traced_patches.specs.Labels.{emitted_at, origin_by}
use Rattle.traced_patches.specs.declared.labels.Label.{Label}
use Rattle.order_modules.specs.Log.{Adds}
use Rattle.order_modules.proofs.Adding.{copies_space, copies_next}
use Rattle.order_modules.proofs.log.PatchLog.emit_copies.Goals as goal

pub emit-requires-clause-room : goal.emit-requires-clause-room
emit-requires-clause-room g c =
    let transaction = c.args.transaction in
    copies_space c.args.self.now c.loop-target.self c.args.after.now transaction.op_number (transaction.header + 1)
    (origin_by transaction.origin) c.args.targets.now c.loop-target.target-index c.loop-target.invariant.adds
    c.loop-target-test.true c.requires.room

pub loop-target-preserved : goal.loop-target-preserved
loop-target-preserved g c = let transaction = c.args.transaction in record {
  block = omega (arith, c.loop-target.invariant.block);
  adds = copies_next c.args.self.now c.loop-target.self c.args.after.now transaction.op_number (transaction.header + 1)
      (origin_by transaction.origin) c.args.targets.now c.loop-target.target-index c.loop-target.invariant.adds
      c.emit.new.self c.loop-target.block (get_or c.args.targets.now c.loop-target.target-index 0) c.from.result
      c.block.result.now c.loop-target-test.true c.loop-target.invariant.block c.from.ensures refl
      c.block.ensures.bytes
      (subst (λ (label : Label). Adds c.loop-target.self c.emit.new.self
      (emitted_at (place c.loop-target.block 0 c.block.result.now) label ∷ [])) c.label-label.ensures
      c.in_ok-emit.ensures.ok);
}
