use Rattle.std.proofs.Common.{◌≡◌, ◌+◌, ◌*◌, true, false, ap, sym, subst, ◌∙◌}
use Rattle.crash_model.specs.Disk.{Disk}
use Rattle.crash_model.specs.Layout.{is_data}
use Rattle.fault_deciding.proofs.Found.{AreGathered, gathered_same, gathered_more}
use Rattle.fault_deciding.proofs.candidates.entries.Goals as goal
use Rattle.fault_deciding.proofs.candidates.entries.Goals.{then-is_data+then-has, else-is_data}
use Rattle.fault_deciding.proofs.candidates.entries.Goals.{else-is_data-via-then-is_data+else-has}
use Rattle.fault_deciding.proofs.candidates.entries.Goals.{else-is_data-via-else-is_data}

pub loop-block-preserved : goal.loop-block-preserved
loop-block-preserved g c =
    let f = c.args.bytes.now in
    let blocks = c.pointers-blocks.result in
    let b = c.loop-block.block in
    let k = c.args.k in
    let old = c.loop-block.values in
    elim c.if-is_data.branch [
      | then-is_data+then-has w ↦
          let new = w.union-values.result in
          subst (λ v. AreGathered f blocks.low blocks.high (b + 1) (8 + 12 * k) v.low v.high) (sym w.values-is)
          (gathered_more f blocks.low blocks.high b (8 + 12 * k) old.low old.high new.low new.high w.from.result
          w.from-then-has.result w.from.ensures (w.from-then-has.ensures ∙ w.entry_offset.ensures)
          w.union-values.ensures.first (λ set m. w.union-values.ensures.second _ (w.possible.ensures.replayed set m))
          c.loop-block.invariant)
      | else-is_data w ↦
          subst (λ v. AreGathered f blocks.low blocks.high (b + 1) (8 + 12 * k) v.low v.high) (sym w.values-is)
          (gathered_same f blocks.low blocks.high b (8 + 12 * k) old.low old.high
          (λ is has. elim w.else-is_data.branch [
            | else-is_data-via-then-is_data+else-has u ↦
                let never : true ≡ false = sym (u.has.ensures.1 has) ∙ u.if-has.false in absurd (cc)
            | else-is_data-via-else-is_data u ↦
                let never : true ≡ false = sym is ∙ ap (λ (d : Disk). is_data d b)
                (sym c.base-in-loop-block.ensures.base)
                ∙ sym c.is_data.ensures.value ∙ u.if-is_data.false in absurd (cc)
          ]) c.loop-block.invariant)
    ]
