use Rattle.std.proofs.Common.{◌≡◌, ◌+◌, true, false, ap, sym, ◌∙◌, arith}
use Rattle.crash_model.specs.Disk.{Disk}
use Rattle.crash_model.specs.Layout.{is_data}
use Rattle.fault_deciding.proofs.ListedSoFar.{blocks_start, blocks_same, blocks_more, slot_listed}
use Rattle.fault_deciding.proofs.candidates.by_slot.push_slot.Goals as goal
use Rattle.fault_deciding.proofs.candidates.by_slot.push_slot.Goals.{then-has+in_ok-push_pointer, else-has}

pub loop-before-init : goal.loop-before-init
loop-before-init g c = blocks_start c.args.bytes.now.base c.pointers-values.result.low c.pointers-values.result.high
    c.args.inode c.args.slot c.args.faults.now.items

pub loop-before-preserved : goal.loop-before-preserved
loop-before-preserved g c =
    let low = c.pointers-values.result.low in
    let high = c.pointers-values.result.high in
    let base = c.args.bytes.now.base in
    let n = c.loop-before.before in
    elim c.if-has.branch [
      | then-has+in_ok-push_pointer w ↦ rw w.faults-is (blocks_more base low high c.args.inode c.args.slot n
          c.args.faults.now.items c.loop-before.faults.items w.push_pointer.new.faults.items
          w.in_ok-push_pointer.ensures.kept
          record {
            tame = λ is. w.in_ok-push_pointer.ensures.tame
                (w.is_data.ensures.value ∙ (ap (λ (d : Disk). is_data d (n + 1)) c.base-base.ensures.base ∙ is));
            wild = λ is. w.in_ok-push_pointer.ensures.wild
                (w.is_data.ensures.value ∙ (ap (λ (d : Disk). is_data d (n + 1)) c.base-base.ensures.base ∙ is));
          }
          c.loop-before.invariant)
      | else-has w ↦ rw w.faults-is (blocks_same base low high c.args.inode c.args.slot n c.args.faults.now.items
          c.loop-before.faults.items
          (λ is. let never : true ≡ false = sym (c.has.ensures.1 is) ∙ w.if-has.false in absurd (cc))
          c.loop-before.invariant)
    ]

pub returns-clause-slot : goal.returns-clause-slot
returns-clause-slot g c = slot_listed c.args.bytes.now c.pointers-values.result.low c.pointers-values.result.high
    c.args.inode c.args.slot c.loop-before.before c.args.faults.now.items c.loop-before.faults.items
    c.base-base.ensures.alike
    (λ value is. let most = c.last_byte-before-end.ensures value is in omega (arith, most, c.loop-before-test.false))
    c.pointers-values.ensures c.loop-before.invariant
