use Rattle.std.proofs.Common.{◌≡◌, ◌+◌, true, false, sym, ◌∙◌, arith}
use Rattle.crash_model.specs.declared.fault.Fault.TheVariants.{Dangling}
use Rattle.known_bytes.specs.Family.{HasValue}
use Rattle.fault_deciding.proofs.ListedSoFar.{below_same, below_next}
use Rattle.fault_deciding.proofs.candidates.by_entry.push_dangling.Goals as goal
use Rattle.fault_deciding.proofs.candidates.by_entry.push_dangling.Goals.{then-has+in_ok-push, else-has}

pub loop-inode-preserved : goal.loop-inode-preserved
loop-inode-preserved g c =
    let low = c.args.values.low in
    let high = c.args.values.high in
    let n = c.loop-inode.inode in
    elim c.if-has.branch [
      | then-has+in_ok-push w ↦ rw w.faults-is (below_next (λ i. HasValue low high (i + 1))
          (λ i. Dangling c.args.dir c.args.k i) n c.args.faults.now.items c.loop-inode.faults.items
          w.push.new.self.items w.in_ok-push.ensures.items c.loop-inode.invariant)
      | else-has w ↦ rw w.faults-is (below_same (λ i. HasValue low high (i + 1)) (λ i. Dangling c.args.dir c.args.k i) n
          c.args.faults.now.items c.loop-inode.faults.items
          (λ is. let never : true ≡ false = sym (c.has.ensures.1 is) ∙ w.if-has.false in absurd (cc))
          c.loop-inode.invariant)
    ]

pub returns-clause-dangling : goal.returns-clause-dangling
returns-clause-dangling g c = λ inode small here.
    let most = c.last_byte-inode-end.ensures (inode + 1) here in
    c.loop-inode.invariant.each inode (omega (arith, most, c.loop-inode-test.false)) here
