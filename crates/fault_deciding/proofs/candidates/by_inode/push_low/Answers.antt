use Rattle.std.proofs.Common.{◌≡◌, true, false, sym, ◌∙◌, arith}
use Rattle.fault_deciding.proofs.ListedSoFar.{low_same, low_next, low_listed}
use Rattle.fault_deciding.proofs.candidates.by_inode.push_low.Goals as goal
use Rattle.fault_deciding.proofs.candidates.by_inode.push_low.Goals.{then-has+in_ok-push_above, else-has}

pub loop-links-preserved : goal.loop-links-preserved
loop-links-preserved g c =
    let low = c.link_counts-values.result.low in
    let high = c.link_counts-values.result.high in
    elim c.if-has.branch [
      | then-has+in_ok-push_above w ↦ rw w.faults-is (low_next low high c.args.inode c.args.most c.loop-links.links
          c.args.faults.now.items c.loop-links.faults.items w.push_above.new.faults.items
          w.in_ok-push_above.ensures.kept
          w.in_ok-push_above.ensures.above c.loop-links.invariant)
      | else-has w ↦ rw w.faults-is (low_same low high c.args.inode c.args.most c.loop-links.links
          c.args.faults.now.items c.loop-links.faults.items
          (λ is. let never : true ≡ false = sym (c.has.ensures.1 is) ∙ w.if-has.false in absurd (cc))
          c.loop-links.invariant)
    ]

pub returns-clause-low : goal.returns-clause-low
returns-clause-low g c = low_listed c.args.bytes.now c.link_counts-values.result.low c.link_counts-values.result.high
    c.args.inode c.args.most c.loop-links.links c.args.faults.now.items c.loop-links.faults.items (omega arith)
    c.link_counts-values.ensures c.loop-links.invariant
