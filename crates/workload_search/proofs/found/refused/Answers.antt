use Rattle.std.proofs.Common.{arith, refl, subst, sym, slice_index}
use Rattle.question_model.specs.declared.found.RefusedCount.{RefusedCount}
use Rattle.workload_search.proofs.Reporting.{AreListedReasonsBelow, no_reasons, reason_pushed, reason_passed}
use Rattle.workload_search.proofs.Reporting.{all_reasons}
use Rattle.workload_search.proofs.found.refused.Goals as goal
use Rattle.workload_search.proofs.found.refused.Goals.{then-counts-i-gt0, else-counts-i-gt0}

pub loop-i-init : goal.loop-i-init
loop-i-init c = subst (AreListedReasonsBelow c.args.counts.now 0) (sym c.new-refused.ensures)
    (no_reasons c.args.counts.now)

pub loop-i-preserved : goal.loop-i-preserved
loop-i-preserved c =
    let counts = c.args.counts.now in
    let i = c.loop-i.i in
    elim c.if-counts-i-gt0.branch [
      | then-counts-i-gt0 w ↦
          let listed : RefusedCount = record { reason = w.at.result; count = slice_index counts i } in
          rw w.refused-is (rw w.push.ensures.items (reason_pushed counts i c.loop-i.refused.items listed
          c.loop-i.invariant w.at.ensures refl (omega arith)))
      | else-counts-i-gt0 w ↦
          rw w.refused-is (reason_passed counts i c.loop-i.refused.items c.loop-i.invariant (omega arith))
    ]

pub returns : goal.returns
returns c = all_reasons c.args.counts.now c.loop-i.i c.loop-i.refused.items c.loop-i.invariant
    (omega (arith, c.loop-i-test.false))
