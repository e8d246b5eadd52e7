use Rattle.std.proofs.Common.{rules, take, ◌+◌, sym, subst}
use Rattle.crash_model.specs.declared.fault.Fault.TheVariants.{Dangling}
use Rattle.question_model.specs.declared.decided_fault.DecidedFault.{DecidedFault}
use Rattle.pool_judging.specs.Firsts.{IsLeastOfKind}
use Rattle.pool_judging.proofs.Least.{least_more, least_other}
use Rattle.pool_judging.proofs.firsts.first_of.Goals as goal
use Rattle.pool_judging.proofs.firsts.first_of.Goals.{then-eq, else-eq}

pub loop-decided-preserved : goal.loop-decided-preserved
loop-decided-preserved c =
    let faults = c.args.faults.now in
    let kind = c.args.kind in
    let i = c.loop-decided.decided-index in
    let d : DecidedFault = record { fault = Dangling 0 0 0; first = 0 } in
    let within = c.loop-decided-test.true in
    elim c.if-eq.branch [
      | then-eq w ↦ subst (IsLeastOfKind kind (take (i + 1) faults)) (sym w.least-is)
          (least_more kind faults i d within c.loop-decided.least w.earlier.result (search rules)
          c.loop-decided.invariant
          w.earlier.ensures.one w.earlier.ensures.set w.earlier.ensures.least)
      | else-eq w ↦ subst (IsLeastOfKind kind (take (i + 1) faults)) (sym w.least-is)
          (least_other kind faults i d within c.loop-decided.least (search rules) c.loop-decided.invariant)
    ]
