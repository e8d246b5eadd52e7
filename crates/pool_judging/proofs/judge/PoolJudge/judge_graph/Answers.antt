use Rattle.std.proofs.Common.{◌≡◌, ◌≢◌, arith, sym, subst, ◌∙◌, vec_len}
use Rattle.std.proofs.lemmas.Bool.{eqb-true, eqb-false}
use Rattle.crash_model.specs.FirstSets.{HasFault}
use Rattle.question_model.specs.Decided.{AreDecided}
use Rattle.pool_judging.proofs.Deciding.{none_fails_without, some_fails_with}
use Rattle.pool_judging.proofs.judge.PoolJudge.judge_graph.Goals as goal

pub returns-then-is_empty : goal.returns-then-is_empty
returns-then-is_empty g c =
    let faults = c.in_ok-faults.faults in
    let none : vec_len faults ≡ 0 = eqb-true (vec_len faults) 0 (sym c.is_empty.ensures ∙ c.if-is_empty.true) in
    none_fails_without c.args.demands.now c.args.self.now.base.now c.args.graph.now faults.items c.in_ok-faults.ensures
    (omega (arith, none, faults.ok.0))

pub returns : goal.returns
returns g c =
    let faults = c.in_ok-faults.faults in
    let demands = c.args.demands.now in
    let base = c.args.self.now.base.now in
    let patches = c.args.graph.now in
    let some : vec_len faults ≢ 0 = eqb-false (vec_len faults) 0 (sym c.is_empty.ensures ∙ c.if-is_empty.false) in (
      some_fails_with demands base patches faults.items c.in_ok-faults.ensures (omega (arith, some, faults.ok.0)),
      c.firsts.ensures demands base patches
          (subst (AreDecided (HasFault demands base patches)) (sym c.deref.ensures.value) c.in_ok-faults.ensures),
    )
