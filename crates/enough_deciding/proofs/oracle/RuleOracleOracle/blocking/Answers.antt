use Rattle.fault_deciding.proofs.Firsts.{some_fault}
use Rattle.question_model.specs.Enough.{rules_in}
use Rattle.chosen_rules.specs.Sublists.{all_of}
use Rattle.chosen_rules.proofs.Oracles.{all_places, group_found}
use Rattle.std.proofs.Common.{subst}
use Rattle.enough_deciding.specs.Rules.{IsFirstBy, tracing_of}
use Rattle.enough_deciding.proofs.oracle.RuleOracleOracle.blocking.Goals as goal

pub returns-in-None : goal.returns-in-None
returns-in-None g c =
    let demands = c.args.self.now.demands.now in
    let base = c.args.self.now.base.now in
    let t = c.args.self.now.traced.now in
    let it = subst (IsFirstBy demands base t (rules_in t.rules c.args.set)) c.in-None.is
    c.in_ok-first_fault.ensures in (
      it.0,
      it.1,
      λ crash failing.
          let fault = some_fault demands (record { base = base; patches = it.0 }) crash failing in
          it.2 fault.0 crash fault.1,
    )

pub returns-in-Some : goal.returns-in-Some
returns-in-Some g c =
    let demands = c.args.self.now.demands.now in
    let base = c.args.self.now.base.now in
    let t = c.args.self.now.traced.now in
    let it = subst (IsFirstBy demands base t (rules_in t.rules c.args.set)) c.in-Some.is c.in_ok-first_fault.ensures in
    group_found demands base (tracing_of base t) t.rules (all_of t.rules) (all_places t.rules) c.args.set
    c.excluding_rules.result it.0 it.1 c.in-Some.decided.first it.2.first.among.failing c.excluding_rules.ensures
