use Rattle.std.proofs.Common.{subst, sym}
use Rattle.crash_model.specs.Checker.{Demands}
use Rattle.crash_model.specs.FirstSets.{HasFault}
use Rattle.fault_deciding.specs.Asked.{IsFirstFault}
use Rattle.chosen_rules.proofs.LineOracles.{lines_found}
use Rattle.chosen_rules.proofs.Prevented.{some_fault}
use Rattle.enough_deciding.specs.Lines.{waits_of}
use Rattle.enough_deciding.proofs.WaitingLines.{one_waiting}
use Rattle.enough_deciding.proofs.lines.LineOracle.excluding.Goals as goal

pub returns-in-None : goal.returns-in-None
returns-in-None g c =
    let base = c.args.self.now.base.now in
    let t = c.args.self.now.traced.now in
    let script = c.in_ok-script.script in
    let is = c.in_ok-script.ensures in
    let none = subst (IsFirstFault (HasFault script.demands base script.graph)) c.in-None.is
    c.in_ok-first_fault.ensures in (
      script.graph,
      is.graph (waits_of base t) (one_waiting base t),
      λ crash failing.
          let fault = some_fault _ base script.graph crash failing in
          none fault.0 crash
          (subst (λ (d : Demands). HasFault d base script.graph fault.0 crash) (sym is.demands) fault.1),
    )

pub returns : goal.returns
returns g c =
    let base = c.args.self.now.base.now in
    let t = c.args.self.now.traced.now in
    let script = c.in_ok-script.script in
    let is = c.in_ok-script.ensures in
    let found = c.in-Some.found in
    let first = subst (IsFirstFault (HasFault script.demands base script.graph)) c.in-Some.is
    c.in_ok-first_fault.ensures in
    lines_found c.args.self.now.demands.now base t.rules (waits_of base t) c.args.set c.excluding_lines.result
    script.graph (is.graph (waits_of base t) (one_waiting base t)) found.fault found.first
    (subst (λ (d : Demands). HasFault d base script.graph found.fault found.first) is.demands first.first.among)
    c.excluding_lines.ensures
