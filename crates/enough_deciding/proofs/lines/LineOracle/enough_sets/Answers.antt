use Rattle.hitting_sets.proofs.Twice.{in_order_alike}
use Rattle.question_model.specs.EnoughLines.{all_waits, AreEnoughLines, IsMinimalLines, IsNeededLines}
use Rattle.enough_rules.specs.Enough.{IsMinimalEnough, IsNeeded}
use Rattle.chosen_rules.proofs.LineOracles.{more_lines_are_enough, minimal_lines, needed_lines}
use Rattle.enough_deciding.specs.Lines.{waits_of}
use Rattle.enough_deciding.proofs.WaitingLines.{one_waiting, minimal_in_each, needed_in_each}
use Rattle.enough_deciding.proofs.lines.LineOracle.enough_sets.Goals as goal

pub enough_sets-requires : goal.enough_sets-requires
enough_sets-requires g c =
    let base = c.args.self.now.base.now in
    let t = c.args.self.now.traced.now in
    more_lines_are_enough c.args.self.now.demands.now base t.rules (waits_of base t)

pub returns-clause-enough : goal.returns-clause-enough
returns-clause-enough g c = λ last of_trace.
    let demands = c.args.self.now.demands.now in
    let base = c.args.self.now.base.now in
    let t = c.args.self.now.traced.now in
    let s = waits_of base t in
    let sets = c.in_ok-found.found.enough.items in
    in_order_alike (IsMinimalLines demands base t.rules s) (IsMinimalLines demands base t.rules last) sets
    (minimal_in_each demands base t t.rules s last (one_waiting base t) of_trace)
    (in_order_alike (IsMinimalEnough (all_waits t.waits) (AreEnoughLines demands base t.rules s))
    (IsMinimalLines demands base t.rules s) sets (minimal_lines demands base t.rules s) c.in_ok-found.ensures.minimal)

pub returns-clause-needed : goal.returns-clause-needed
returns-clause-needed g c = λ last of_trace.
    let demands = c.args.self.now.demands.now in
    let base = c.args.self.now.base.now in
    let t = c.args.self.now.traced.now in
    let s = waits_of base t in
    let groups = c.in_ok-found.found.needed.items in
    in_order_alike (IsNeededLines demands base t.rules s) (IsNeededLines demands base t.rules last) groups
    (needed_in_each demands base t t.rules s last (one_waiting base t) of_trace)
    (in_order_alike (IsNeeded (all_waits t.waits) (AreEnoughLines demands base t.rules s))
    (IsNeededLines demands base t.rules s) groups (needed_lines demands base t.rules s) c.in_ok-found.ensures.needed)
