use Rattle.std.proofs.Common.{◌≡◌, ℕ, ◌+◌, ◌-◌, ◌<◌, ◌≤◌, arith, subst}
use Rattle.std.specs.List.{Contains}
use Rattle.crash_model.specs.declared.fault.Fault.TheVariants.{LowLinks}
use Rattle.fault_deciding.proofs.ListedSoFar.{below_next}
use Rattle.fault_deciding.proofs.candidates.by_inode.push_above.Goals as goal

pub loop-fewer-preserved : goal.loop-fewer-preserved
loop-fewer-preserved g c = below_next (λ fewer. c.args.links ≤ fewer)
    (λ fewer. LowLinks c.args.inode (fewer + 1) c.args.links) c.loop-fewer.fewer c.args.faults.now.items
    c.loop-fewer.faults.items c.push.new.self.items c.in_ok-push.ensures.items c.loop-fewer.invariant

pub returns-clause-above : goal.returns-clause-above
returns-clause-above g c entries above few =
    let next : entries - 1 + 1 ≡ entries = omega arith in
    let less : entries - 1 < c.loop-fewer.fewer = omega arith in
    subst (λ (n : ℕ). Contains c.loop-fewer.faults.items (LowLinks c.args.inode n c.args.links)) next
    (c.loop-fewer.invariant.each (entries - 1) less (omega arith))
