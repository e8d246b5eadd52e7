use Rattle.std.proofs.Common.{ℕ, arith, Option, subst, sym}
use Rattle.fault_deciding.specs.Listed.{HasStrictUnder}
use Rattle.fault_deciding.proofs.ListedSoFar.{strict_next}
use Rattle.fault_deciding.proofs.candidates.by_inode.push_strict.Goals as goal

pub loop-inode-preserved : goal.loop-inode-preserved
loop-inode-preserved g c = strict_next c.in-Some.kept c.loop-inode.inode c.args.faults.now.items
    c.loop-inode.faults.items c.push_kept.new.faults.items c.in_ok-push_kept.ensures.kept
    c.in_ok-push_kept.ensures.strict c.loop-inode.invariant

pub returns-clause-strict : goal.returns-clause-strict
returns-clause-strict g c = subst (λ (kept : Option ℕ). HasStrictUnder kept c.loop-inode.faults.items)
    (sym c.in-Some.is)
    (λ inode less. c.loop-inode.invariant.each inode (omega arith))
