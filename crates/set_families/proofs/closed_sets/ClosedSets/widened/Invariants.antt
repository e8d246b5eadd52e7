use Rattle.set_families.proofs.Links.{IsWidening}
use Rattle.set_families.proofs.closed_sets.ClosedSets.widened.Given as goal

abbrev pub invariant-loop-id : goal.invariant-loop-id
invariant-loop-id l = record { so_far : IsWidening l.self.deps.now l.undecided l.part l.id l.wider }
