use Rattle.order_modules.proofs.tracer.Tracer.step.Goals as goal

pub returns-in-Spare-clause-refused : goal.returns-in-Spare-clause-refused
returns-in-Spare-clause-refused g c = rw c.in-Spare.is c.stand_in.ensures.refused
