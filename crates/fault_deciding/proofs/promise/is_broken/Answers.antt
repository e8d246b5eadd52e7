use Rattle.std.proofs.Common.{◌∙◌}
use Rattle.fault_deciding.specs.OfSets.{is_excused}
use Rattle.fault_deciding.proofs.Promised.{broken_after, not_broken}
use Rattle.fault_deciding.proofs.promise.is_broken.Goals as goal

pub returns-then-has_ids : goal.returns-then-has_ids
returns-then-has_ids g c =
    let f = c.args.bytes in
    let promise = c.args.promise.now in
    broken_after f promise c.negation.result (λ set m. c.in_ok-has_ids.ensures set m ∙ c.if-has_ids.true)
    (c.negation.ensures f (is_excused promise) c.is_excused.ensures)

pub returns-else-has_ids : goal.returns-else-has_ids
returns-else-has_ids g c = not_broken c.args.bytes c.args.promise.now
    (λ set m. c.in_ok-has_ids.ensures set m ∙ c.if-has_ids.false)
