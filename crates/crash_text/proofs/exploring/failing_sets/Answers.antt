use Rattle.std.proofs.Common.{◌≡◌, Err, List, arith, ap, refl, subst, ◌∙◌}
use Rattle.patch_sets.specs.Sets.{AreAllInOrder}
use Rattle.crash_model.specs.Patches.{CountsClosed, ExceedsLimit}
use Rattle.crash_model.specs.Checker.{IsFailingUnder}
use Rattle.crash_model.specs.declared.patches.Patch.{Patch}
use Rattle.crash_text.proofs.FoundSets.{some_closed, past_limit, refused_otherwise}
use Rattle.crash_text.proofs.exploring.failing_sets.Goals as goal

pub explore-exploring-requires-clause-limit : goal.explore-exploring-requires-clause-limit
explore-exploring-requires-clause-limit g c = λ _ _.
    let some = some_closed c.graph-graph.result.now c.closed_number-number.result c.closed_number-number.ensures in (
      omega (arith, some, c.prime_at_least-room.ensures.enough),
      omega (arith, c.prime_at_least-room.ensures.within, c.requires.limit.1),
    )

pub returns-then-number-limit-clause-too_many : goal.returns-then-number-limit-clause-too_many
returns-then-number-limit-clause-too_many g c = λ _. (
  refl,
  subst (λ patches. ExceedsLimit patches c.args.limit) c.graph-graph.ensures
      (past_limit c.graph-graph.result.now c.closed_number-number.result c.closed_number-number.ensures c.args.limit
      (omega (arith, c.if-number-limit.true))),
)

pub returns-in_err-found-clause-too_many : goal.returns-in_err-found-clause-too_many
returns-in_err-found-clause-too_many g c =
    let same = c.graph-graph.ensures in
    let number = c.closed_number-number.result in
    let room = c.prime_at_least-room.result in
    refused_otherwise c.args.script.now.traced.patches number
    (subst (λ (patches : List Patch). CountsClosed patches number) same c.closed_number-number.ensures) c.args.limit
    room
    c.in_err-found.field-0.0 c.from_residual.result (omega (arith, c.prime_at_least-room.ensures.enough))
    c.from_residual.ensures.1
    (λ is. subst (λ (patches : List Patch). ExceedsLimit patches room) same
    (subst (λ s. ExceedsLimit s.patches room) c.new-space.ensures
    (c.exploring_finds_the_failing_sets.ensures.too_many room
    (c.explore-exploring.ensures.too_many (c.in_err-found.was ∙ ap Err is)))))

pub returns-clause-total : goal.returns-clause-total
returns-clause-total g c =
    subst (λ (patches : List Patch). CountsClosed patches c.in_ok-found.found.total) c.graph-graph.ensures
    (subst (λ s. CountsClosed s.patches c.in_ok-found.found.total) c.new-space.ensures
    (c.exploring_finds_the_failing_sets.ensures.total c.in_ok-found.found.total
    (rw c.in_ok-found.was at c.explore-exploring.ensures.found).total))

pub returns-clause-failing : goal.returns-clause-failing
returns-clause-failing g c =
    let script = c.args.script.now in
    let broken = c.in_ok-found.found.broken.items in
    subst (λ (patches : List Patch). AreAllInOrder (IsFailingUnder script.demands script.base.now patches) broken)
    c.graph-graph.ensures
    (subst (λ s. AreAllInOrder (IsFailingUnder s.demands s.base s.patches) broken) c.new-space.ensures
    (c.exploring_finds_the_failing_sets.ensures.failing broken
    (rw c.in_ok-found.was at c.explore-exploring.ensures.found).broken))
