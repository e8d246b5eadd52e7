use Rattle.std.proofs.Common.{rules, arith, refl, sym, subst, ap, ◌∙◌}
use Rattle.seen_board.specs.Known.{Known}
use Rattle.seen_board.specs.Clauses.{SeesOn}
use Rattle.seen_board.specs.Ended.{claims_made}
use Rattle.explorers.specs.Ready.{Counts}
use Rattle.explorers.proofs.Counting.{given_up_made}
use Rattle.explorers.proofs.exploration.Exploration.visit.Goals as goal

pub returns-in-Ok-clause-sees : goal.returns-in-Ok-clause-sees
returns-in-Ok-clause-sees g c = subst (λ (s : Known). SeesOn s.seen c.expand.new.mine.seat.seen)
    (c.at-word.ensures.same ∙ c.claim.ensures.yes (search rules)) c.expand.ensures.sees

pub returns-in-Err-clause-sees : goal.returns-in-Err-clause-sees
returns-in-Err-clause-sees g c = rw c.stop.ensures (subst (λ (s : Known). SeesOn s.seen c.expand.new.mine.seat.seen)
    (c.at-word.ensures.same ∙ c.claim.ensures.yes (search rules)) c.expand.ensures.sees)

pub returns-in-Ok-clause-ready : goal.returns-in-Ok-clause-ready
returns-in-Ok-clause-ready g c =
    record { free = c.expand.ensures.free; unclaimed = c.in-Ok.ensures.ended; counted = c.expand.ensures.counted }

pub expand-requires-clause-free : goal.expand-requires-clause-free
expand-requires-clause-free g c =
    let free = c.requires.ready.free in
    rw (c.at-word.ensures.same ∙ c.claim.ensures.yes (search rules))
    (record { explored = free.explored; of = free.of; free = free.free; own = free.own; recent = free.recent })

pub returns-in-Err-clause-ready : goal.returns-in-Err-clause-ready
returns-in-Err-clause-ready g c =
    let free = c.expand.ensures.free in
    rw c.stop.ensures (record {
      free = record { explored = free.explored; of = free.of; free = free.free; own = free.own; recent = free.recent };
      unclaimed = refl;
      counted = subst (Counts c.expand.new.mine.expanded) (sym (given_up_made c.expand.new.mine.seat))
          c.expand.ensures.counted;
    })

pub expand-requires-clause-counted : goal.expand-requires-clause-counted
expand-requires-clause-counted g c =
    let ready = c.requires.ready in
    rw (c.at-word.ensures.same ∙ c.claim.ensures.yes (search rules)) (λ fits.
    omega (arith, ready.counted (omega (arith, fits, ready.unclaimed)), ready.unclaimed))

pub returns-in-Ok-clause-one : goal.returns-in-Ok-clause-one
returns-in-Ok-clause-one g c = omega (
  arith,
  c.expand.ensures.keeps.claims,
  ap claims_made (c.at-word.ensures.same ∙ c.claim.ensures.yes (search rules)),
  c.requires.ready.unclaimed,
)

pub returns-in-Ok-clause-share : goal.returns-in-Ok-clause-share
returns-in-Ok-clause-share g c = c.expand.ensures.keeps.share
    ∙ ap (λ (s : Known). s.share) (c.at-word.ensures.same ∙ c.claim.ensures.yes (search rules))

pub returns-in-Err-clause-one : goal.returns-in-Err-clause-one
returns-in-Err-clause-one g c = omega (
  arith,
  ap claims_made c.stop.ensures,
  given_up_made c.expand.new.mine.seat,
  c.expand.ensures.keeps.claims,
  ap claims_made (c.at-word.ensures.same ∙ c.claim.ensures.yes (search rules)),
  c.requires.ready.unclaimed,
)

pub returns-in-Err-clause-share : goal.returns-in-Err-clause-share
returns-in-Err-clause-share g c = ap (λ (s : Known). s.share) c.stop.ensures ∙ c.expand.ensures.keeps.share
    ∙ ap (λ (s : Known). s.share) (c.at-word.ensures.same ∙ c.claim.ensures.yes (search rules))
