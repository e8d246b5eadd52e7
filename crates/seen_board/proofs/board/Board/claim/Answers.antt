use Rattle.std.proofs.Common.{rules, ◌≡◌}
use Rattle.board_rule.proofs.LifeSteps.{claims_it}
use Rattle.seen_board.proofs.AfterClaims.{claim_ok}
use Rattle.seen_board.proofs.board.Board.claim.Goals as goal

pub compare_exchange-requires : goal.compare_exchange-requires
compare_exchange-requires g c = (
  search rules,
  search rules,
  claims_it _ _ _ _ _ _ _ c.args.place.shard c.args.place.at (search rules) c.requires.seen.0 (search rules)
      (search rules) (search rules),
)

pub invariant_of-seat : goal.invariant_of-seat
invariant_of-seat g c = claim_ok c.seat.inside.counts c.compare_exchange.result (_) c.compare_exchange.ensures.2.0
    (c.compare_exchange.ensures.2.1 c.args.place.shard c.args.place.at (search rules) c.requires.seen.0)
    c.seat.invariant

pub returns-clause-once : goal.returns-clause-once
returns-clause-once g c = λ yes gave. let hit : c.compare_exchange.result ≡ 0 = search rules in
    ((c.compare_exchange.ensures.2.1 c.args.place.shard c.args.place.at (search rules) c.requires.seen.0).0 hit).1
    (rw (← c.seat.view_is) at gave)
