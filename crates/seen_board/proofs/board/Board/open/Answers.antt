use Rattle.std.proofs.Common.{refl, arith, ap, ◌≡◌, ◌∙◌, ◌%◌, ℕ, replicate}
use Rattle.board_rule.specs.Changes.{opening_words}
use Rattle.board_rule.specs.Layout.{slot}
use Rattle.board_rule.proofs.Opens.{opens}
use Rattle.seen_board.proofs.AfterOpening.{opening_counts, opening_is, opening_fixed}
use Rattle.seen_board.proofs.board.Board.open.Goals as goal

pub of_words-requires : goal.of_words-requires
of_words-requires g c = let start = c.start-start.result in let places = c.args.limit in
    let h : start ≡ g.S.Space.initial c.args.space.now = c.start-start.ensures in let probe = c.probe-shard in
    let q : probe.result.shard ≡ start % 13 = omega (arith, probe.ensures.probe.0, probe.ensures.word) in
    let first : probe.result.first ≡ slot places start 0 = probe.ensures.probe.1
    ∙ ap (λ (n : ℕ). slot places n 0) probe.ensures.word in
    let items : c.as_slice.result.now ≡ opening_words places start = c.as_slice.ensures.value
    ∙ opening_is places start _ _ _ _ _ _ _ (c.in_ok-words.ensures.items_if_clones_equal (λ y e. e)
    ∙ ap (λ (n : ℕ). replicate n 0) c.size.ensures)
    (omega (arith, q, c.length.ensures)) (omega (arith, q, c.low.ensures)) (omega (arith, q, c.high.ensures))
    (omega (arith, q, c.mark.ensures, first)) c.halves_of-low.ensures.low c.halves_of-low.ensures.high in
    rw items (rw c.of.ensures (rw h (opens _ _ _ c.requires.positive)))

pub invariant_of-result : goal.invariant_of-result
invariant_of-result g c = let h = c.start-start.ensures in let is = c.in_ok-table.ensures.4 in
    let q : c.probe-shard.result.shard ≡ c.start-start.result % 13 =
    omega (arith, c.probe-shard.ensures.probe.0, c.probe-shard.ensures.word) in
    rw is (rw c.of.ensures (rw (← h) (
      (
        refl,
        c.requires.positive,
        record { low = refl; high = refl; unfiled = refl; announced = refl; owed = refl; uncounted = refl },
      ),
      rw q (opening_counts c.args.limit c.start-start.result c.requires.positive c.requires.small),
    )))

pub returns-clause-opening : goal.returns-clause-opening
returns-clause-opening g c = let h = c.start-start.ensures in let is = c.in_ok-table.ensures.4 in
    rw is (rw c.of.ensures (rw (← h) (refl, λ e a. opening_fixed _ _ _ _ e a)))
