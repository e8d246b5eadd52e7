use Rattle.std.proofs.Common.{rules, arith, sym, subst, ◌≡◌, ◌+◌, ◌∙◌, length}
use Rattle.seen_board.specs.Known.{Known}
use Rattle.seen_board.specs.Ended.{claims_made}
use Rattle.seen_board.specs.Clauses.{HasPlace, word_at, SeesOn}
use Rattle.seen_board.proofs.Chains.{sees_on_trans}
use Rattle.seen_board.proofs.Puts.{place_on, successor_on}
use Rattle.explorers.proofs.Counting.{keeps_same, keeps_trans, counts_one}
use Rattle.explorers.proofs.Successors.{expands_next, expands_all}
use Rattle.explorers.proofs.exploration.Exploration.expand.Goals as goal

pub put_in-requires-clause-successor : goal.put_in-requires-clause-successor
put_in-requires-clause-successor g c = let same = c.at-word.ensures.same in
    let word : c.at-word.result ≡ word_at c.at-word.new.seat.seen c.args.place = rw same c.at-word.ensures.word in
    let after = g.S.Space.successors c.args.self.now.space.now in
    let has : HasPlace c.at-word.new.seat.seen c.args.place = rw same c.requires.claim.1 in
    let kept = c.loop-next.invariant in
    let come = c.in-Some.ensures.next kept.k kept.ahead in
    successor_on after c.at-word.new.seat.seen c.args.place kept.k c.in-Some.next c.loop-next.mine.seat
    kept.expands.claim has kept.expands.sees (rw (← word) come.0) (rw (← word) come.1)

pub loop-next-preserved : goal.loop-next-preserved
loop-next-preserved g c = let same = c.at-word.ensures.same in
    let word : c.at-word.result ≡ word_at c.at-word.new.seat.seen c.args.place = rw same c.at-word.ensures.word in
    let kept = c.loop-next.invariant in
    let come = c.in-Some.ensures.next kept.k kept.ahead in
    record {
      expanded = c.put_in.ensures.expanded ∙ kept.expanded;
      keeps = keeps_trans c.at-word.new.seat c.loop-next.mine.seat c.put_in.new.mine.seat kept.keeps
          c.put_in.ensures.keeps;
      free = c.put_in.ensures.free;
      k = kept.k + 1;
      ahead = come.2;
      expands = expands_next c.args.self.now.board.now c.at-word.new.seat.seen c.args.place
          (g.S.Space.successors c.args.self.now.space.now (word_at c.at-word.new.seat.seen c.args.place)) kept.k
          c.in-Some.next c.loop-next.mine.seat c.put_in.new.mine.seat kept.expands (rw (← word) come.1)
          c.put_in.ensures.sees (search rules);
    }

pub judge-requires-clause-claim : goal.judge-requires-clause-claim
judge-requires-clause-claim g c = (
  c.loop-next.invariant.expands.claim,
  (place_on c.at-word.new.seat.seen c.loop-next.mine.seat.seen c.args.place c.loop-next.invariant.expands.sees
      (rw c.at-word.ensures.same c.requires.claim.1)).0,
)

pub judge-requires-clause-word : goal.judge-requires-clause-word
judge-requires-clause-word g c = let same = c.at-word.ensures.same in
    let word : c.at-word.result ≡ word_at c.at-word.new.seat.seen c.args.place = rw same c.at-word.ensures.word in
    word ∙ sym (place_on c.at-word.new.seat.seen c.loop-next.mine.seat.seen c.args.place
    c.loop-next.invariant.expands.sees (rw same c.requires.claim.1)).1

pub judge-requires-clause-successors : goal.judge-requires-clause-successors
judge-requires-clause-successors g c = let same = c.at-word.ensures.same in
    let word : c.at-word.result ≡ word_at c.at-word.new.seat.seen c.args.place = rw same c.at-word.ensures.word in
    rw word (expands_all c.args.self.now.board.now c.at-word.new.seat.seen c.args.place
    (g.S.Space.successors c.args.self.now.space.now (word_at c.at-word.new.seat.seen c.args.place))
    c.loop-next.invariant.k c.loop-next.mine.seat c.loop-next.invariant.expands
    (rw (← word) (omega (arith, c.in_default.ensures.next c.loop-next.invariant.k c.loop-next.invariant.ahead))))

pub returns-in_err-judge-clause-sees : goal.returns-in_err-judge-clause-sees
returns-in_err-judge-clause-sees g c = rw c.judge.ensures.seen
    (subst (λ (s : Known). SeesOn s.seen c.loop-next.mine.seat.seen) c.at-word.ensures.same
    c.loop-next.invariant.expands.sees)

pub returns-clause-sees : goal.returns-clause-sees
returns-clause-sees g c = rw c.judge.ensures.seen (subst (λ (s : Known). SeesOn s.seen c.loop-next.mine.seat.seen)
    c.at-word.ensures.same c.loop-next.invariant.expands.sees)

pub returns-in_err-put_in-clause-sees : goal.returns-in_err-put_in-clause-sees
returns-in_err-put_in-clause-sees g c = subst (λ (s : Known). SeesOn s.seen c.put_in.new.mine.seat.seen)
    c.at-word.ensures.same (sees_on_trans c.at-word.new.seat.seen c.loop-next.mine.seat.seen c.put_in.new.mine.seat.seen
    c.loop-next.invariant.expands.sees c.put_in.ensures.sees)

pub returns-in-Over-clause-sees : goal.returns-in-Over-clause-sees
returns-in-Over-clause-sees g c = subst (λ (s : Known). SeesOn s.seen c.put_in.new.mine.seat.seen)
    c.at-word.ensures.same (sees_on_trans c.at-word.new.seat.seen c.loop-next.mine.seat.seen c.put_in.new.mine.seat.seen
    c.loop-next.invariant.expands.sees c.put_in.ensures.sees)

pub returns-clause-keeps : goal.returns-clause-keeps
returns-clause-keeps g c =
    let begun = keeps_same c.args.mine.now.seat c.at-word.new.seat c.at-word.ensures.same in
    let looped = keeps_trans c.args.mine.now.seat c.at-word.new.seat c.loop-next.mine.seat begun
    c.loop-next.invariant.keeps in
    keeps_trans c.args.mine.now.seat c.loop-next.mine.seat c.judge.new.mine.seat looped c.judge.ensures.keeps

pub returns-clause-counted : goal.returns-clause-counted
returns-clause-counted g c =
    let seat = c.args.mine.now.seat in
    let begun = keeps_same seat c.at-word.new.seat c.at-word.ensures.same in
    let looped = keeps_trans seat c.at-word.new.seat c.loop-next.mine.seat begun c.loop-next.invariant.keeps in
    let kept = keeps_trans seat c.loop-next.mine.seat c.judge.new.mine.seat looped c.judge.ensures.keeps in
    counts_one c.args.mine.now.expanded c.saturating_add-mine.result c.judge.new.mine.expanded
    (seat.verdicts + length seat.given_up) (claims_made c.judge.new.mine.seat) c.requires.counted
    c.saturating_add-mine.ensures (c.judge.ensures.expanded ∙ c.loop-next.invariant.expanded)
    (omega (arith, kept.claims, c.requires.claim.0))

pub returns-in_err-judge-clause-keeps : goal.returns-in_err-judge-clause-keeps
returns-in_err-judge-clause-keeps g c =
    let begun = keeps_same c.args.mine.now.seat c.at-word.new.seat c.at-word.ensures.same in
    let looped = keeps_trans c.args.mine.now.seat c.at-word.new.seat c.loop-next.mine.seat begun
    c.loop-next.invariant.keeps in
    keeps_trans c.args.mine.now.seat c.loop-next.mine.seat c.judge.new.mine.seat looped c.judge.ensures.keeps

pub returns-in_err-judge-clause-counted : goal.returns-in_err-judge-clause-counted
returns-in_err-judge-clause-counted g c =
    let seat = c.args.mine.now.seat in
    let begun = keeps_same seat c.at-word.new.seat c.at-word.ensures.same in
    let looped = keeps_trans seat c.at-word.new.seat c.loop-next.mine.seat begun c.loop-next.invariant.keeps in
    let kept = keeps_trans seat c.loop-next.mine.seat c.judge.new.mine.seat looped c.judge.ensures.keeps in
    counts_one c.args.mine.now.expanded c.saturating_add-mine.result c.judge.new.mine.expanded
    (seat.verdicts + length seat.given_up) (claims_made c.judge.new.mine.seat) c.requires.counted
    c.saturating_add-mine.ensures (c.judge.ensures.expanded ∙ c.loop-next.invariant.expanded)
    (omega (arith, kept.claims, c.requires.claim.0))

pub returns-in_err-put_in-clause-keeps : goal.returns-in_err-put_in-clause-keeps
returns-in_err-put_in-clause-keeps g c =
    let begun = keeps_same c.args.mine.now.seat c.at-word.new.seat c.at-word.ensures.same in
    let looped = keeps_trans c.args.mine.now.seat c.at-word.new.seat c.loop-next.mine.seat begun
    c.loop-next.invariant.keeps in
    keeps_trans c.args.mine.now.seat c.loop-next.mine.seat c.put_in.new.mine.seat looped c.put_in.ensures.keeps

pub returns-in_err-put_in-clause-counted : goal.returns-in_err-put_in-clause-counted
returns-in_err-put_in-clause-counted g c =
    let seat = c.args.mine.now.seat in
    let begun = keeps_same seat c.at-word.new.seat c.at-word.ensures.same in
    let looped = keeps_trans seat c.at-word.new.seat c.loop-next.mine.seat begun c.loop-next.invariant.keeps in
    let kept = keeps_trans seat c.loop-next.mine.seat c.put_in.new.mine.seat looped c.put_in.ensures.keeps in
    counts_one c.args.mine.now.expanded c.saturating_add-mine.result c.put_in.new.mine.expanded
    (seat.verdicts + length seat.given_up) (claims_made c.put_in.new.mine.seat) c.requires.counted
    c.saturating_add-mine.ensures (c.put_in.ensures.expanded ∙ c.loop-next.invariant.expanded)
    (omega (arith, kept.claims, c.requires.claim.0))

pub returns-in-Over-clause-keeps : goal.returns-in-Over-clause-keeps
returns-in-Over-clause-keeps g c =
    let begun = keeps_same c.args.mine.now.seat c.at-word.new.seat c.at-word.ensures.same in
    let looped = keeps_trans c.args.mine.now.seat c.at-word.new.seat c.loop-next.mine.seat begun
    c.loop-next.invariant.keeps in
    keeps_trans c.args.mine.now.seat c.loop-next.mine.seat c.put_in.new.mine.seat looped c.put_in.ensures.keeps

pub returns-in-Over-clause-counted : goal.returns-in-Over-clause-counted
returns-in-Over-clause-counted g c =
    let seat = c.args.mine.now.seat in
    let begun = keeps_same seat c.at-word.new.seat c.at-word.ensures.same in
    let looped = keeps_trans seat c.at-word.new.seat c.loop-next.mine.seat begun c.loop-next.invariant.keeps in
    let kept = keeps_trans seat c.loop-next.mine.seat c.put_in.new.mine.seat looped c.put_in.ensures.keeps in
    counts_one c.args.mine.now.expanded c.saturating_add-mine.result c.put_in.new.mine.expanded
    (seat.verdicts + length seat.given_up) (claims_made c.put_in.new.mine.seat) c.requires.counted
    c.saturating_add-mine.ensures (c.put_in.ensures.expanded ∙ c.loop-next.invariant.expanded)
    (omega (arith, kept.claims, c.requires.claim.0))
