use Rattle.std.proofs.Common.{◌<◌, List, ℕ, length, arith, refl, subst, sym}
use Rattle.std.specs.List.{All}
use Rattle.question_model.specs.Verdict.{IsAccepted}
use Rattle.pool_judging.specs.Beginnings.{IsPrefixAt}
use Rattle.pool_judging.specs.Judging.{search_by}
use Rattle.pool_judging.proofs.Beginnings.{prefix_first, few_turns, next_accepted, prefix_more, prefix_all}
use Rattle.pool_judging.proofs.judge.PoolJudge.prefix.Goals as goal

pub loop-place-init : goal.loop-place-init
loop-place-init g c =
    prefix_first (search_by c.args.self.now) c.as_slice-place-items.result.now c.in_ok-prefix.prefix
    c.in_ok-prefix.ensures

pub longer-requires-clause-few : goal.longer-requires-clause-few
longer-requires-clause-few g c =
    let short = subst (λ (places : List ℕ). length places < 8) (sym c.as_slice-place-items.ensures.value)
    c.requires.short in
    let few = few_turns (search_by c.args.self.now) c.as_slice-place-items.result.now c.loop-place.place-index
    c.loop-place.prefix short c.loop-place.invariant in
    omega (arith, few)

pub longer-requires-clause-accepted : goal.longer-requires-clause-accepted
longer-requires-clause-accepted g c =
    let s = search_by c.args.self.now in
    let same = c.as_slice-place-items.ensures.value in
    let among = subst (λ (places : List ℕ). All (λ place. place < length s.pool) places) (sym same) c.requires.among in
    next_accepted s c.as_slice-place-items.result.now c.loop-place.place-index c.loop-place.prefix _
    c.index-self-place.result c.loop-place-test.true (among c.loop-place.place-index 0 c.loop-place-test.true) refl
    c.loop-place.invariant (subst (IsAccepted s) (sym same) c.requires.accepted)

pub loop-place-preserved : goal.loop-place-preserved
loop-place-preserved g c =
    let s = search_by c.args.self.now in
    let among = subst (λ (places : List ℕ). All (λ place. place < length s.pool) places)
    (sym c.as_slice-place-items.ensures.value) c.requires.among in
    let is = c.loop-place.invariant in
    prefix_more s c.as_slice-place-items.result.now c.loop-place.place-index c.loop-place.prefix _
    c.index-self-place.result c.loop-place-test.true (among c.loop-place.place-index 0 c.loop-place-test.true) refl is
    c.in_ok-prefix-2.prefix (c.in_ok-prefix-2.ensures.prefix s _ is.are) c.in_ok-prefix-2.ensures.moves

pub returns : goal.returns
returns g c =
    let s = search_by c.args.self.now in
    let same = c.as_slice-place-items.ensures.value in
    subst (λ (places : List ℕ). IsPrefixAt s places c.loop-place.prefix) same
    (prefix_all s c.as_slice-place-items.result.now c.loop-place.place-index c.loop-place.prefix
    (subst (λ (places : List ℕ). length places < 8) (sym same) c.requires.short)
    (subst (λ (places : List ℕ). All (λ place. place < length s.pool) places) (sym same) c.requires.among)
    c.loop-place-test.false c.loop-place.invariant)
