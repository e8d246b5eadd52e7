use Rattle.std.proofs.Common.{◌≡◌, ℕ, List, [], map, true, false, arith, sym, subst, ◌∙◌}
use Rattle.std.proofs.lemmas.List.{length-map}
use Rattle.question_model.specs.Enough.{rules_but}
use Rattle.question_model.specs.Sequences.{IsFirstSequence}
use Rattle.question_model.specs.Workloads.{Search, Fails}
use Rattle.question_model.specs.EnoughFor.{IsPassing, FailsBy, search_with}
use Rattle.workload_search.specs.Tries.{items_of}
use Rattle.workload_search.proofs.Lists.{in_map}
use Rattle.workload_search.proofs.Earliest.{first_of_all}
use Rattle.workload_search.proofs.Items.{item_at, one_more}
use Rattle.workload_search.proofs.rules.first.first_without.Goals as goal

abbrev FailsWithout : Search → ℕ → List ℕ → Type 0
FailsWithout s group places = Fails (search_with s (rules_but s.rules group)) places

pub fails_without-requires : goal.fails_without-requires
fails_without-requires g c =
    let item = c.places-item.result in
    record {
      passing = ∣ (c.requires.whole.exactly item.items).0 (in_map items_of c.args.passing.now item
          (c.loop-places.places-index, c.loop-places-test.true, sym c.places-item.is)) ∣₁;
    }

pub returns-then-branch : goal.returns-then-branch
returns-then-branch g c =
    let s = g.J.RuleJudge.search c.args.judge.now in
    let group = c.args.group in
    let passing = c.args.passing.now in
    let i = c.loop-places.places-index in
    let item = c.places-item.result in
    let within = c.loop-places-test.true in
    let fails : FailsWithout s group item.items = c.in_ok-fails_without.ensures.0 c.if-branch.true in
    subst (IsFirstSequence (FailsBy s (rules_but s.rules group))) (item_at passing i item [] within c.places-item.is)
    (first_of_all (IsPassing s) (FailsWithout s group) (map items_of passing) c.requires.whole i
    (record {
      within = omega (arith, within, length-map passing items_of);
      here = λ d. subst (FailsWithout s group) (sym (item_at passing i item d within c.places-item.is)) fails;
      none_before = c.loop-places.invariant;
    }) [])

pub loop-places-preserved : goal.loop-places-preserved
loop-places-preserved g c =
    let s = g.J.RuleJudge.search c.args.judge.now in
    let passing = c.args.passing.now in
    let i = c.loop-places.places-index in
    one_more (λ (places : List ℕ). ¬ (FailsWithout s c.args.group places)) passing i c.loop-places.invariant
    (λ d fails.
    let one = subst (FailsWithout s c.args.group)
    (item_at passing i c.places-item.result d c.loop-places-test.true c.places-item.is) fails in
    let clash : true ≡ false = sym (c.in_ok-fails_without.ensures.1 one) ∙ c.if-branch.false in
    cc)

pub unreachable-requires : goal.unreachable-requires
unreachable-requires g c =
    let s = g.J.RuleJudge.search c.args.judge.now in
    let passing = c.args.passing.now in
    c.requires.needed (λ places both.
    let there = (c.requires.whole.exactly places).1 both.0 in
    let within = there.1 in
    c.loop-places.invariant there.0 places
    (omega (arith, within, length-map passing items_of, c.loop-places-test.false))
    (subst (FailsWithout s c.args.group) (sym there.2) both.1))
