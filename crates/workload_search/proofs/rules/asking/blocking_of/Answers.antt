use Rattle.std.proofs.Common.{◌≡◌, ℕ, ◌%◌, List, [], map, get_or, true, false, arith, sym, subst, ◌∙◌, below_more}
use Rattle.std.specs.Prelude.{Some}
use Rattle.std.proofs.Math.Logic.{∥∥₁_map}
use Rattle.std.proofs.lemmas.List.{length-map}
use Rattle.std.proofs.lemmas.List.Elements.{All-contains}
use Rattle.arrayvec.specs.ArrayVec.{ArrayVec}
use Rattle.enough_rules.specs.Asked.{IsFound}
use Rattle.chosen_rules.specs.Sublists.{all_of}
use Rattle.question_model.specs.Workloads.{Search}
use Rattle.question_model.specs.EnoughFor.{IsPassing}
use Rattle.workload_search.specs.Tries.{items_of}
use Rattle.workload_search.specs.Asked.{IsEnoughAt}
use Rattle.workload_search.proofs.Items.{item_at}
use Rattle.workload_search.proofs.Together.{group_for_part}
use Rattle.workload_search.proofs.rules.asking.blocking_of.Goals as goal

-- the set is enough for the workload at this place, if the part gets it
abbrev IsEnoughHere : Search → List (ArrayVec ℕ) → ℕ → ℕ → ℕ → ℕ → Type 0
IsEnoughHere s workloads parts part set i =
    (d : List ℕ) → i % parts ≡ part → IsEnoughAt s (get_or (map items_of workloads) i d) set

pub blocking-requires-clause-passing : goal.blocking-requires-clause-passing
blocking-requires-clause-passing g c =
    let s = g.J.RuleJudge.search c.args.judge.now in
    let item = c.index-workloads-place.result in
    ∥∥₁_map c.requires.passing (λ all.
    All-contains (λ (places : ArrayVec ℕ). IsPassing s places.items) c.args.workloads.now item all
    (c.loop-place.place, c.loop-place-test.true, sym c.index-workloads-place.is))

pub loop-place-preserved : goal.loop-place-preserved
loop-place-preserved g c =
    let s = g.J.RuleJudge.search c.args.judge.now in
    let workloads = c.args.workloads.now in
    let set = c.args.set in
    let n = c.loop-place.place in
    let item = c.index-workloads-place.result in
    let enough : IsEnoughAt s item.items set =
    subst (IsFound (all_of s.rules) (IsEnoughAt s item.items) set) c.in_default.is c.in_ok-group.ensures in
    below_more (IsEnoughHere s workloads c.args.parts c.args.part set) n c.loop-place.invariant
    (λ d mine. subst (λ (places : List ℕ). IsEnoughAt s places set)
    (sym (item_at workloads n item d c.loop-place-test.true c.index-workloads-place.is)) enough)

pub loop-place-preserved-then-not-is_dealt_to : goal.loop-place-preserved-then-not-is_dealt_to
loop-place-preserved-then-not-is_dealt_to g c =
    let s = g.J.RuleJudge.search c.args.judge.now in
    below_more (IsEnoughHere s c.args.workloads.now c.args.parts c.args.part c.args.set) c.loop-place.place
    c.loop-place.invariant
    (λ d mine.
    let clash : true ≡ false = sym (c.is_dealt_to.ensures.1 mine) ∙ c.if-not-is_dealt_to.true in
    cc)

pub returns-in-Some : goal.returns-in-Some
returns-in-Some g c =
    let s = g.J.RuleJudge.search c.args.judge.now in
    let all = all_of s.rules in
    let workloads = c.args.workloads.now in
    let set = c.args.set in
    let n = c.loop-place.place in
    let item = c.index-workloads-place.result in
    let low = c.loop-place-test.true in
    group_for_part s (map items_of workloads) c.args.parts c.args.part set c.in-Some.group n []
    (omega (arith, low, length-map workloads items_of)) (c.is_dealt_to.ensures.0 c.if-not-is_dealt_to.false)
    (subst (λ (places : List ℕ). IsFound all (IsEnoughAt s places) set (Some c.in-Some.group))
    (sym (item_at workloads n item [] low c.index-workloads-place.is))
    (subst (IsFound all (IsEnoughAt s item.items) set) c.in-Some.is c.in_ok-group.ensures))

pub returns : goal.returns
returns g c = λ i d low mine. c.loop-place.invariant i
    (omega (arith, low, length-map c.args.workloads.now items_of, c.loop-place-test.false)) d mine
