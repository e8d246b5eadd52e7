use Rattle.std.proofs.Common.{◌≡◌, ◌+◌, ℕ, List, take, sym, ap, subst, ◌∙◌}
use Rattle.std.specs.Prelude.{Some}
use Rattle.std.proofs.lemmas.List.{take_all}
use Rattle.crash_model.specs.Paths.{are_same_shown}
use Rattle.crash_model.specs.declared.promises.Allowance.{Allowance}
use Rattle.crash_model.specs.declared.showing.Shown.{Shown}
use Rattle.fault_deciding.specs.OfSets.{IsLeastFor}
use Rattle.fault_deciding.proofs.LeastSets.{least_taken, least_left}
use Rattle.fault_deciding.proofs.promise.least_for.Goals as goal
use Rattle.fault_deciding.proofs.promise.least_for.Goals.{then-are_same_shown, else-are_same_shown}

pub loop-allowance-preserved : goal.loop-allowance-preserved
loop-allowance-preserved c =
    let allowed = c.args.allowed.now in
    let shows = c.args.shows.now in
    let i = c.loop-allowance.allowance-index in
    let a = c.allowance-item.result in
    let tested : are_same_shown a.shows.items shows ≡ c.are_same_shown.result =
    ap (λ (xs : List Shown). are_same_shown xs shows) (sym c.as_slice.ensures.value) ∙ sym c.are_same_shown.ensures in
    elim c.if-are_same_shown.branch [
      | then-are_same_shown w ↦ rw w.least-is
          (subst (λ (n : ℕ). IsLeastFor (take (i + 1) allowed) shows (Some n)) (sym w.smaller.ensures)
          (least_taken allowed shows i a c.loop-allowance-test.true c.allowance-item.is c.loop-allowance.least
          (tested ∙ w.if-are_same_shown.true) c.loop-allowance.invariant))
      | else-are_same_shown w ↦ rw w.least-is
          (least_left allowed shows i a c.loop-allowance-test.true c.allowance-item.is c.loop-allowance.least
          (tested ∙ w.if-are_same_shown.false) c.loop-allowance.invariant)
    ]

pub returns : goal.returns
returns c = subst (λ (all : List Allowance). IsLeastFor all c.args.shows.now c.loop-allowance.least)
    (take_all c.loop-allowance.allowance-index c.args.allowed.now c.loop-allowance-test.false)
    c.loop-allowance.invariant
