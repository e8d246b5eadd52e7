use Rattle.std.proofs.Common.{◌≡◌, ◌+◌, ◌||◌, List, take, sym, ap, subst, ◌∙◌}
use Rattle.std.proofs.lemmas.List.{take_all}
use Rattle.crash_model.specs.Promises.{Promise, is_broken, breaks_line}
use Rattle.fault_deciding.specs.Asked.{family_of}
use Rattle.fault_deciding.specs.OfSets.{IsKnownOfSets}
use Rattle.fault_deciding.proofs.Promised.{known_as, line_more, line_same}
use Rattle.fault_deciding.proofs.promise.breaks_line.Goals as goal
use Rattle.fault_deciding.proofs.promise.breaks_line.Goals.{then-promise-line, else-promise-line}

pub loop-promise-preserved : goal.loop-promise-preserved
loop-promise-preserved g c =
    let f = family_of c.args.chains.now c.args.family in
    let ps = c.args.promises.now in
    let line = c.args.line in
    let i = c.loop-promise.promise-index in
    let p = c.promise-item.result in
    let same : c.promise.inside.line ≡ p.line = ap (λ (q : Promise). q.line) c.promise.view_is in
    elim c.if-promise-line.branch [
      | then-promise-line w ↦ rw w.answer-is
          (known_as f (λ set d. breaks_line (take i ps) set d line || is_broken p set d)
          (λ set d. breaks_line (take (i + 1) ps) set d line) w.either-answer.result
          (λ set d. line_more ps line i p c.loop-promise-test.true c.promise-item.is set d
          (sym same ∙ w.if-promise-line.true))
          (w.either-answer.ensures f (λ set d. breaks_line (take i ps) set d line)
          (is_broken p) c.loop-promise.invariant
          w.is_broken_by.ensures))
      | else-promise-line w ↦ rw w.answer-is
          (known_as f (λ set d. breaks_line (take i ps) set d line)
          (λ set d. breaks_line (take (i + 1) ps) set d line) c.loop-promise.answer
          (λ set d. line_same ps line i p c.loop-promise-test.true c.promise-item.is set d
          (λ is. w.if-promise-line.false (same ∙ is))) c.loop-promise.invariant)
    ]

pub returns : goal.returns
returns g c =
    let f = family_of c.args.chains.now c.args.family in
    subst (λ (ps : List Promise). IsKnownOfSets f (λ set d. breaks_line ps set d c.args.line) c.loop-promise.answer)
    (take_all c.loop-promise.promise-index c.args.promises.now c.loop-promise-test.false) c.loop-promise.invariant
