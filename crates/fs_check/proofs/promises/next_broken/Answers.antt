use Rattle.std.proofs.Common.{◌≡◌, ◌+◌, ◌<◌, ℕ, List, take, arith, sym, ap, subst, ◌∙◌}
use Rattle.std.specs.Prelude.{Some, IfSome}
use Rattle.std.proofs.lemmas.Bool.{false≢true}
use Rattle.std.proofs.lemmas.List.{take_all}
use Rattle.crash_model.specs.Promises.{Promise}
use Rattle.fs_check.specs.Broken.{line_behind, IsNextBroken}
use Rattle.fs_check.proofs.BrokenLines.{next_taken, next_left}
use Rattle.fs_check.proofs.promises.next_broken.Goals as goal
use Rattle.fs_check.proofs.promises.next_broken.Goals.{then-is_between+then-is_broken, then-is_between+else-is_broken}
use Rattle.fs_check.proofs.promises.next_broken.Goals.{else-is_between}

pub loop-promise-preserved : goal.loop-promise-preserved
loop-promise-preserved g c =
    let d = c.args.image.now in
    let set = c.args.set in
    let ps = c.args.promises.now in
    let from = line_behind c.args.last in
    let i = c.loop-promise.promise-index in
    let next = c.loop-promise.next in
    let p = c.promise-item.result in
    let same : c.promise.inside.line ≡ p.line = ap (λ (q : Promise). q.line) c.promise.view_is in
    elim c.if-is_between.branch [
      | then-is_between+then-is_broken w ↦
          let between = c.is_between.ensures.0 w.if-is_between.true in
          rw w.next-is (subst (λ (n : ℕ). IsNextBroken (take (i + 1) ps) set d from (Some n)) (sym same)
          (next_taken set d ps i p c.loop-promise-test.true c.promise-item.is from next
          (omega (arith, between.0, same)) (subst (λ (n : ℕ). IfSome next (λ other. n < other)) same between.1)
          (sym w.is_broken.ensures ∙ w.if-is_broken.true) c.loop-promise.invariant))
      | then-is_between+else-is_broken w ↦ rw w.next-is
          (next_left set d ps i p c.loop-promise-test.true c.promise-item.is from next
          (λ h. false≢true (sym (sym w.is_broken.ensures ∙ w.if-is_broken.false) ∙ h.2)) c.loop-promise.invariant)
      | else-is_between w ↦ rw w.next-is
          (next_left set d ps i p c.loop-promise-test.true c.promise-item.is from next
          (λ h. false≢true (sym w.if-is_between.false ∙ c.is_between.ensures.1 (
            omega (arith, h.0, same),
            subst (λ (n : ℕ). IfSome next (λ other. n < other)) (sym same) h.1,
          ))) c.loop-promise.invariant)
    ]

pub returns : goal.returns
returns g c = subst (λ (ps : List Promise). IsNextBroken ps c.args.set c.args.image.now (line_behind c.args.last)
    c.loop-promise.next) (take_all c.loop-promise.promise-index c.args.promises.now c.loop-promise-test.false)
    c.loop-promise.invariant
