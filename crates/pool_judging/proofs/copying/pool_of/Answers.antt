use Rattle.std.proofs.Common.{◌≡◌, List, [], ◌∷◌, ◌++◌, Bool, true, false, refl, sym, subst, ap, ◌∙◌}
use Rattle.std.specs.Prelude.{All, ◌||◌}
use Rattle.std.proofs.lemmas.Bool.{false≢true}
use Rattle.std.proofs.lemmas.List.{take_all}
use Rattle.std.proofs.lemmas.List.Elements.{All-nil}
use Rattle.crash_model.specs.declared.steps.Act.{Act}
use Rattle.crash_model.specs.declared.steps.Act.TheVariants.{Do, Group, End, Depend, Sync, Fsync, Keep, Hold, Spare}
use Rattle.crash_model.specs.declared.steps.Step.{Step}
use Rattle.question_model.specs.Workloads.{IsOfPool, is_place, is_keep, places_of, keeps_of}
use Rattle.pool_judging.proofs.Sorted.{pool_more, no_pool, kept_more, left_out}
use Rattle.pool_judging.proofs.copying.pool_of.Goals as goal
use Rattle.pool_judging.proofs.copying.pool_of.Goals.{then-is_place+in_ok-push, else-is_place+then-is_keep+in_ok-push-2}

-- ---- a pool's acts

of_place : (step : Step) → is_place step.act ≡ true → IsOfPool step
of_place step is = rw is refl

of_keep : (step : Step) → is_place step.act ≡ false → is_keep step.act ≡ true → IsOfPool step
of_keep step other is = rw (other, is) refl

of_none : (step : Step) → is_place step.act ≡ false → is_keep step.act ≡ false → ¬ (IsOfPool step)
of_none step other neither is =
    let no : (is_place step.act || is_keep step.act) ≡ false = rw (other, neither) refl in false≢true (sym no ∙ is)

no_keep : (act : Act) → is_place act ≡ true → is_keep act ≡ false
no_keep (Do _) is = refl
no_keep Sync is = refl
no_keep (Fsync _) is = refl
no_keep (Keep _) is = sym is
no_keep (Group _) is = refl
no_keep End is = refl
no_keep (Depend _ _) is = refl
no_keep (Hold _) is = refl
no_keep (Spare _ _) is = refl

-- ---- the loop

pub loop-step-init : goal.loop-step-init
loop-step-init g c = (All-nil IsOfPool, c.new-places.ensures.items, c.new-keeps.ensures.items)

pub returns-else-is_keep-clause-none : goal.returns-else-is_keep-clause-none
returns-else-is_keep-clause-none g c =
    no_pool c.args.steps.now c.loop-step.step-index c.step-item.result c.loop-step-test.true c.step-item.is
    c.loop-step.invariant.0 (of_none c.step-item.result (sym c.is_place.ensures ∙ c.if-is_place.false)
    (sym c.is_keep.ensures ∙ c.if-is_keep.false))

pub loop-step-preserved : goal.loop-step-preserved
loop-step-preserved g c =
    let steps = c.args.steps.now in
    let i = c.loop-step.step-index in
    let x = c.step-item.result in
    let inside = c.loop-step-test.true in
    let read = c.step-item.is in
    let so_far = c.loop-step.invariant in
    let place : Step → Bool = λ step. is_place step.act in
    let keep : Step → Bool = λ step. is_keep step.act in
    elim c.if-is_place.branch [
      | then-is_place+in_ok-push w ↦
          let yes = sym c.is_place.ensures ∙ w.if-is_place.true in (
            pool_more steps i x inside read so_far.0 (of_place x yes),
            kept_more steps i x inside read place c.loop-step.places.items c.if-is_place.places.items so_far.1
                (ap (λ v. v.items) w.places-is ∙ (w.in_ok-push.ensures.items
                ∙ ap (λ (y : Step). c.loop-step.places.items ++ y ∷ []) w.step_copy.ensures)) yes,
            left_out steps i x inside read keep c.if-is_place.keeps.items
                (ap (λ v. v.items) w.keeps-is ∙ so_far.2) (no_keep x.act yes),
          )
      | else-is_place+then-is_keep+in_ok-push-2 w ↦
          let no = sym c.is_place.ensures ∙ w.if-is_place.false in
          let yes = sym w.is_keep.ensures ∙ w.if-is_keep.true in (
            pool_more steps i x inside read so_far.0 (of_keep x no yes),
            left_out steps i x inside read place c.if-is_place.places.items
                (ap (λ v. v.items) w.places-is ∙ so_far.1) no,
            kept_more steps i x inside read keep c.loop-step.keeps.items c.if-is_place.keeps.items so_far.2
                (ap (λ v. v.items) w.keeps-is ∙ (w.in_ok-push-2.ensures.items
                ∙ ap (λ (y : Step). c.loop-step.keeps.items ++ y ∷ []) w.step_copy-then-is_keep.ensures)) yes,
          )
    ]

pub returns-clause-pool : goal.returns-clause-pool
returns-clause-pool g c =
    let whole = take_all c.loop-step.step-index c.args.steps.now c.loop-step-test.false in
    record {
      all = subst (λ (steps : List Step). All IsOfPool steps) whole c.loop-step.invariant.0;
      places = c.loop-step.invariant.1 ∙ ap places_of whole;
      keeps = c.loop-step.invariant.2 ∙ ap keeps_of whole;
    }
