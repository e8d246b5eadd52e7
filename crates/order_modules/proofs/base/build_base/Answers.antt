use Rattle.std.proofs.Common.{rules, ◌≡◌, ◌+◌, List, ◌∷◌, drop, refl, sym, subst, ap, ◌∙◌, inl, inr}
use Rattle.std.specs.Prelude.{Err}
use Rattle.crash_model.specs.Sound.{IsSound}
use Rattle.crash_model.specs.Trace.{base_from}
use Rattle.crash_model.specs.declared.refusals.TraceFault.{TraceFault}
use Rattle.crash_model.specs.declared.steps.Step.{Step}
use Rattle.order_modules.specs.Base.{disk_before_refusal, StepMakes, StepsStop}
use Rattle.order_modules.proofs.Making.{drop_step, made_on, stops_on, stops_base, stops_disk}
use Rattle.order_modules.proofs.base.build_base.Goals as goal

pub returns-in_default : goal.returns-in_default
returns-in_default g c =
    let split : drop c.loop-step.step-index c.args.steps.now ≡ c.step-item.result ∷ drop (c.loop-step.step-index + 1)
    c.args.steps.now = drop_step c.args.steps.now c.loop-step.step-index c.step-item.result c.loop-step-test.true
    c.step-item.is in record {
      built = tt;
      refused = sym c.loop-step.invariant.built ∙ ap (λ (l : List Step). base_from c.loop-step.image l) split
          ∙ stops_base c.loop-step.image c.step-item.result (drop (c.loop-step.step-index + 1) c.args.steps.now)
          c.in_default.not-Do
          ∙ ap (λ (e : TraceFault). Err e) (sym c.no_operation.ensures);
      before = sym (sym c.loop-step.invariant.before
          ∙ ap (λ (l : List Step). disk_before_refusal c.loop-step.image l) split
          ∙ stops_disk c.loop-step.image c.step-item.result (drop (c.loop-step.step-index + 1) c.args.steps.now)
          c.in_default.not-Do);
      journal = search rules;
      sound = search rules;
      means = λ _. tt;
      stops = λ sound.
          let fault = c.no_operation.result in
          let there : StepsStop c.loop-step.image (c.step-item.result ∷ drop (c.loop-step.step-index + 1)
          c.args.steps.now) c.loop-step.image fault = inl (inr (c.in_default.not-Do, c.no_operation.ensures), refl) in
          c.loop-step.invariant.stops sound c.loop-step.image fault
          (subst (λ (l : List Step). StepsStop c.loop-step.image l c.loop-step.image fault) (sym split) there);
    }

pub loop-step-preserved : goal.loop-step-preserved
loop-step-preserved g c =
    let d = c.loop-step.image in
    let next = c.apply.new.image in
    let split : drop c.loop-step.step-index c.args.steps.now ≡ c.step-item.result ∷ drop (c.loop-step.step-index + 1)
    c.args.steps.now = drop_step c.args.steps.now c.loop-step.step-index c.step-item.result c.loop-step-test.true
    c.step-item.is in
    let made : IsSound c.args.image.now → StepMakes d c.step-item.result next =
    λ sound. (
      c.in-Do.op,
      c.in-Do.is,
      rw c.apply.ensures.changes
          (c.in-Ok.ensures.means (c.loop-step.invariant.sound sound)),
    ) in record {
      built = search rules;
      journal = search rules;
      same_journal = search rules;
      sound = search rules;
      means = λ sound. made_on c.args.image.now d next c.args.steps.now c.loop-step.step-index c.step-item.result split
          (made sound) (c.loop-step.invariant.means sound);
      stops = λ sound. stops_on c.args.image.now d next c.args.steps.now c.loop-step.step-index c.step-item.result split
          (made sound) (c.loop-step.invariant.stops sound);
      before = search rules;
    }
