use Rattle.std.proofs.Common.{rules, arith, ◌+◌, ◌%◌, ◌∙◌, length, ap, subst}
use Rattle.std.proofs.lemmas.List.{length-set}
use Rattle.explorers.specs.Tasks.{HasStolen}
use Rattle.explorers.proofs.tasks.Tasks.steal.Goals as goal

pub invariant_of-self-in-Some : goal.invariant_of-self-in-Some
invariant_of-self-in-Some g c =
    let before = c.loop-step.self-inside.hand in
    let step = c.in-Some.ensures.stolen (record { home = before.home; holds = before.own }) in
    let same = ap (λ h. length h.ways) step ∙ length-set _ _ _ in
    let hand = ap (λ h. length h.ways) c.loop-step.invariant.hand in
    omega (arith, same, hand, c.self.invariant, c.loop-step.invariant.own, c.loop-step.invariant.workers)

pub returns-in-Some : goal.returns-in-Some
returns-in-Some g c =
    let inside = c.loop-step.self-inside in
    let same = c.loop-step.invariant.hand ∙ c.self.view_is in
    subst (λ h. HasStolen h c.in-Some.task c.steal.new.self) same
    (record {
      from = (inside.own + c.loop-step.step) % inside.workers;
      inside = search rules;
      is = c.in-Some.ensures.stolen;
    })

pub loop-step-preserved : goal.loop-step-preserved
loop-step-preserved g c = let before = c.loop-step.self-inside.hand in record {
  hand = c.in_default.ensures.stolen (record { home = before.home; holds = before.own }) ∙ c.loop-step.invariant.hand;
  own = c.loop-step.invariant.own;
  workers = c.loop-step.invariant.workers;
}
