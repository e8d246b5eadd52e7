use Rattle.std.proofs.Common.{◌++◌, ◌∙◌, List, ap, arith, length, map}
use Rattle.std.proofs.lemmas.List.{take_all}
use Rattle.crash_model.specs.declared.rules.Rule as rules
use Rattle.traced_patches.specs.Reasons.{first_reasons}
use Rattle.traced_patches.specs.declared.reasons.Reason.TheVariants.{Rule}
use Rattle.traced_patches.proofs.ReasonTexts.{texts_are, some_are}
use Rattle.traced_patches.proofs.reasons.Reasons.list.Goals as goal

pub returns-clause-texts : goal.returns-clause-texts
returns-clause-texts c = λ t q id p are.
    let r = c.args.self.now in
    let all = c.loop-rule.invariant.items ∙ ap (λ (rs : List rules.Rule). first_reasons r.overlap r.block r.group r.wait
    ++ map Rule rs) (take_all c.loop-rule.rule-index r.rules.items
    (omega (arith, ap length c.as_slice-rule-items.ensures.value))) in
    texts_are t q id p r c.loop-rule.list.items all are

pub returns-clause-some : goal.returns-clause-some
returns-clause-some c = λ t q id p are.
    let r = c.args.self.now in
    let all = c.loop-rule.invariant.items ∙ ap (λ (rs : List rules.Rule). first_reasons r.overlap r.block r.group r.wait
    ++ map Rule rs) (take_all c.loop-rule.rule-index r.rules.items
    (omega (arith, ap length c.as_slice-rule-items.ensures.value))) in
    some_are t q id p r c.loop-rule.list.items all are
