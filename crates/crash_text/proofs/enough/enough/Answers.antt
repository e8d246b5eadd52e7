use Rattle.std.proofs.Common.{List, ℕ, All, map, string_bytes, ap₂, sym, subst, ◌∙◌}
use Rattle.crash_model.specs.declared.rules.Rule.{Rule}
use Rattle.question_model.specs.Enough.{AreEnough, IsMinimalEnough, IsNeeded, rules_but}
use Rattle.enough_deciding.specs.Rules.{IsTracingOf, tracing_of}
use Rattle.enough_deciding.proofs.Tracings.{one_tracing}
use Rattle.report.specs.OnChoices.{IsChoicesReport, IsNeedOfRules, rules_at}
use Rattle.report.specs.OnGraphs.{detail_of}
use Rattle.crash_text.proofs.Listed.{each_listed}
use Rattle.crash_text.proofs.Sparing.{is_report}
use Rattle.crash_text.proofs.enough.enough.Goals as goal

pub needs_of_rules-requires : goal.needs_of_rules-requires
needs_of_rules-requires g c =
    let script = c.args.script.now in
    let base = script.base.now in
    let t = script.traced in
    let needed = c.in_ok-found.ensures.needed (tracing_of base t) (one_tracing base t) in
    subst (λ (groups : List ℕ). All (λ group. ¬ (AreEnough script.demands base (tracing_of base t)
    (rules_but t.rules group))) groups) (sym c.deref.ensures.value)
    (λ k d within. (each_listed _ c.in_ok-found.found.needed.items needed k d within).needed)

pub returns-clause-reported : goal.returns-clause-reported
returns-clause-reported g c = λ last is.
    let settings = c.args.settings.now in
    let script = c.args.script.now in
    let base = script.base.now in
    let t = script.traced in
    let of_trace : IsTracingOf t last = record {
      emitted = sym is.emitted;
      links = sym is.links;
      whole = sym is.whole;
    } in
    let found = c.in_ok-found.ensures in
    let needs = c.in_ok-needs.ensures in
    let outcome = c.in_ok-outcome.outcome in
    let sets = c.in_ok-enough.ensures ∙ ap₂ (λ (rules : List Rule) (all : List ℕ). map (rules_at rules) all)
    c.ordering.ensures.rules c.deref-2.ensures.value in
    subst (λ (rules : List Rule). IsChoicesReport (IsMinimalEnough script.demands base last rules)
    (IsNeeded script.demands base last rules) (IsNeedOfRules (detail_of settings script.demands) rules base last)
    (rules_at rules) settings script.demands base last t.patches (string_bytes outcome.text) outcome.number) is.rules
    (is_report _ _ _ (rules_at t.rules) settings script.demands base last t.patches _ _ c.in_ok-found.found.enough.items
    c.in_ok-found.found.needed.items _ c.in_ok-needs.needs.items (found.enough last of_trace)
    (found.needed last of_trace) (needs.groups ∙ c.deref.ensures.value) (needs.needs last of_trace) sets
    (c.in_ok-outcome.ensures.reported last is))
