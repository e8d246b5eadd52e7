use Rattle.std.proofs.Common.{◌≤◌, List, ℕ, All, length, map, string_bytes, ap₂, sym, subst, ◌∙◌}
use Rattle.patch_sets.specs.Ends.{IsDifference}
use Rattle.crash_model.specs.Waiting.{Wait}
use Rattle.crash_model.specs.declared.rules.Rule.{Rule}
use Rattle.question_model.specs.EnoughLines.{AreEnoughLines, IsMinimalLines, IsNeededLines, all_waits}
use Rattle.question_model.specs.declared.question.TheConstants.{MAX_SYNCS}
use Rattle.enough_deciding.specs.Lines.{HasWaits, waits_of}
use Rattle.enough_deciding.proofs.WaitingLines.{one_waiting}
use Rattle.report.specs.OnChoices.{IsChoicesReport, IsNeedOfLines, lines_at}
use Rattle.crash_text.proofs.LineReports.{same_length}
use Rattle.crash_text.proofs.Listed.{each_listed}
use Rattle.crash_text.proofs.Sparing.{is_report}
use Rattle.crash_text.proofs.lines.enough_lines.Goals as goal

pub needs_of_lines-requires : goal.needs_of_lines-requires
needs_of_lines-requires g c =
    let script = c.args.script.now in
    let base = script.base.now in
    let t = script.traced in
    let needed = c.in_ok-found.ensures.needed (waits_of base t) (one_waiting base t) in
    subst (λ (groups : List ℕ). All (λ group. (rest : ℕ) → IsDifference (all_waits t.waits) group rest
    → ¬ (AreEnoughLines script.demands base t.rules (waits_of base t) rest)) groups) (sym c.deref.ensures.value)
    (λ k d within. (each_listed _ c.in_ok-found.found.needed.items needed k d within).needed)

pub sets_of_lines-requires : goal.sets_of_lines-requires
sets_of_lines-requires g c =
    subst (λ (n : ℕ). n ≤ MAX_SYNCS)
    (sym (same_length c.waits.result.now c.args.script.now.traced.waits c.waits.ensures)) c.requires.few

pub returns-clause-reported : goal.returns-clause-reported
returns-clause-reported g c = λ last is.
    let settings = c.args.settings.now in
    let script = c.args.script.now in
    let base = script.base.now in
    let t = script.traced in
    let of_trace : HasWaits t last = record {
      traced = record { emitted = sym is.emitted; links = sym is.links; whole = sym is.whole };
      waits = sym is.waits;
    } in
    let found = c.in_ok-found.ensures in
    let needs = c.in_ok-needs.ensures in
    let outcome = c.in_ok-outcome.outcome in
    let sets = c.in_ok-enough.ensures ∙ ap₂ (λ (waits : List Wait) (all : List ℕ). map (lines_at waits) all)
    (c.waits.ensures ∙ is.waits) c.deref-2.ensures.value in (
      subst (λ (waits : List Wait). length waits ≤ MAX_SYNCS) is.waits c.requires.few,
      subst (λ (rules : List Rule). IsChoicesReport (IsMinimalLines script.demands base rules last)
          (IsNeededLines script.demands base rules last) (IsNeedOfLines settings.explain rules script.demands base last)
          (lines_at last.waits) settings script.demands base last t.patches (string_bytes outcome.text)
          outcome.number) is.rules
          (is_report _ _ _ (lines_at last.waits) settings script.demands base last t.patches _ _
          c.in_ok-found.found.enough.items c.in_ok-found.found.needed.items _ c.in_ok-needs.needs.items
          (found.enough last of_trace) (found.needed last of_trace) (needs.groups ∙ c.deref.ensures.value)
          (needs.needs last of_trace) sets (c.in_ok-outcome.ensures.reported last is)),
    )
