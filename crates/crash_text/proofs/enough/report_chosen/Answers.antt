use Rattle.std.proofs.Common.{ℕ, List, Option, ap, ap₂, subst, sym, ◌∙◌}
use Rattle.std.specs.Int.{from_bool}
use Rattle.patch_sets.specs.Closed.{AreEarlier}
use Rattle.crash_model.specs.Checker.{IsFailingUnder}
use Rattle.crash_model.specs.Patches.{CountsClosed, deps_of}
use Rattle.report.specs.FirstCrashes.{IsFirstIfAny}
use Rattle.report.specs.OnChoices.{enough_bytes}
use Rattle.report.specs.OnGraphs.{detail_of, head_on}
use Rattle.report.specs.Found.{FirstCrash, Need}
use Rattle.report.specs.Reports.{Head}
use Rattle.report.specs.declared.choices.Choices.{Choices}
use Rattle.crash_text.proofs.Numbers.{number_of, none_number}
use Rattle.crash_text.proofs.enough.report_chosen.Goals as goal

pub returns-clause-reported : goal.returns-clause-reported
returns-clause-reported g c = λ last is.
    let settings = c.args.settings.now in
    let script = c.args.script.now in
    let first = c.in_ok-first.first in
    let earlier = subst (λ ps. AreEarlier (deps_of ps)) (sym c.graph-graph.ensures) is.graph.earlier in
    let form : Head → List Choices → List Need → Option FirstCrash → List ℕ = λ h cs ns f. enough_bytes settings
    (record { head = h; enough = cs; needs = ns; first = f }) in
    record {
      total = c.closed_number.result;
      counted = subst (λ ps. CountsClosed ps c.closed_number.result) c.graph-graph.ensures c.closed_number.ensures;
      first = first;
      any = subst (λ ps. IsFirstIfAny (detail_of settings script.demands) script.base.now ps first)
          c.graph-graph.ensures (c.in_ok-first.ensures.first earlier);
      number_of = c.from.ensures ∙ (ap from_bool c.is_some.ensures ∙ number_of first);
      whole = c.in_ok-written.ensures
          ∙ (ap₂ (λ (h : Head) (f : Option FirstCrash). form h c.deref-2.result.now c.deref-3.result.now f)
          (c.graph_head.ensures last is) c.as_ref.ensures.value
          ∙ ap₂ (λ (cs : List Choices) (ns : List Need). form (head_on settings script.demands script.base.now last
          script.traced.patches c.closed_number.result) cs ns first) c.deref-2.ensures.value c.deref-3.ensures.value);
    }

pub returns-clause-safe : goal.returns-clause-safe
returns-clause-safe g c = λ none.
    let script = c.args.script.now in
    let first = c.in_ok-first.first in
    let safe = subst (λ ps. (set : ℕ) → ¬ (IsFailingUnder script.demands script.base.now ps set))
    (sym c.graph-graph.ensures) none in
    c.from.ensures ∙ (ap from_bool c.is_some.ensures ∙ none_number first (c.in_ok-first.ensures.safe safe))
