use Rattle.std.proofs.Common.{◌≡◌, List, length, rules, ap, ap₂, subst, subst₂, sym, ◌∙◌}
use Rattle.std.specs.Prelude.{All}
use Rattle.std.proofs.lemmas.List.{length-map}
use Rattle.patch_sets.specs.Closed.{IsClosed}
use Rattle.crash_model.specs.FirstSets.{HasFault}
use Rattle.crash_model.specs.Patches.{deps_of, CountsClosed}
use Rattle.question_model.specs.Decided.{AreDecided}
use Rattle.question_model.specs.declared.decided_fault.DecidedFault.{DecidedFault}
use Rattle.report.specs.Makers.{Making}
use Rattle.report.specs.FirstCrashes.{IsFirstCrash, decided_of}
use Rattle.report.specs.Decisions.{decision_bytes}
use Rattle.report.specs.Found.{FirstCrash}
use Rattle.report.specs.Reports.{Head}
use Rattle.crash_text.proofs.Listed.{decided_closed, firsts_led}
use Rattle.crash_text.proofs.Safe.{none_decided}
use Rattle.crash_text.proofs.deciding.decided.Goals as goal

pub first_crashes-requires : goal.first_crashes-requires
first_crashes-requires g c =
    let script = c.args.script.now in
    let decided = c.in_ok-decided.decided.items in
    let are = subst (λ ps. AreDecided (HasFault script.demands script.base.now ps) decided) c.graph.ensures
    c.in_ok-decided.ensures in
    subst₂ (λ (m : Making) (fs : List DecidedFault). All (λ f. IsClosed (deps_of m.patches) f.first) fs)
    (sym c.in_ok-maker.ensures) (sym c.deref.ensures.value)
    (decided_closed script.base.now script.traced.patches script.demands decided are)

pub returns-clause-reported : goal.returns-clause-reported
returns-clause-reported g c = λ last is.
    let settings = c.args.request.now.settings in
    let script = c.args.script.now in
    let base = script.base.now in
    let patches = script.traced.patches in
    let total = c.closed_number-closed.result in
    let faults = c.in_ok-faults.faults.items in
    let found = c.in_ok-faults.ensures in
    let same = found.decided ∙ c.deref.ensures.value in
    let decided = subst₂ (λ ps (fs : List DecidedFault). AreDecided (HasFault script.demands base ps) fs)
    c.graph.ensures (sym same) c.in_ok-decided.ensures in
    let many : c.len.result ≡ length c.in_ok-decided.decided.items = search rules in
    let made = subst (λ (m : Making). All (IsFirstCrash m.detail m.base m.patches) faults) c.in_ok-maker.ensures
    found.made in
    record {
      total = total;
      counted = subst (λ ps. CountsClosed ps total) c.graph-2.ensures c.closed_number-closed.ensures;
      faults = faults;
      decided = decided;
      made = made;
      led = firsts_led base patches is.graph.earlier _ faults decided made;
      number_of = many ∙ (ap (λ (fs : List DecidedFault). length fs) (sym same) ∙ length-map faults decided_of);
      whole = c.in_ok-written.ensures ∙ ap₂ (λ (h : Head) (fs : List FirstCrash).
          decision_bytes settings (record { head = h; faults = fs })) (c.graph_head.ensures last is)
          c.deref-3.ensures.value;
    }

pub returns-clause-safe : goal.returns-clause-safe
returns-clause-safe g c = λ none.
    let script = c.args.script.now in
    let decided = c.in_ok-decided.decided.items in
    let are = subst (λ ps. AreDecided (HasFault script.demands script.base.now ps) decided) c.graph.ensures
    c.in_ok-decided.ensures in
    let many : c.len.result ≡ length decided = search rules in
    many ∙ none_decided script.demands script.base.now script.traced.patches decided none are
