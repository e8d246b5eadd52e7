use Rattle.std.proofs.Common.{◌≡◌, ◌≤◌, List, ℕ, length, ap₂, subst, subst₂, sym, ◌∙◌}
use Rattle.std.specs.Prelude.{All}
use Rattle.patch_sets.specs.Closed.{IsClosed}
use Rattle.crash_model.specs.Checker.{IsFailingUnder}
use Rattle.crash_model.specs.Patches.{deps_of}
use Rattle.report.specs.Makers.{Making}
use Rattle.report.specs.Made.{AreSections}
use Rattle.report.specs.OnGraphs.{sets_bytes}
use Rattle.report.specs.Parts.{Section}
use Rattle.report.specs.Reports.{Head}
use Rattle.report.proofs.Leading.{closed_are_left, failing_closed}
use Rattle.crash_text.proofs.Listed.{sections_led}
use Rattle.crash_text.proofs.Safe.{none_listed}
use Rattle.crash_text.proofs.exploring.explored.Goals as goal

pub sections-requires : goal.sections-requires
sections-requires g c =
    let script = c.args.script.now in
    let found = c.in_ok-found.found.broken.items in
    subst₂ (λ (m : Making) (sets : List ℕ). All (IsClosed (deps_of m.patches)) sets) (sym c.in_ok-maker.ensures)
    (sym c.deref.ensures.value)
    (failing_closed script.demands script.base.now script.traced.patches found c.in_ok-found.ensures.failing)

pub returns-clause-reported : goal.returns-clause-reported
returns-clause-reported g c = λ last is.
    let settings = c.args.request.now.settings in
    let script = c.args.script.now in
    let base = script.base.now in
    let patches = script.traced.patches in
    let found = c.in_ok-found.ensures in
    let total = c.in_ok-found.found.total in
    let sets = c.in_ok-found.found.broken.items in
    let sections = c.in_ok-sections.sections.items in
    let closed = failing_closed script.demands base patches sets found.failing in
    let listed = subst₂ (λ (m : Making) (all : List ℕ). AreSections m.detail m.base m.patches all sections)
    c.in_ok-maker.ensures c.deref.ensures.value c.in_ok-sections.ensures in
    record {
      total = total;
      counted = found.total;
      within = subst (λ (most : ℕ). total ≤ most) c.sets.ensures.same found.within;
      sets = sets;
      exactly = found.failing;
      left = closed_are_left patches is.graph.earlier sets closed;
      number = cc;
      sections = sections;
      listed = listed;
      led = sections_led base patches is.graph.earlier _ sets sections closed listed;
      whole = c.in_ok-written.ensures ∙ ap₂ (λ (h : Head) (ss : List Section).
          sets_bytes settings (record { head = h; sections = ss })) (c.graph_head.ensures last is)
          c.deref-3.ensures.value;
    }

pub returns-clause-safe : goal.returns-clause-safe
returns-clause-safe g c = λ none.
    let script = c.args.script.now in
    let sets = c.in_ok-found.found.broken.items in
    let many : c.len.result ≡ length sets = cc in
    many ∙ none_listed (IsFailingUnder script.demands script.base.now script.traced.patches) sets none
    c.in_ok-found.ensures.failing
