use Rattle.std.proofs.Common.{List, ◌∙◌, ap, subst}
use Rattle.crash_model.specs.Waiting.{Wait}
use Rattle.enough_rules.proofs.Groups.{difference_of}
use Rattle.question_model.specs.EnoughLines.{all_waits}
use Rattle.report.specs.FirstCrashes.{IsFirstIfAny}
use Rattle.report.specs.OnChoices.{lines_at}
use Rattle.report.proofs.SparedLines.{detail_by, graph_waiting, lines_where_none, need_without}
use Rattle.report.proofs.making.lines.need_of_lines.Goals as goal

pub first_crash-requires : goal.first_crash-requires
first_crash-requires g c =
    let o = c.args.oracle.now in
    let rest = difference_of (all_waits o.traced.now.waits) c.args.group in
    let is = c.in_ok-script.ensures rest.0 rest.1 in
    record {
      on_base = record {
        fits = is.fits;
        undo = (graph_waiting c.args.explain o c.in_ok-script.script rest.0 is).undo;
      };
    }

pub unreachable-requires : goal.unreachable-requires
unreachable-requires g c =
    let o = c.args.oracle.now in
    let script = c.in_ok-script.script in
    let rest = difference_of (all_waits o.traced.now.waits) c.args.group in
    let is = c.in_ok-script.ensures rest.0 rest.1 in
    let earlier = (graph_waiting c.args.explain o script rest.0 is).earlier in
    let none = subst (IsFirstIfAny (detail_by c.args.explain script.demands) o.base.now script.graph) c.in_default.is
    (c.in_ok-first.ensures.first earlier) in
    c.requires rest.0 rest.1 (lines_where_none c.args.explain o script rest.0 is none)

pub returns-clause-need : goal.returns-clause-need
returns-clause-need g c = λ s has.
    let o = c.args.oracle.now in
    let script = c.in_ok-script.script in
    let rest = difference_of (all_waits o.traced.now.waits) c.args.group in
    let is = c.in_ok-script.ensures rest.0 rest.1 in
    let earlier = (graph_waiting c.args.explain o script rest.0 is).earlier in
    need_without c.args.explain o script _ s has c.in_ok-script.ensures
    (c.lines_at.ensures ∙ ap (λ (ws : List Wait). lines_at ws c.args.group) c.waits.ensures) c.new.ensures.items
    (subst (IsFirstIfAny (detail_by c.args.explain script.demands) o.base.now script.graph) c.in-Some.is
    (c.in_ok-first.ensures.first earlier))
