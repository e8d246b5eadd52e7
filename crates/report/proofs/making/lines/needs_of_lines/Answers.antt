use Rattle.report.specs.Needed.{IsNeedByLines}
use Rattle.report.specs.Found.{Need}
use Rattle.report.proofs.OneMore.{all_more, field_more}
use Rattle.report.proofs.making.lines.needs_of_lines.Goals as goal

pub need_of_lines-requires : goal.need_of_lines-requires
need_of_lines-requires g c = c.requires c.loop-group.group-index 0 c.loop-group-test.true

pub loop-group-preserved : goal.loop-group-preserved
loop-group-preserved g c =
    let before = c.loop-group.invariant in
    record {
      groups = field_more (λ (n : Need). n.group) c.args.groups.now c.loop-group.group-index 0
          c.loop-group.needs.items _ _
          c.loop-group-test.true before.groups c.in_ok-need_of_lines.ensures.group c.in_ok-push.ensures.items;
      needs =
          λ s of_trace. all_more (IsNeedByLines c.args.explain c.args.oracle.now s) c.loop-group.needs.items _ _
          (before.needs s of_trace) (c.in_ok-need_of_lines.ensures.need s of_trace) c.in_ok-push.ensures.items;
    }
