use Rattle.std.proofs.Common.{◌∙◌, subst}
use Rattle.report.specs.FirstCrashes.{IsFirstCrash, decided_of}
use Rattle.report.specs.Makers.{Making}
use Rattle.report.proofs.OneMore.{all_more, field_more}
use Rattle.report.proofs.making.maker.first_crashes.Goals as goal

pub loop-fault-preserved : goal.loop-fault-preserved
loop-fault-preserved g c =
    let before = c.loop-fault.invariant in
    let maker = c.args.maker.now in
    let first = c.in_ok-first.field-0 in
    record {
      kept = c.first.ensures.kept ∙ before.kept;
      decided = field_more decided_of c.args.faults.now c.loop-fault.fault-index _ c.loop-fault.crashes.items
          c.push.new.self.items first c.loop-fault-test.true before.decided c.in_ok-first.ensures.decided
          c.in_ok-push.ensures.items;
      each = all_more (IsFirstCrash maker.detail maker.base maker.patches) c.loop-fault.crashes.items
          c.push.new.self.items first before.each
          (subst (λ (m : Making). IsFirstCrash m.detail m.base m.patches first) before.kept
          c.in_ok-first.ensures.made) c.in_ok-push.ensures.items;
    }
