use Rattle.std.proofs.Common.{◌∙◌, subst}
use Rattle.report.specs.Made.{IsSection}
use Rattle.report.specs.Makers.{Making}
use Rattle.report.specs.Parts.{Section}
use Rattle.report.proofs.OneMore.{all_more, field_more}
use Rattle.report.proofs.making.maker.sections.Goals as goal

pub loop-set-preserved : goal.loop-set-preserved
loop-set-preserved g c =
    let before = c.loop-set.invariant in
    let maker = c.args.maker.now in
    let section = c.in_ok-section.field-0 in
    record {
      kept = c.section.ensures.kept ∙ before.kept;
      of_sets = field_more (λ (s : Section). s.crash.set) c.args.sets.now c.loop-set.set-index 0
          c.loop-set.sections.items c.push.new.self.items section c.loop-set-test.true before.of_sets
          c.in_ok-section.ensures.set
          c.in_ok-push.ensures.items;
      each = all_more (IsSection maker.detail maker.base maker.patches) c.loop-set.sections.items c.push.new.self.items
          section before.each (subst (λ (m : Making). IsSection m.detail m.base m.patches section) before.kept
          c.in_ok-section.ensures.made) c.in_ok-push.ensures.items;
    }
