use Rattle.std.proofs.Common.{◌∙◌, subst, sym}
use Rattle.question_model.specs.SearchCounts.{IsShown}
use Rattle.pool_judging.specs.Judging.{search_by}
use Rattle.report.specs.Found.{Kind}
use Rattle.report.specs.OnPools.{IsFirstOfKind}
use Rattle.report.proofs.OneMore.{all_more, field_more}
use Rattle.report.proofs.making.kinds.first_of_kinds.Goals as goal

pub first_of_kind-requires : goal.first_of_kind-requires
first_of_kind-requires g c = subst (IsShown (search_by c.args.judge.now)) (sym c.shown-item.is)
    (c.requires c.loop-shown.shown-index c.shown-item.result c.loop-shown-test.true)

pub loop-shown-preserved : goal.loop-shown-preserved
loop-shown-preserved g c =
    let before = c.loop-shown.invariant in
    record {
      shown = field_more (λ (k : Kind). k.shown) c.args.kinds.now c.loop-shown.shown-index _
          c.loop-shown.firsts.items _ _ c.loop-shown-test.true before.shown
          (c.in_ok-first_of_kind.ensures.shown ∙ c.shown-item.is) c.in_ok-push.ensures.items;
      first = all_more (IsFirstOfKind (search_by c.args.judge.now) c.args.explain) c.loop-shown.firsts.items _ _
          before.first c.in_ok-first_of_kind.ensures.first c.in_ok-push.ensures.items;
    }
