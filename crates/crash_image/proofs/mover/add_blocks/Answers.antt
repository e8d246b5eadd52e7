use Rattle.std.proofs.Common.{ℕ, length, ap, ◌∙◌}
use Rattle.patch_sets.specs.Sets.{with_id}
use Rattle.crash_image.proofs.Differ.{all_left, one_added, none_left, subset_with}
use Rattle.crash_image.proofs.PutSteps.{still_below}
use Rattle.crash_image.proofs.mover.add_blocks.Goals as goal

pub loop-id-init : goal.loop-id-init
loop-id-init g c = record {
  old = λ id is. is;
  more = all_left c.args.graph.now c.args.set c.args.blocks;
  known = c.requires.known;
}

pub loop-id-preserved : goal.loop-id-preserved
loop-id-preserved g c =
    let is = c.with-all.ensures ∙ ap (λ (b : ℕ). with_id c.loop-id.all b) c.from.ensures in
    record {
      old = subset_with c.args.blocks c.loop-id.all c.with-all.result c.from.result c.with-all.ensures
          c.loop-id.invariant.old;
      more = one_added c.args.graph.now c.args.set c.loop-id.left c.without_lowest-left.result c.loop-id.all
          c.with-all.result c.in-Some.id c.patch.result.now
          c.patch.ensures.at (c.without_lowest-left.ensures.others c.in-Some.id c.in-Some.ensures.found) is
          c.loop-id.invariant.more;
      known = still_below (length c.args.graph.now) c.loop-id.left c.in-Some.id c.without_lowest-left.result
          (c.without_lowest-left.ensures.others c.in-Some.id c.in-Some.ensures.found) c.loop-id.invariant.known;
    }

pub returns-clause-more : goal.returns-clause-more
returns-clause-more g c = none_left c.args.graph.now c.args.set c.loop-id.left c.loop-id.all c.in_default.ensures.found
    c.loop-id.invariant.more
