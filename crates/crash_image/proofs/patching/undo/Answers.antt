use Rattle.std.proofs.Common.{◌≡◌, ℕ, length, ap, sym, ◌∙◌}
use Rattle.crash_model.specs.Disk.{Disk}
use Rattle.crash_image.specs.Moves.{without_patch, without_set}
use Rattle.crash_image.proofs.PutSteps.{undo_step, still_below, without_patches-empty}
use Rattle.crash_image.proofs.patching.undo.Goals as goal

pub loop-id-preserved : goal.loop-id-preserved
loop-id-preserved g c =
    let p = c.patch-patch.result.now in
    let put_is : c.put.new.self ≡ without_patch p c.loop-id.image = cc in
    record {
      rest = undo_step c.loop-id.image c.put.new.self (without_set c.args.image.now c.args.graph.now c.args.set)
          c.args.graph.now c.loop-id.left c.in-Some.id
          c.without-left.result p c.patch-patch.ensures.at c.without-left.ensures.others c.in-Some.ensures.found put_is
          c.loop-id.invariant.rest;
      known = still_below (length c.args.graph.now) c.loop-id.left c.in-Some.id c.without-left.result
          c.without-left.ensures.others c.loop-id.invariant.known;
      blocks = ap (λ (d : Disk). d.blocks) put_is ∙ c.loop-id.invariant.blocks;
    }

pub returns : goal.returns
returns g c =
    sym (without_patches-empty c.loop-id.image c.args.graph.now)
    ∙ ap (λ (s : ℕ). without_set c.loop-id.image c.args.graph.now s) (sym c.in_default.ensures.found)
    ∙ c.loop-id.invariant.rest
