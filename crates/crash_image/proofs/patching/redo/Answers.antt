use Rattle.std.proofs.Common.{◌≡◌, ℕ, length, ap, sym, ◌∙◌}
use Rattle.crash_model.specs.Disk.{Disk}
use Rattle.crash_model.specs.Patches.{image_of}
use Rattle.crash_image.specs.Moves.{with_patch}
use Rattle.crash_image.proofs.PutSteps.{redo_step, still_below, image-empty}
use Rattle.crash_image.proofs.patching.redo.Goals as goal

pub loop-id-preserved : goal.loop-id-preserved
loop-id-preserved g c =
    let p = c.patch-patch.result.now in
    let put_is : c.put.new.self ≡ with_patch p c.loop-id.image = cc in
    record {
      rest = redo_step c.loop-id.image c.put.new.self (image_of c.args.image.now c.args.graph.now c.args.set)
          c.args.graph.now c.loop-id.left c.in-Some.id
          c.without_lowest-left.result p c.patch-patch.ensures.at
          (c.without_lowest-left.ensures.others c.in-Some.id c.in-Some.ensures.found) c.in-Some.ensures.found put_is
          c.loop-id.invariant.rest;
      known = still_below (length c.args.graph.now) c.loop-id.left c.in-Some.id c.without_lowest-left.result
          (c.without_lowest-left.ensures.others c.in-Some.id c.in-Some.ensures.found) c.loop-id.invariant.known;
      blocks = ap (λ (d : Disk). d.blocks) put_is ∙ c.loop-id.invariant.blocks;
    }

pub returns : goal.returns
returns g c =
    sym (image-empty c.loop-id.image c.args.graph.now)
    ∙ ap (λ (s : ℕ). image_of c.loop-id.image c.args.graph.now s) (sym c.in_default.ensures.found)
    ∙ c.loop-id.invariant.rest
