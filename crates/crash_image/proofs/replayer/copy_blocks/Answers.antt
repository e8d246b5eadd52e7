use Rattle.std.proofs.Common.{ℕ, List, arith, ap, ◌∙◌}
use Rattle.crash_model.specs.Disk.{with_bytes}
use Rattle.crash_image.proofs.Differ.{copied_one, copied_beyond, copied_all}
use Rattle.crash_image.proofs.replayer.copy_blocks.Goals as goal
use Rattle.crash_image.proofs.replayer.copy_blocks.Goals.{then-block-count, else-block-count}

pub loop-block-init : goal.loop-block-init
loop-block-init g c = record {
  disk = c.blocks-disk.ensures.disk;
  blocks = c.requires.blocks;
  journal = c.requires.journal;
  generations = c.requires.generations;
  others = c.requires.others;
}

pub loop-block-preserved : goal.loop-block-preserved
loop-block-preserved g c = elim c.if-block-count.branch [
  | then-block-count w ↦ rw w.into-is (copied_one c.args.from.now c.loop-block.into w.put.new.self c.loop-block.left
      c.without_lowest-left.result c.in-Some.block
      c.blocks-count.ensures.disk (c.without_lowest-left.ensures.others c.in-Some.block c.in-Some.ensures.found)
      (omega (arith, w.if-block-count.true, c.blocks-count.ensures.value))
      (w.put.ensures ∙ ap (λ (xs : List ℕ). with_bytes c.loop-block.into c.in-Some.block 0 xs) w.block.ensures.bytes)
      c.loop-block.invariant)
  | else-block-count w ↦ rw w.into-is (copied_beyond c.args.from.now c.loop-block.into c.loop-block.left
      c.without_lowest-left.result c.in-Some.block
      (c.without_lowest-left.ensures.others c.in-Some.block c.in-Some.ensures.found)
      (omega (arith, w.if-block-count.false, c.blocks-count.ensures.value)) c.loop-block.invariant)
]

pub returns : goal.returns
returns g c = copied_all c.args.from.now c.loop-block.into c.loop-block.left c.blocks-count.ensures.disk
    c.in_default.ensures.found c.loop-block.invariant
