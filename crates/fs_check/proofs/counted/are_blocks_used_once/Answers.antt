use Rattle.std.proofs.Common.{◌<◌, length, arith, sym, ◌∙◌, below_more}
use Rattle.std.proofs.lemmas.Bool.{false≢true}
use Rattle.fs_check.proofs.Tallied.{is_twice-many, is_twice-few}
use Rattle.fs_check.proofs.counted.are_blocks_used_once.Goals as goal

pub returns-then-pointer_counts-block-gt1 : goal.returns-then-pointer_counts-block-gt1
returns-then-pointer_counts-block-gt1 g c =
    let block = c.loop-block.block in
    let counts = c.args.pointer_counts.now in
    let within : block < length counts = omega (
      arith,
      c.loop-block-test.true,
      c.blocks-blocks.ensures.range.1,
      c.fits-pointer_counts,
    ) in (
      λ is. absurd (false≢true is),
      λ none. absurd
          (false≢true (sym (none block (omega (arith, c.loop-block-test.true, c.blocks-blocks.ensures.value)))
          ∙ is_twice-many c.args.image.now block counts within c.requires c.if-pointer_counts-block-gt1.true)),
    )

pub loop-block-preserved : goal.loop-block-preserved
loop-block-preserved g c =
    let block = c.loop-block.block in
    let counts = c.args.pointer_counts.now in
    let within : block < length counts = omega (
      arith,
      c.loop-block-test.true,
      c.blocks-blocks.ensures.range.1,
      c.fits-pointer_counts,
    ) in
    below_more _ _ c.loop-block.invariant (is_twice-few c.args.image.now block counts within c.requires
    (omega (arith, c.if-pointer_counts-block-gt1.false)))
