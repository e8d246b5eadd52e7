use Rattle.std.proofs.Common.{arith, sym}
use Rattle.crash_model.proofs.Shown.{no_such_block}
use Rattle.fs_check.proofs.atomic.has_block.Goals as goal

pub returns-then-block-most : goal.returns-then-block-most
returns-then-block-most g c = sym (no_such_block c.args.image.now c.args.disk.now c.args.block
    c.blocks-most.ensures.disk c.blocks-disk.ensures.disk c.requires
    (omega (arith, c.blocks-most.ensures.value, c.if-block-most.true)))
