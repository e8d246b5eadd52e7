use Rattle.std.proofs.Common.{◌<◌, length, arith, refl, sym, ◌∙◌}
use Rattle.fs_check.proofs.Tallied.{pointer_counts-most, pointer_counts-tame, pointer_counts-wild}
use Rattle.fs_check.proofs.references.count_pointer.Goals as goal

pub overflow_add-pointer_counts : goal.overflow_add-pointer_counts
overflow_add-pointer_counts g c =
    let within : c.args.pointer.block < length c.args.pointer_counts.now =
    omega (arith, c.is_data.ensures.within c.if-is_data.true, c.fits-pointer_counts) in
    omega (
      arith,
      pointer_counts-most c.args.image.now c.args.pointer.inode c.args.pointer.slot c.args.pointer.block
          c.args.pointer_counts.now within c.requires.pointer_counts,
      c.requires.inode,
      c.requires.slot,
    )

pub returns-then-is_data : goal.returns-then-is_data
returns-then-is_data g c =
    let pointer = c.args.pointer in
    pointer_counts-tame c.args.image.now pointer.inode c.args.pointer_counts.now pointer.slot pointer.block _
    c.requires.live
    c.requires.block c.requires.some
    (sym c.is_data.ensures.value ∙ c.if-is_data.true) (omega
    (arith, c.is_data.ensures.within c.if-is_data.true, c.fits-pointer_counts)) refl c.requires.pointer_counts

pub returns-else-is_data : goal.returns-else-is_data
returns-else-is_data g c =
    let pointer = c.args.pointer in
    pointer_counts-wild c.args.image.now pointer.inode c.args.pointer_counts.now pointer.slot pointer.block
    c.requires.block
    (sym c.is_data.ensures.value ∙ c.if-is_data.false) c.requires.pointer_counts
