use Rattle.std.proofs.Common.{◌≡◌, ℕ, arith, sym, subst, ◌∙◌}
use Rattle.fs_check.specs.Compared.{AreWithSlots}
use Rattle.fs_check.proofs.ComparedBlocks.{slots-start, found-dead, found-live}
use Rattle.fs_check.proofs.atomic.with_inode.Goals as goal

pub returns-then-not-is_live : goal.returns-then-not-is_live
returns-then-not-is_live g c = found-dead c.args.disk.now c.args.inode c.args.blocks
    (sym c.is_live.ensures ∙ c.if-not-is_live.true)

pub loop-slot-init : goal.loop-slot-init
loop-slot-init g c = slots-start c.args.disk.now c.args.inode c.args.blocks

pub loop-slot-preserved : goal.loop-slot-preserved
loop-slot-preserved g c = c.with_slot-all.ensures c.args.blocks c.loop-slot.invariant

pub returns : goal.returns
returns g c = λ was. found-live c.args.disk.now c.args.inode c.args.blocks c.loop-slot.all was
    (subst (λ (n : ℕ). AreWithSlots c.args.disk.now c.args.inode n c.args.blocks c.loop-slot.all)
    (let whole : c.loop-slot.slot ≡ 4 = omega arith in whole) c.loop-slot.invariant)
