use Rattle.std.proofs.Common.{arith, sym, ◌∙◌, refl}
use Rattle.fs_check.specs.Passed.{slots_of}
use Rattle.fs_check.proofs.Passed.{passed-start}
use Rattle.fs_check.proofs.Slots.{slots-dead, slots-all}
use Rattle.fs_check.proofs.clean.has_clean_pointers.Goals as goal
use Rattle.fs_check.proofs.clean.has_clean_pointers.Goals.{else-is_live-via-then-is_live+else-not-has_clean_slots}
use Rattle.fs_check.proofs.clean.has_clean_pointers.Goals.{else-is_live-via-else-is_live}

pub loop-inode-init : goal.loop-inode-init
loop-inode-init g c = passed-start (slots_of c.args.image.now)

pub loop-inode-preserved : goal.loop-inode-preserved
loop-inode-preserved g c =
    elim c.else-is_live.branch [
      | else-is_live-via-then-is_live+else-not-has_clean_slots w ↦ rw w.named-is (w.if-not-has_clean_slots.ensures)
      | else-is_live-via-else-is_live w ↦ rw w.named-is (slots-dead c.args.image.now c.loop-inode.inode
          c.loop-inode.named (sym c.is_live.ensures ∙ w.if-is_live.false) c.loop-inode.invariant)
    ]

pub returns : goal.returns
returns g c = (
  λ t. slots-all c.args.image.now c.loop-inode.inode c.loop-inode.named (omega arith) (omega arith)
      c.loop-inode.invariant,
  λ clean. refl,
)
