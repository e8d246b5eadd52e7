use Rattle.std.proofs.Common.{◌≡◌, ℕ, arith, sym, ap, subst, ◌∙◌}
use Rattle.patch_sets.specs.Sets.{with_id}
use Rattle.fs_check.specs.Compared.{AreFound}
use Rattle.fs_check.proofs.ComparedBlocks.{found-start, found-all}
use Rattle.fs_check.proofs.atomic.compared_blocks.Goals as goal

pub loop-inode-init : goal.loop-inode-init
loop-inode-init g c = subst (λ (set : ℕ). AreFound c.args.disk.now 0 set)
    (sym (c.with-compared.ensures ∙ ap (λ (set : ℕ). with_id set 3)
    (c.with-2.ensures ∙ ap (λ (set : ℕ). with_id set 2) c.with.ensures)))
    (found-start c.args.disk.now)

pub loop-inode-preserved : goal.loop-inode-preserved
loop-inode-preserved g c = c.with_inode-compared.ensures c.loop-inode.invariant

pub returns : goal.returns
returns g c = found-all c.args.disk.now c.loop-inode.compared c.blocks-blocks.ensures.disk.least
    (subst (λ (n : ℕ). AreFound c.args.disk.now n c.loop-inode.compared)
    (let all : c.loop-inode.inode ≡ 16 = omega arith in all) c.loop-inode.invariant)
