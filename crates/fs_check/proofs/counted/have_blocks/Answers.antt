use Rattle.std.proofs.Common.{sym, ap, ◌∙◌, below_more}
use Rattle.std.specs.Prelude.{is_some}
use Rattle.std.proofs.lemmas.Bool.{false≢true}
use Rattle.crash_model.specs.Strict.{lacks_block}
use Rattle.crash_model.specs.declared.fault.Fault.TheVariants.{NoBlock}
use Rattle.fs_check.proofs.NoneFound.{is_some-when}
use Rattle.fs_check.proofs.counted.have_blocks.Goals as goal

pub returns-then-is_some : goal.returns-then-is_some
returns-then-is_some g c =
    let inode = c.loop-inode.inode in
    let listed = c.is_some.ensures
    ∙ (ap is_some c.bare_at.ensures ∙ is_some-when (lacks_block c.args.image.now inode) (NoBlock inode)) in (
      λ is. absurd (false≢true is),
      λ none. absurd (false≢true (sym (none inode c.loop-inode-test.true) ∙ (sym listed ∙ c.if-is_some.true))),
    )

pub loop-inode-preserved : goal.loop-inode-preserved
loop-inode-preserved g c =
    let inode = c.loop-inode.inode in
    let listed = c.is_some.ensures
    ∙ (ap is_some c.bare_at.ensures ∙ is_some-when (lacks_block c.args.image.now inode) (NoBlock inode)) in
    below_more _ _ c.loop-inode.invariant (sym listed ∙ c.if-is_some.false)
