use Rattle.std.proofs.Common.{◌<◌, length, arith, sym, ◌∙◌, below_more}
use Rattle.std.proofs.lemmas.Bool.{false≢true}
use Rattle.fs_check.proofs.Tallied.{has_low_links-many, has_low_links-few}
use Rattle.fs_check.proofs.counted.has_links.Goals as goal

pub returns-then-links-entries : goal.returns-then-links-entries
returns-then-links-entries g c =
    let inode = c.loop-inode.inode in
    let counts = c.args.entry_counts.now in
    let within : inode < length counts = omega (arith, c.loop-inode-test.true, c.fits-entry_counts) in (
      λ is. absurd (false≢true is),
      λ none. absurd (false≢true (sym (none inode c.loop-inode-test.true)
          ∙ has_low_links-many c.args.image.now inode counts within c.requires
          (omega (arith, c.links-links.ensures, c.if-links-entries.true)))),
    )

pub loop-inode-preserved : goal.loop-inode-preserved
loop-inode-preserved g c =
    let inode = c.loop-inode.inode in
    let counts = c.args.entry_counts.now in
    let within : inode < length counts = omega (arith, c.loop-inode-test.true, c.fits-entry_counts) in
    below_more _ _ c.loop-inode.invariant (has_low_links-few c.args.image.now inode counts within
    c.requires (omega (arith, c.links-links.ensures, c.if-links-entries.false)))
