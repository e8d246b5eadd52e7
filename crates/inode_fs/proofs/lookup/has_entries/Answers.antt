use Rattle.std.proofs.Common.{ap, sym, arith}
use Rattle.std.specs.Prelude.{is_some}
use Rattle.std.proofs.lemmas.Grind.{common_steps}
use Rattle.crash_model.proofs.EachBelow.{first_below-none, first_below-lowest}
use Rattle.crash_model.specs.Layout.{is_entry}
use Rattle.inode_fs.proofs.lookup.has_entries.Goals as goal

pub returns-then-not-counts : goal.returns-then-not-counts
returns-then-not-counts g c =
    let d = c.args.image.now in
    sym (ap is_some (first_below-none 10 (is_entry d c.args.dir) (λ k below. grind (arith, common_steps))))

pub returns-then-entry-ne0 : goal.returns-then-entry-ne0
returns-then-entry-ne0 g c =
    let d = c.args.image.now in
    sym (ap is_some (first_below-lowest 10 c.loop-k.k (is_entry d c.args.dir) (omega arith) c.loop-k.invariant
    (grind (arith, common_steps))))

pub returns : goal.returns
returns g c =
    let d = c.args.image.now in
    sym (ap is_some (first_below-none 10 (is_entry d c.args.dir) (λ k below. c.loop-k.invariant k (omega arith))))
