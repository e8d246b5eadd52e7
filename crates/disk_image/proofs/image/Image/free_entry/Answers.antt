use Rattle.std.proofs.Common.{sym, arith}
use Rattle.std.proofs.lemmas.Grind.{common_steps}
use Rattle.crash_model.proofs.EachBelow.{first_below-none, first_below-lowest}
use Rattle.crash_model.specs.Plan.{is_free_entry}
use Rattle.disk_image.proofs.image.Image.free_entry.Goals as goal

pub returns-then-not-counts-clause-value : goal.returns-then-not-counts-clause-value
returns-then-not-counts-clause-value g c = sym (first_below-none 10 (is_free_entry c.args.self.now c.args.dir)
    (λ k below. grind (arith, common_steps)))

pub returns-then-entry-eq0-clause-value : goal.returns-then-entry-eq0-clause-value
returns-then-entry-eq0-clause-value g c =
    sym (first_below-lowest 10 c.loop-k.k (is_free_entry c.args.self.now c.args.dir) (omega arith) c.loop-k.invariant
    (grind (arith, common_steps)))

pub returns-clause-value : goal.returns-clause-value
returns-clause-value g c = sym (first_below-none 10 (is_free_entry c.args.self.now c.args.dir)
    (λ k below. c.loop-k.invariant k (omega arith)))
