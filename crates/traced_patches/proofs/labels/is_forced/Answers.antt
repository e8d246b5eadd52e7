use Rattle.std.proofs.Common.{◌≡◌, ℕ, Bool, true, false, refl, sym, eq-eqb}
use Rattle.std.specs.Prelude.{IsTrue, ◌↔◌}
use Rattle.std.specs.Int.{bit_at}
use Rattle.std.proofs.lemmas.Bool.{eqb-true}
use Rattle.patch_sets.specs.Sets.{Has, has}
use Rattle.traced_patches.proofs.labels.is_forced.Goals as goal

-- a test of a set's ids is the defined one
has_is : (test : Bool) (set id : ℕ) → (IsTrue test ↔ Has set id) → test ≡ has set id
has_is true set id is = sym (eq-eqb (bit_at set id) 1 (is.0 refl))
has_is false set id is = by (has set id) refl
  where
    by : (b : Bool) → has set id ≡ b → false ≡ b
    by false e = refl
    by true e = is.1 (eqb-true (bit_at set id) 1 e)

pub returns : goal.returns
returns c = has_is c.has.result c.args.later.now.origin.waits_for c.args.id c.has.ensures
