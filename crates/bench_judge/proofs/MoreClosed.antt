-- A closed set with a patch more whose dependencies it has.
use Rattle.std.proofs.Common.{◌≡◌, ℕ, zero, suc, List, [], ◌∷◌, length, arith, refl, subst, ap, ◌∙◌, inl, inr}
use Rattle.std.specs.Prelude.{Some, slice_get, slice_index}
use Rattle.std.proofs.lemmas.Option.{slice_get_within}
use Rattle.patch_sets.specs.Sets.{Has, IsSubset, with_id}
use Rattle.patch_sets.specs.Closed.{IsClosed}
use Rattle.patch_sets.proofs.Bits.{in_with_old, in_with_cases}
use Rattle.crash_model.specs.Patches.{deps_of}
use Rattle.crash_model.specs.declared.patches.Patch.{Patch}

-- the dependencies of the patch at a place
deps-at : (ps : List Patch) (q : ℕ) (p : Patch) → slice_get ps q ≡ Some p → slice_index (deps_of ps) q ≡ p.deps
deps-at [] q p is = absurd (cc)
deps-at (x ∷ ps) zero p is = let same : x ≡ p = cc in ap (λ (y : Patch). y.deps) same
deps-at (x ∷ ps) (suc q) p is = deps-at ps q p is

long : (ps : List Patch) → length (deps_of ps) ≡ length ps
long [] = refl
long (x ∷ ps) = ap suc (long ps)

pub more_closed : (ps : List Patch) (id set : ℕ) (p : Patch) → slice_get ps id ≡ Some p → IsClosed (deps_of ps) set
    → IsSubset p.deps set → IsClosed (deps_of ps) (with_id set id)
more_closed ps id set p is closed within = record {
  known = λ q inside. elim (in_with_cases set id q inside) [
    | inl new ↦ let there = slice_get_within ps id p is in omega (arith, there, new, long ps)
    | inr old ↦ closed.known q old
  ];
  whole = λ q r inside dep. in_with_old set id r (elim (in_with_cases set id q inside) [
    | inl new ↦ within r (subst (λ (s : ℕ). Has s r) (ap (λ (k : ℕ). slice_index (deps_of ps) k) new
        ∙ deps-at ps id p is) dep)
    | inr old ↦ closed.whole q r old dep
  ]);
}
