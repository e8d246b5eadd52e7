-- The explanation of the patches of a trace.
use Rattle.std.proofs.Common.{◌≡◌, ℕ, zero, suc, ◌<◌, List, [], ◌∷◌, length, Bool, true, Option, Some, None, refl, sym}
use Rattle.std.proofs.Common.{ap, ◌∙◌, arith}
use Rattle.std.specs.Prelude.{slice_get, not, ◌==◌}
use Rattle.std.proofs.lemmas.Bool.Decides.{nat_tests}
use Rattle.crash_model.specs.Reasons.{Dependency, ExplainedPatch, reasons}
use Rattle.crash_model.specs.Lists.{some_below, when}
use Rattle.crash_model.specs.Trace.{Emitted, depends}
use Rattle.crash_model.specs.declared.patches.Patch.{Patch}
use Rattle.traced_patches.specs.Traced.{TracedPatches, explained_at, dependency_at}

pub explained_is : (t : TracedPatches) (id : ℕ) (q : Emitted) (p : Patch) → slice_get t.emitted id ≡ Some q
    → slice_get t.patches id ≡ Some p
    → explained_at t id ≡ Some (record {
      id = id;
      emitted = q;
      undo = p.undo.items;
      after = some_below id (dependency_at t q);
    })
explained_is t id q p emitted patch = ap by_emitted emitted ∙ ap by_patch patch
  where
    explained : Emitted → Patch → ExplainedPatch
    explained e x = record { id = id; emitted = e; undo = x.undo.items; after = some_below id (dependency_at t e) }

    by_patch : Option Patch → Option ExplainedPatch
    by_patch o = elim o [ Some x ↦ Some (explained q x) | None ↦ None ]

    by_emitted : Option Emitted → Option ExplainedPatch
    by_emitted o = elim o [
      | Some e ↦ elim (slice_get t.patches id) [ Some x ↦ Some (explained e x) | None ↦ None ]
      | None ↦ None
    ]

-- each id of the trace has a patch
pub emitted_is : (es : List Emitted) (id : ℕ) → id < length es → (e : Emitted) × (slice_get es id ≡ Some e)
emitted_is [] id within = absurd (omega arith)
emitted_is (e ∷ es) zero within = (e, refl)
emitted_is (e ∷ es) (suc id) within = emitted_is es id (omega arith)

-- the dependency on a patch, by whether there is one
abbrev dependency_if : TracedPatches → Emitted → Emitted → ℕ → Bool → Option Dependency
dependency_if t q p earlier test =
    when test (record { id = earlier; reasons = reasons t.rules t.whole t.links q earlier p })

found_at : (t : TracedPatches) (q p : Emitted) (earlier : ℕ) → slice_get t.emitted earlier ≡ Some p
    → dependency_at t q earlier ≡ dependency_if t q p earlier (depends t.rules t.whole t.links q earlier p)
found_at t q p earlier at = ap by_emitted at
  where
    by_emitted : Option Emitted → Option Dependency
    by_emitted o = elim o [
      | Some e ↦ when (depends t.rules t.whole t.links q earlier e)
          (record { id = earlier; reasons = reasons t.rules t.whole t.links q earlier e })
      | None ↦ None
    ]

-- where there is no reason, there is no dependency
pub no_dependency : (t : TracedPatches) (q p : Emitted) (earlier n : ℕ) → slice_get t.emitted earlier ≡ Some p
    → depends t.rules t.whole t.links q earlier p ≡ not (n == 0) → n ≡ 0 → dependency_at t q earlier ≡ None
no_dependency t q p earlier n at some none = found_at t q p earlier at
    ∙ ap (dependency_if t q p earlier) (some ∙ ap (λ (k : ℕ). not (k == 0)) none)

some_is : (n : ℕ) → true ≡ not (suc n == 0)
some_is n = grind (arith, nat_tests)

-- where there are some, they are those of the dependency
pub dependency_is : (t : TracedPatches) (q p : Emitted) (earlier n : ℕ) (texts : List (List ℕ))
    → slice_get t.emitted earlier ≡ Some p → depends t.rules t.whole t.links q earlier p ≡ not (n == 0) → 0 < n
    → texts ≡ reasons t.rules t.whole t.links q earlier p
    → dependency_at t q earlier ≡ Some (record { id = earlier; reasons = texts })
dependency_is t q p earlier zero texts at some any are = absurd (omega arith)
dependency_is t q p earlier (suc n) texts at some any are =
    found_at t q p earlier at ∙ (ap (dependency_if t q p earlier) (some ∙ sym (some_is n))
    ∙ ap (λ (ts : List (List ℕ)). Some (record { id = earlier; reasons = ts })) (sym are))
