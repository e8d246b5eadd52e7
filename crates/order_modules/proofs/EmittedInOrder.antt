-- Patches with their labels, one more at a time.
use Rattle.std.proofs.Common.{◌≡◌, ℕ, zero, suc, ◌+◌, ◌<◌, ◌≤◌, List, [], ◌∷◌, ◌++◌, length, take, get_or, Some, arith}
use Rattle.std.proofs.Common.{refl, sym, ◌∙◌, ap, add-one}
use Rattle.std.specs.Prelude.{slice_get}
use Rattle.crash_model.specs.Patches.{Place, place, places_of}
use Rattle.crash_model.specs.Trace.{Emitted}
use Rattle.crash_model.specs.declared.patches.Patch.{Patch}
use Rattle.traced_patches.specs.Labels.{emitted_at, emitted_by}
use Rattle.traced_patches.specs.declared.labels.Label.{Label}

pub emitted_none : (ps : List Place) → emitted_by ps [] ≡ []
emitted_none [] = refl
emitted_none (p ∷ ps) = refl

pub emitted_few : (ps : List Place) (ls : List Label) → length (emitted_by ps ls) ≤ length ls
emitted_few [] ls = omega arith
emitted_few (p ∷ ps) [] = omega arith
emitted_few (p ∷ ps) (l ∷ ls) = let few = emitted_few ps ls in omega arith

emitted_next : (patches : List Patch) (labels : List Label) (i : ℕ) (label : Label) (patch : Patch) → i < length labels
    → label ≡ get_or labels i label → slice_get patches i ≡ Some patch
    → emitted_by (places_of patches) (take (suc i) labels) ≡ emitted_by (places_of patches) (take i labels)
    ++ emitted_at (place patch.block patch.offset patch.new.items) label ∷ []
emitted_next [] labels i label patch inside read at = absurd (cc)
emitted_next (p ∷ ps) [] i label patch inside read at = absurd (omega arith)
emitted_next (p ∷ ps) (l ∷ ls) zero label patch inside read at =
    let same_patch : p ≡ patch = cc in
    ap (λ (es : List Emitted). emitted_at (place p.block p.offset p.new.items) l ∷ es) (emitted_none (places_of ps))
    ∙ ap (λ (x : Patch). emitted_at (place x.block x.offset x.new.items) l ∷ []) same_patch
    ∙ ap (λ (x : Label). emitted_at (place patch.block patch.offset patch.new.items) x ∷ []) (sym read)
emitted_next (p ∷ ps) (l ∷ ls) (suc i) label patch inside read at =
    ap (λ (es : List Emitted). emitted_at (place p.block p.offset p.new.items) l ∷ es)
    (emitted_next ps ls i label patch (omega arith) read at)

-- the patches up to an id, with the one of that id
pub emitted_more : (patches : List Patch) (labels : List Label) (i : ℕ) (label : Label) (patch : Patch)
    → i < length labels → label ≡ get_or labels i label → slice_get patches i ≡ Some patch
    → emitted_by (places_of patches) (take (i + 1) labels) ≡ emitted_by (places_of patches) (take i labels)
    ++ emitted_at (place patch.block patch.offset patch.new.items) label ∷ []
emitted_more patches labels i label patch inside read at =
    rw add-one (emitted_next patches labels i label patch inside read at)
