-- What a trace says of its patches.
use Rattle.std.proofs.Common.{◌≡◌, ℕ, zero, suc, List, [], ◌∷◌, Bool, true, false, Some, length, arith, tests, refl}
use Rattle.std.proofs.Common.{sym, ◌∙◌, ap, subst}
use Rattle.std.specs.Prelude.{◌↔◌, IsTrue, slice_get}
use Rattle.crash_model.specs.Patches.{Place, place, places_of, overlap}
use Rattle.crash_model.specs.Trace.{Emitted}
use Rattle.crash_model.specs.declared.patches.Patch.{Patch}
use Rattle.patch_graph.specs.Graph.{Overlaps}
use Rattle.traced_patches.specs.Labels.{emitted_at, emitted_by}
use Rattle.traced_patches.specs.declared.labels.Label.{Label}

-- ---- patches by their ids

-- the emitted patch of an id is its patch with its label
pub emitted_read : (patches : List Patch) (labels : List Label) (id : ℕ) (label : Label) (patch : Patch) (e : Emitted)
    → slice_get labels id ≡ Some label → slice_get patches id ≡ Some patch
    → slice_get (emitted_by (places_of patches) labels) id ≡ Some e
    → e ≡ emitted_at (place patch.block patch.offset patch.new.items) label
emitted_read [] labels id label patch e at_label at_patch at = absurd (cc)
emitted_read (x ∷ patches) [] id label patch e at_label at_patch at = absurd (cc)
emitted_read (x ∷ patches) (l ∷ labels) zero label patch e at_label at_patch at =
    let same_label : l ≡ label = cc in
    let same_patch : x ≡ patch = cc in
    let is : emitted_at (place x.block x.offset x.new.items) l ≡ e = cc in
    sym is ∙ ap (λ (y : Patch). emitted_at (place y.block y.offset y.new.items) l) same_patch
    ∙ ap (λ (m : Label). emitted_at (place patch.block patch.offset patch.new.items) m) same_label
emitted_read (x ∷ patches) (l ∷ labels) (suc id) label patch e at_label at_patch at =
    emitted_read patches labels id label patch e at_label at_patch at

-- an emitted patch has the place of its id's patch
pub emitted_placed : (patches : List Patch) (labels : List Label) (id : ℕ) (patch : Patch) (e : Emitted)
    → slice_get patches id ≡ Some patch → slice_get (emitted_by (places_of patches) labels) id ≡ Some e
    → e.place ≡ place patch.block patch.offset patch.new.items
emitted_placed [] labels id patch e at_patch at = absurd (cc)
emitted_placed (x ∷ patches) [] id patch e at_patch at = absurd (cc)
emitted_placed (x ∷ patches) (l ∷ labels) zero patch e at_patch at =
    let same : x ≡ patch = cc in
    let is : emitted_at (place x.block x.offset x.new.items) l ≡ e = cc in
    sym (ap (λ (y : Emitted). y.place) is) ∙ ap (λ (y : Patch). place y.block y.offset y.new.items) same
emitted_placed (x ∷ patches) (l ∷ labels) (suc id) patch e at_patch at =
    emitted_placed patches labels id patch e at_patch at

-- an emitted patch is that of its id
pub emitted_there : (patches : List Patch) (labels : List Label) (id : ℕ) (label : Label) (patch : Patch)
    → slice_get labels id ≡ Some label → slice_get patches id ≡ Some patch
    → slice_get (emitted_by (places_of patches) labels) id
    ≡ Some (emitted_at (place patch.block patch.offset patch.new.items) label)
emitted_there [] labels id label patch at_label at_patch = absurd (cc)
emitted_there (x ∷ patches) [] id label patch at_label at_patch = absurd (cc)
emitted_there (x ∷ patches) (l ∷ labels) zero label patch at_label at_patch =
    let same_label : l ≡ label = cc in
    let same_patch : x ≡ patch = cc in
    ap (λ (y : Patch). Some (emitted_at (place y.block y.offset y.new.items) l)) same_patch
    ∙ ap (λ (m : Label). Some (emitted_at (place patch.block patch.offset patch.new.items) m)) same_label
emitted_there (x ∷ patches) (l ∷ labels) (suc id) label patch at_label at_patch =
    emitted_there patches labels id label patch at_label at_patch

pub length-emitted : (patches : List Patch) (labels : List Label) → length labels ≡ length patches
    → length (emitted_by (places_of patches) labels) ≡ length patches
length-emitted [] labels same = refl
length-emitted (x ∷ patches) [] same = same
length-emitted (x ∷ patches) (l ∷ labels) same = ap (λ (n : ℕ). suc n) (length-emitted patches labels (cc))

-- an emitted patch has its label
pub label_read : (ps : List Place) (labels : List Label) (id : ℕ) (label : Label) (e : Emitted)
    → slice_get labels id ≡ Some label → slice_get (emitted_by ps labels) id ≡ Some e → e ≡ emitted_at e.place label
label_read [] labels id label e at_label at = absurd (cc)
label_read (p ∷ ps) [] id label e at_label at = absurd (cc)
label_read (p ∷ ps) (l ∷ labels) zero label e at_label at =
    let same : l ≡ label = cc in
    let is : emitted_at p l ≡ e = cc in
    subst (λ (x : Emitted). x ≡ emitted_at x.place label) is (ap (λ (m : Label). emitted_at p m) same)
label_read (p ∷ ps) (l ∷ labels) (suc id) label e at_label at = label_read ps labels id label e at_label at

-- ---- overlap

overlap_true : (q p : Patch) → Overlaps p q → overlap (place q.block q.offset q.new.items)
    (place p.block p.offset p.new.items) ≡ true
overlap_true q p o = let a = o.together in let b = o.below in let c = o.above in grind (arith, tests)

from_overlap : (q p : Patch) → overlap (place q.block q.offset q.new.items) (place p.block p.offset p.new.items) ≡ true
    → Overlaps p q
from_overlap q p t = record {
  together = grind (arith, tests);
  below = grind (arith, tests);
  above = grind (arith, tests);
}

same_truth : (a b : Bool) → (a ≡ true → b ≡ true) → (b ≡ true → a ≡ true) → a ≡ b
same_truth true b to from = sym (to refl)
same_truth false true to from = from refl
same_truth false false to from = refl

pub overlap_read : (q p : Patch) (test : Bool) → (IsTrue test ↔ Overlaps p q)
    → test ≡ overlap (place q.block q.offset q.new.items) (place p.block p.offset p.new.items)
overlap_read q p test is = same_truth test (overlap (place q.block q.offset q.new.items)
    (place p.block p.offset p.new.items)) (λ t. overlap_true q p (is.0 t)) (λ t. is.1 (from_overlap q p t))
