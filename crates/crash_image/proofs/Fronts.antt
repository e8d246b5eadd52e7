-- A closed set has, of the patches that cover a byte, all up to one of them: each depends on those before it.
use Rattle.std.proofs.Common.{◌≡◌, ℕ, zero, suc, ◌+◌, ◌*◌, ◌<◌, ◌≤◌, inl, inr, List, [], ◌∷◌, length, get_or, true}
use Rattle.std.proofs.Common.{Some, None, arith, refl, sym, ◌∙◌, ap, subst}
use Rattle.std.specs.Prelude.{is_some, slice_get, slice_index}
use Rattle.std.specs.List.{All}
use Rattle.std.proofs.lemmas.List.Elements.{All-head, All-tail}
use Rattle.patch_sets.specs.Sets.{Has, has}
use Rattle.patch_sets.specs.Closed.{IsClosed}
use Rattle.patch_sets.proofs.Ids.{has_true, from_has}
use Rattle.patch_graph.specs.Graph.{IsPatch, IsGraph, Overlaps}
use Rattle.crash_model.specs.Disk.{Disk}
use Rattle.crash_model.specs.Patches.{deps_of}
use Rattle.crash_model.specs.declared.patches.Patch.{Patch}
use Rattle.crash_image.specs.Moves.{AreOver}
use Rattle.crash_image.proofs.Cells.{HasFront, front_from}
use Rattle.crash_image.proofs.ImageBytes.{start_of, AllFit, cells, inside_or_not}

-- the ranges of patches of the first blocks end within them
pub all_fit : (blocks n : ℕ) (ps : List Patch) → n ≡ 128 * blocks → All IsPatch ps → All (λ p. p.block < blocks) ps
    → AllFit n ps
all_fit blocks n [] e each known = tt
all_fit blocks n (p ∷ ps) e each known =
    let inside : p.offset + length p.new.items ≤ 128 = (All-head IsPatch p ps each).inside in
    let below : p.block < blocks = All-head (λ q. q.block < blocks) p ps known in (
      record { fits = omega arith },
      all_fit blocks n ps e (All-tail IsPatch p ps each)
          (All-tail (λ q. q.block < blocks) p ps known),
    )

-- a patch that covers a byte
pub record Covers (ps : List Patch) (i q : ℕ) : Type 0 where
  pub patch : Patch
  pub is : slice_get ps q ≡ Some patch
  pub whole : IsPatch patch
  pub from : start_of patch ≤ i
  pub to : i < start_of patch + length patch.new.items

pub covers : (ps : List Patch) (i q : ℕ) → All IsPatch ps → is_some (get_or (cells i ps) q None) ≡ true → Covers ps i q
covers [] i q each some = absurd (cc)
covers (p ∷ ps) i zero each some = elim (inside_or_not (start_of p) (length p.new.items) i) [
  | inl t ↦ record { patch = p; is = refl; whole = All-head IsPatch p ps each; from = t.1; to = t.2 }
  | inr o ↦ let e = o.0 in absurd (cc (rw e at some))
]
covers (p ∷ ps) i (suc q) each some =
    let rest = covers ps i q (All-tail IsPatch p ps each) some in
    record { patch = rest.patch; is = rest.is; whole = rest.whole; from = rest.from; to = rest.to }

pub length-cells : (i : ℕ) (ps : List Patch) → length (cells i ps) ≡ length ps
length-cells i [] = refl
length-cells i (p ∷ ps) = ap suc (length-cells i ps)

-- the dependencies of the patch at a place
deps-at : (ps : List Patch) (q : ℕ) (p : Patch) → slice_get ps q ≡ Some p → slice_index (deps_of ps) q ≡ p.deps
deps-at [] q p is = absurd (cc)
deps-at (x ∷ ps) zero p is = let same : x ≡ p = cc in ap (λ (y : Patch). y.deps) same
deps-at (x ∷ ps) (suc q) p is = deps-at ps q p is

-- of two patches that cover a byte the later depends on the earlier
overlap : (ps : List Patch) (i q r : ℕ) → IsGraph ps → q < r → Covers ps i q → Covers ps i r
    → Has (slice_index (deps_of ps) r) q
overlap ps i q r graph before a b =
    let ai : a.patch.offset + length a.patch.new.items ≤ 128 = a.whole.inside in
    let bi : b.patch.offset + length b.patch.new.items ≤ 128 = b.whole.inside in
    let af : 128 * a.patch.block + a.patch.offset ≤ i = a.from in
    let at : i < 128 * a.patch.block + a.patch.offset + length a.patch.new.items = a.to in
    let bf : 128 * b.patch.block + b.patch.offset ≤ i = b.from in
    let bt : i < 128 * b.patch.block + b.patch.offset + length b.patch.new.items = b.to in
    let together : a.patch.block ≡ b.patch.block = omega arith in
    let shared : Overlaps a.patch b.patch = record { together = together; below = omega arith; above = omega arith } in
    let depends : Has b.patch.deps q = graph.ordered q r b.patch before b.is (a.patch, a.is, shared) in
    subst (λ (s : ℕ). Has s q) (sym (deps-at ps r b.patch b.is)) depends

pub front_of : (base : Disk) (ps : List Patch) (set i : ℕ) → AreOver base ps → IsClosed (deps_of ps) set
    → HasFront 0 (cells i ps) set
front_of base ps set i over closed = front_from (cells i ps) 0 set record {
  earlier = λ q r before long first second is.
      let a = covers ps i q over.graph.each first in
      let b = covers ps i r over.graph.each second in
      let member : Has set r = from_has set r (sym (ap (λ (k : ℕ). has set k) (plus r)) ∙ is) in
      ap (λ (k : ℕ). has set k) (plus q) ∙ has_true set q (closed.whole r q member
      (overlap ps i q r over.graph before a b));
}
  where
    plus : (k : ℕ) → 0 + k ≡ k
    plus k = omega arith
