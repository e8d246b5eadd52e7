-- The graph of a trace is determined.
use Rattle.std.proofs.Common.{◌≡◌, ℕ, zero, suc, ◌+◌, ◌*◌, ◌<◌, ◌≤◌, List, [], ◌∷◌, length, map, arith, refl, sym}
use Rattle.std.proofs.Common.{subst, ap, ◌∙◌, inl, inr}
use Rattle.std.specs.Prelude.{◌⊎◌, Some, slice_get, slice_index, slice_range}
use Rattle.patch_sets.specs.Sets.{Has, IsSubset}
use Rattle.patch_sets.proofs.Bits.{none_in_empty, same_set}
use Rattle.crash_model.specs.Disk.{Disk, with_bytes}
use Rattle.crash_model.specs.Patches.{Place, place, places_of, deps_of, AreUndo}
use Rattle.crash_model.specs.Trace.{Emitted, IsGraphOf}
use Rattle.crash_model.specs.Tracing.{Tracing}
use Rattle.crash_model.specs.declared.patches.Patch.{Patch}
use Rattle.crash_model.specs.declared.rules.Rule.{Rule}

abbrev undos_of : List Patch → List (List ℕ)
undos_of patches = map (λ p. p.undo.items) patches

same_patch : (p q : Patch) → place p.block p.offset p.new.items ≡ place q.block q.offset q.new.items
    → p.undo.items ≡ q.undo.items → p.deps ≡ q.deps → p ≡ q
same_patch p q places undo deps = λ i. record {
  block = (places i).block;
  offset = (places i).offset;
  new = record { items = (places i).new };
  undo = record { items = undo i };
  deps = deps i;
}

pub heads : {X : Type 0} {x y : X} {xs ys : List X} → x ∷ xs ≡ y ∷ ys → x ≡ y
heads e = cc

pub tails : {X : Type 0} {x y : X} {xs ys : List X} → x ∷ xs ≡ y ∷ ys → xs ≡ ys
tails e = cc

same_patches : (ps qs : List Patch) → places_of ps ≡ places_of qs → undos_of ps ≡ undos_of qs → deps_of ps ≡ deps_of qs
    → ps ≡ qs
same_patches [] [] places undos deps = refl
same_patches [] (q ∷ qs) places undos deps = cc
same_patches (p ∷ ps) [] places undos deps = cc
same_patches (p ∷ ps) (q ∷ qs) places undos deps =
    let first : p ≡ q = same_patch p q (heads places) (heads undos) (heads deps) in
    let rest : ps ≡ qs = same_patches ps qs (tails places) (tails undos) (tails deps) in
    cc (first, rest)

-- undo data are what the places make them
undos_one : (d e : Disk) (ps qs : List Patch) → d ≡ e → places_of ps ≡ places_of qs → AreUndo d ps → AreUndo e qs
    → undos_of ps ≡ undos_of qs
undos_one d e [] [] same places are are_too = refl
undos_one d e [] (q ∷ qs) same places are are_too = cc
undos_one d e (p ∷ ps) [] same places are are_too = cc
undos_one d e (p ∷ ps) (q ∷ qs) same places are are_too =
    let first : place p.block p.offset p.new.items ≡ place q.block q.offset q.new.items = heads places in
    let undo : p.undo.items ≡ q.undo.items = are.0 ∙ (undo_at d e (place p.block p.offset p.new.items)
    (place q.block q.offset q.new.items) same first ∙ sym are_too.0) in
    let rest : undos_of ps ≡ undos_of qs = undos_one (with_bytes d p.block p.offset p.new.items)
    (with_bytes e q.block q.offset q.new.items) ps qs
    (λ i. with_bytes (same i) (first i).block (first i).offset (first i).new) (tails places) are.1 are_too.1 in
    cc (undo, rest)
  where
    undo_at : (d e : Disk) (x y : Place) → d ≡ e → x ≡ y
        → slice_range d.bytes (128 * x.block + x.offset) (128 * x.block + x.offset + length x.new)
        ≡ slice_range e.bytes (128 * y.block + y.offset) (128 * y.block + y.offset + length y.new)
    undo_at d e x y same at = λ i. slice_range (same i).bytes (128 * (at i).block + (at i).offset)
        (128 * (at i).block + (at i).offset + length (at i).new)

same_numbers : (xs ys : List ℕ) → length xs ≡ length ys → ((i : ℕ) → slice_index xs i ≡ slice_index ys i) → xs ≡ ys
same_numbers [] [] long each = refl
same_numbers [] (y ∷ ys) long each = absurd (omega arith)
same_numbers (x ∷ xs) [] long each = absurd (omega arith)
same_numbers (x ∷ xs) (y ∷ ys) long each =
    let first : x ≡ y = each 0 in
    let rest : xs ≡ ys = same_numbers xs ys (omega arith) (λ i. each (suc i)) in
    cc (first, rest)

length_places : (ps : List Patch) → length (places_of ps) ≡ length (deps_of ps)
length_places [] = refl
length_places (p ∷ ps) = let rest = length_places ps in omega arith

length_emitted : (es : List Emitted) → length (map (λ e. e.place) es) ≡ length es
length_emitted [] = refl
length_emitted (e ∷ es) = let rest = length_emitted es in omega arith

index_past : (xs : List ℕ) (i : ℕ) → length xs ≤ i → slice_index xs i ≡ 0
index_past [] i past = refl
index_past (x ∷ xs) zero past = absurd (omega arith)
index_past (x ∷ xs) (suc i) past = index_past xs i (omega arith)

below_or_past : (i n : ℕ) → (i < n) ⊎ (n ≤ i)
below_or_past i n = grind arith

get_some : {X : Type 0} (xs : List X) (i : ℕ) → i < length xs → (x : X) × (slice_get xs i ≡ Some x)
get_some [] i below = absurd (omega arith)
get_some (x ∷ xs) zero below = (x, refl)
get_some (x ∷ xs) (suc i) below = get_some xs i (omega arith)

module _ (rules : List Rule) (base : Disk) (s : Tracing) where
  length_deps : (ps : List Patch) → IsGraphOf rules base s ps → length (deps_of ps) ≡ length s.emitted
  length_deps ps graph = sym (length_places ps) ∙ (ap length graph.places ∙ length_emitted s.emitted)

  deps_within : (ps qs : List Patch) → IsGraphOf rules base s ps → IsGraphOf rules base s qs → (q : ℕ)
      → IsSubset (slice_index (deps_of ps) q) (slice_index (deps_of qs) q)
  deps_within ps qs graph other q p dep = elim (below_or_past q (length s.emitted)) [
    | inl below ↦
        let before = graph.earlier q p dep in
        let at_q = get_some s.emitted q below in
        let at_p = get_some s.emitted p (omega arith) in
        (other.exactly q p at_q.0 at_p.0 before at_q.1 at_p.1).1
        ((graph.exactly q p at_q.0 at_p.0 before at_q.1 at_p.1).0 dep)
    | inr past ↦ absurd (none_in_empty p (subst (λ d. Has d p)
        (index_past (deps_of ps) q (omega (arith, length_deps ps graph))) dep))
  ]

  pub graph_one : (ps qs : List Patch) → IsGraphOf rules base s ps → IsGraphOf rules base s qs → ps ≡ qs
  graph_one ps qs graph other =
      let places = graph.places ∙ sym other.places in
      same_patches ps qs places
      (undos_one base base ps qs refl places graph.undo other.undo)
      (same_numbers (deps_of ps) (deps_of qs) (length_deps ps graph ∙ sym (length_deps qs other))
      (λ q. same_set (slice_index (deps_of ps) q) (slice_index (deps_of qs) q) (deps_within ps qs graph other q)
      (deps_within qs ps other graph q)))
