-- The graph of a trace's patches by other rules: the same patches with other dependencies.
use Rattle.std.proofs.Common.{◌≡◌, ℕ, zero, suc, ◌+◌, ◌<◌, List, [], ◌∷◌, length, map, get_or, Bool, true, false, Some}
use Rattle.std.proofs.Common.{arith, refl, sym, ◌∙◌, ap, subst, inl, inr, cond}
use Rattle.std.specs.Prelude.{◌⊎◌, ◌↔◌, ◌<◌, Option, IsTrue, slice_get}
use Rattle.std.proofs.lemmas.Option.{slice_get_within}
use Rattle.std.proofs.lemmas.List.{length-map}
use Rattle.patch_sets.specs.Closed.{AreEarlier}
use Rattle.patch_sets.specs.Sets.{Has, with_id}
use Rattle.patch_sets.proofs.Bits.{eq_or_not, none_in_empty, in_with_same, in_with_old, in_with_cases}
use Rattle.crash_model.specs.Disk.{Disk, with_bytes}
use Rattle.crash_model.specs.Patches.{Place, place, places_of, deps_of, AreUndo}
use Rattle.crash_model.specs.Trace.{Emitted, IsGraphOf, depends}
use Rattle.crash_model.specs.Tracing.{Tracing}
use Rattle.crash_model.specs.declared.patches.Patch.{Patch}
use Rattle.crash_model.specs.declared.rules.Rule.{Rule}

-- ---- the set of the ids below n that pass a test

abbrev set_below : ℕ → (ℕ → Bool) → ℕ
set_below zero passes = 0
set_below (suc n) passes = cond (passes n) (with_id (set_below n passes) n) (set_below n passes)

module _ (passes : ℕ → Bool) where
  one_more : (n set : ℕ) (b : Bool) → b ≡ passes n → ((id : ℕ) → Has set id ↔ ((id < n) × (passes id ≡ true)))
      → (id : ℕ) → Has (cond b (with_id set n) set) id ↔ ((id < suc n) × (passes id ≡ true))
  one_more n set true is before id = (
    λ has. elim (in_with_cases set n id has) [
      | inl e ↦ (omega (arith, e), ap passes e ∙ sym is)
      | inr old ↦ let it = (before id).0 old in (omega (arith, it.0), it.1)
    ],
    λ it. elim (eq_or_not id n) [
      | inl e ↦ subst (λ (i : ℕ). Has (with_id set n) i) (sym e) (in_with_same set n)
      | inr ne ↦ in_with_old set n id ((before id).1 (omega (arith, it.0, ne), it.1))
    ],
  )
  one_more n set false is before id = (
    λ has. let it = (before id).0 has in (omega (arith, it.0), it.1),
    λ it. elim (eq_or_not id n) [
      | inl e ↦ let clash : false ≡ true = is ∙ (ap passes (sym e) ∙ it.1) in absurd (cc)
      | inr ne ↦ (before id).1 (omega (arith, it.0, ne), it.1)
    ],
  )

  in_below : (n id : ℕ) → Has (set_below n passes) id ↔ ((id < n) × (passes id ≡ true))
  in_below zero id = (λ has. absurd (none_in_empty id has), λ it. absurd (omega (arith, it.0)))
  in_below (suc n) id = one_more n (set_below n passes) (passes n) refl (in_below n) id

-- ---- the patches with other dependencies

abbrev with_deps : (ℕ → ℕ) → ℕ → List Patch → List Patch
with_deps deps id [] = []
with_deps deps id (p ∷ ps) = record p { deps = deps id } ∷ with_deps deps (suc id) ps

module _ (deps : ℕ → ℕ) where
  same_places : (id : ℕ) (ps : List Patch) → places_of (with_deps deps id ps) ≡ places_of ps
  same_places id [] = refl
  same_places id (p ∷ ps) = ap (λ (rest : List Place). place p.block p.offset p.new.items ∷ rest) (same_places
      (suc id) ps)

  same_undo : (id : ℕ) (d : Disk) (ps : List Patch) → AreUndo d ps → AreUndo d (with_deps deps id ps)
  same_undo id d [] undo = undo
  same_undo id d (p ∷ ps) undo = (undo.0, same_undo (suc id) (with_bytes d p.block p.offset p.new.items) ps undo.1)

  deps_at : (id q : ℕ) (ps : List Patch) → q < length ps → get_or (deps_of (with_deps deps id ps)) q 0 ≡ deps (id + q)
  deps_at id q [] within = absurd (omega arith)
  deps_at id zero (p ∷ ps) within = ap deps {x = id} {y = id + 0} (omega arith)
  deps_at id (suc q) (p ∷ ps) within = deps_at (suc id) q ps (omega arith)
      ∙ ap deps {x = suc id + q} {y = id + suc q} (omega arith)

  deps_past : (id q : ℕ) (ps : List Patch) → (q < length ps → ⊥) → get_or (deps_of (with_deps deps id ps)) q 0 ≡ 0
  deps_past id q [] past = refl
  deps_past id zero (p ∷ ps) past = absurd (past (omega arith))
  deps_past id (suc q) (p ∷ ps) past = deps_past (suc id) q ps (λ within. past (omega arith))

-- ---- the graph

-- whether one depends on the other, where both are there
abbrev depends_if : List Rule → Bool → List (List ℕ × List ℕ) → Option Emitted → ℕ → Option Emitted → Bool
depends_if rules whole links (Some q) id (Some p) = depends rules whole links q id p
depends_if rules whole links _ _ _ = false

pub less_or_not : (a b : ℕ) → (a < b) ⊎ (a < b → ⊥)
less_or_not zero zero = inr (λ less. omega arith)
less_or_not zero (suc b) = inl (omega arith)
less_or_not (suc a) zero = inr (λ less. omega arith)
less_or_not (suc a) (suc b) = elim (less_or_not a b) [
  | inl less ↦ inl (omega (arith, less))
  | inr not ↦ inr (λ less. not (omega (arith, less)))
]

-- by other rules, in another state of tracing with the same places
module _ (rules others : List Rule) (base : Disk) (first s : Tracing) (patches : List Patch)
    (same : map (λ (e : Emitted). e.place) first.emitted ≡ map (λ (e : Emitted). e.place) s.emitted)
    (graph : IsGraphOf rules base first patches) where
  abbrev waits_at : ℕ → ℕ → Bool
  waits_at q p = depends_if others s.whole s.links (slice_get s.emitted q) p (slice_get s.emitted p)

  abbrev deps_by : ℕ → ℕ
  deps_by q = set_below q (waits_at q)

  abbrev changed : List Patch
  changed = with_deps deps_by 0 patches

  as_many : length patches ≡ length s.emitted
  as_many =
      let places : length (places_of patches) ≡ length patches =
      length-map patches (λ (p : Patch). place p.block p.offset p.new.items) in
      let emitted : length (map (λ (e : Emitted). e.place) s.emitted) ≡ length s.emitted =
      length-map s.emitted (λ (e : Emitted). e.place) in
      sym places ∙ (ap (λ (ps : List Place). length ps) (graph.places ∙ same) ∙ emitted)

  at : (q : ℕ) → q < length patches → get_or (deps_of changed) q 0 ≡ deps_by q
  at q within = deps_at deps_by 0 q patches within ∙ ap deps_by {x = 0 + q} {y = q} (omega arith)

  earlier_too : AreEarlier (deps_of changed)
  earlier_too q p has = elim (less_or_not q (length patches)) [
    | inl within ↦ ((in_below (waits_at q) q p).0 (subst (λ (set : ℕ). Has set p) (at q within) has)).0
    | inr past ↦ absurd (none_in_empty p (subst (λ (set : ℕ). Has set p) (deps_past deps_by 0 q patches past) has))
  ]

  waits_is : (q p : ℕ) (later before : Emitted) → slice_get s.emitted q ≡ Some later
      → slice_get s.emitted p ≡ Some before → waits_at q p ≡ depends others s.whole s.links later p before
  waits_is q p later before is_later is_before =
      ap (λ (o : Option Emitted). depends_if others s.whole s.links o p (slice_get s.emitted p)) is_later
      ∙ ap (λ (o : Option Emitted). depends_if others s.whole s.links (Some later) p o) is_before

  exactly_too : (q p : ℕ) (later before : Emitted) → p < q → slice_get s.emitted q ≡ Some later
      → slice_get s.emitted p ≡ Some before
      → (Has (get_or (deps_of changed) q 0) p ↔ IsTrue (depends others s.whole s.links later p before))
  exactly_too q p later before less is_later is_before =
      let within = slice_get_within s.emitted q later is_later in
      let here = at q (omega (arith, as_many, within)) in
      let same = waits_is q p later before is_later is_before in (
        λ has. sym same ∙ ((in_below (waits_at q) q p).0 (subst (λ (set : ℕ). Has set p) here has)).1,
        λ is. subst (λ (set : ℕ). Has set p) (sym here) ((in_below (waits_at q) q p).1 (less, same ∙ is)),
      )

  pub graph_of_others : (other : List Patch) × IsGraphOf others base s other
  graph_of_others = (
    changed,
    record {
      places = same_places deps_by 0 patches ∙ (graph.places ∙ same);
      undo = same_undo deps_by 0 base patches graph.undo;
      earlier = earlier_too;
      exactly = exactly_too;
    },
  )

pub graph_by_others : (rules others : List Rule) (base : Disk) (s : Tracing) (patches : List Patch)
    → IsGraphOf rules base s patches → (other : List Patch) × IsGraphOf others base s other
graph_by_others rules others base s patches = graph_of_others rules others base s s patches refl
