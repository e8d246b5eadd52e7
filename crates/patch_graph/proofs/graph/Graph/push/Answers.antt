use Rattle.std.proofs.Common.{◌≡◌, ℕ, ◌<◌, List, [], ◌∷◌, ◌++◌, length, set, bit_or, arith, sym, subst, ap, ◌∙◌, inl}
use Rattle.std.proofs.Common.{inr, refl}
use Rattle.std.specs.Prelude.{◌↔◌, ◌⊎◌}
use Rattle.std.proofs.lemmas.List.{length-map, map_push}
use Rattle.std.proofs.lemmas.Option.{slice_get_within}
use Rattle.patch_sets.specs.Sets.{Has}
use Rattle.patch_sets.proofs.Bits.{in_or_cases, in_or_left, in_or_right}
use Rattle.crash_model.specs.declared.patches.Patch.{Patch}
use Rattle.patch_graph.specs.Graph.{IsGraph, IsPatch, OverlapsAt, AddsOverlaps}
use Rattle.crash_model.specs.Patches.{deps_of, homes_of}
use Rattle.patch_graph.specs.Independent.{AreIndependent, AddsId}
use Rattle.patch_graph.specs.Homes.{AreAtBlocks}
use Rattle.patch_graph.proofs.Independent.{apart_push}
use Rattle.patch_graph.proofs.Homes.{patch_push}
use Rattle.patch_graph.proofs.Patches.{graph_push}
use Rattle.patch_graph.proofs.graph.Graph.push.Goals as goal

-- the patch with the ids of those it overlaps
module _ (patches : List Patch) (patch : Patch) (ids : ℕ)
    (exact : (id : ℕ) → Has ids id ↔ OverlapsAt patches patch id) where
  with_ids : Patch
  with_ids = record patch { deps = bit_or patch.deps ids }

  cases : (id : ℕ) → Has (bit_or patch.deps ids) id ↔ (Has patch.deps id ⊎ OverlapsAt patches patch id)
  cases id = (
    λ is. elim (in_or_cases patch.deps ids id is) [ inl own ↦ inl own | inr over ↦ inr ((exact id).0 over) ],
    λ it. elim it [
      | inl own ↦ in_or_left patch.deps ids id own
      | inr over ↦ in_or_right patch.deps ids id ((exact id).1 over)
    ],
  )

  adds : AddsOverlaps patches patch with_ids
  unfolding with_ids
  adds = record { block = refl; offset = refl; new = refl; undo = refl; deps = cases }

  known_ids : ((id : ℕ) → Has patch.deps id → id < length patches) → (id : ℕ) → Has (bit_or patch.deps ids) id
      → id < length patches
  known_ids earlier id is = elim ((cases id).0 is) [
    | inl own ↦ earlier id own
    | inr over ↦ slice_get_within patches id over.0 over.1
  ]

  keeps : IsGraph patches → length patches < 124 → IsPatch patch → ((id : ℕ) → Has patch.deps id → id < length patches)
      → IsGraph (patches ++ with_ids ∷ [])
  unfolding with_ids
  keeps graph room whole earlier = graph_push patches with_ids graph room
      (record { some = whole.some; undone = whole.undone; inside = whole.inside })
      (known_ids earlier)
      (λ id over. (cases id).1 (inr (
        over.0,
        over.1,
        record {
          together = over.2.together;
          below = over.2.below;
          above = over.2.above;
        },
      )))

pub invariant_of-self-2 : goal.invariant_of-self-2
unfolding with_ids
invariant_of-self-2 g c =
    let patches = c.self.inside.patches.items in
    let same : c.deref.result.now ≡ patches = c.deref.ensures.value in
    let exact : (id : ℕ) → Has c.overlapped_by.result id ↔ OverlapsAt patches c.args.patch id =
    subst (λ (xs : List Patch). (id : ℕ) → Has c.overlapped_by.result id ↔ OverlapsAt xs c.args.patch id) same
    c.overlapped_by.ensures in
    let earlier : (id : ℕ) → Has c.args.patch.deps id → id < length patches =
    subst (λ (xs : List Patch). (id : ℕ) → Has c.args.patch.deps id → id < length xs) (sym c.self.view_is)
    c.requires.earlier in
    let room : length patches < 124 = omega (
      arith,
      c.self.invariant.0.few,
      c.if-len-eq-MAX_PATCHES.false,
      c.len.ensures,
      c.self.inside.patches.ok.0,
    ) in
    let added = with_ids patches c.args.patch c.overlapped_by.result exact in
    let deps = deps_of patches in
    let own = bit_or c.args.patch.deps c.overlapped_by.result in
    let long : length deps ≡ length patches = length-map patches (λ p. p.deps) in
    let count : c.len-id.result ≡ length deps = omega (arith, long, c.len-id.ensures, c.self.inside.patches.ok.0) in
    let known : (id : ℕ) → Has own id → id < length deps = λ id is. let less =
    known_ids patches c.args.patch c.overlapped_by.result exact earlier id is in omega (arith, less, long) in
    let masks : AddsId (length deps) own c.self.inside.independent c.take_out.new.independent =
    subst (λ n. AddsId n own c.self.inside.independent c.take_out.new.independent) count c.take_out.ensures in
    let more : AreIndependent (deps ++ own ∷ []) c.take_out.new.independent =
    apart_push deps c.self.inside.independent c.take_out.new.independent own c.self.invariant.1
    c.self.invariant.0.earlier known
    (omega (arith, room, long)) masks in (
      subst IsGraph (sym c.in_ok-push.ensures.items) (keeps patches c.args.patch c.overlapped_by.result exact
          c.self.invariant.0 room c.requires.whole earlier),
      subst (λ (xs : List Patch). AreIndependent (deps_of xs) c.take_out.new.independent)
          (sym c.in_ok-push.ensures.items)
          (subst (λ (ds : List ℕ). AreIndependent ds c.take_out.new.independent)
          (sym (map_push (λ x. x.deps) patches added)) more),
      subst (λ (xs : List Patch). AreAtBlocks (homes_of xs)
          (set c.self.inside.at_block c.from-block.result c.with.result)) (sym c.in_ok-push.ensures.items)
          (patch_push patches added c.self.inside.at_block c.from-block.result c.len-id.result c.with.result
          c.self.invariant.2
          (sym c.from-block.ensures) (omega (arith, c.from-block.ensures))
          (omega (arith, c.len-id.ensures, c.self.inside.patches.ok.0)) c.with.ensures),
    )

pub returns-clause-ok : goal.returns-clause-ok
unfolding with_ids
returns-clause-ok g c =
    let patches = c.args.self.now in
    let exact : (id : ℕ) → Has c.overlapped_by.result id ↔ OverlapsAt patches c.args.patch id =
    subst (λ (xs : List Patch). (id : ℕ) → Has c.overlapped_by.result id ↔ OverlapsAt xs c.args.patch id)
    (c.deref.ensures.value ∙ c.self.view_is) c.overlapped_by.ensures in
    let added = with_ids patches c.args.patch c.overlapped_by.result exact in (
      added,
      adds patches c.args.patch c.overlapped_by.result exact,
      c.in_ok-push.ensures.items
          ∙ ap (λ (xs : List Patch). xs ++ added ∷ []) c.self.view_is,
    )
