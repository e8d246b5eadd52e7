-- What a patch of the list is, by its id.
use Rattle.std.proofs.Common.{◌≡◌, ℕ, ◌<◌, ◌≤◌, List, [], ◌∷◌, ◌++◌, length, get_or, arith, refl, sym, subst, ap, ◌∙◌}
use Rattle.std.proofs.Common.{inl, inr, length-append}
use Rattle.std.specs.Prelude.{Some, slice_index}
use Rattle.std.proofs.lemmas.List.{get_or-map, get_or_append_left, get_or_push, get_or_past, length-map, map_push}
use Rattle.std.proofs.lemmas.List.Elements.{All-push}
use Rattle.std.proofs.lemmas.Option.{slice_get_read, slice_get_within, get_or_from_slice_get, slice_get-get_or}
use Rattle.std.proofs.lemmas.Bool.{cases_lt}
use Rattle.patch_sets.specs.Sets.{Has}
use Rattle.patch_sets.proofs.Bits.{eq_or_not, none_in_empty}
use Rattle.crash_model.specs.declared.patches.Patch.{Patch}
use Rattle.crash_model.specs.Patches.{deps_of, homes_of}
use Rattle.patch_graph.specs.Graph.{IsAt, IsPatch, Overlaps, OverlapsAt, IsGraph}

-- ---- a patch that was read

module _ (patches : List Patch) (id : ℕ) (x : Patch) (inside : id < length patches)
    (read : x ≡ get_or patches id x) where
  pub at_read : IsAt patches id x
  at_read = slice_get_read patches (length patches) id x refl inside read

  pub deps_read : slice_index (deps_of patches) id ≡ x.deps
  deps_read = get_or-map (λ p. p.deps) patches id x 0 inside ∙ ap (λ p. p.deps) (sym read)

  pub home_read : slice_index (homes_of patches) id ≡ x.block
  home_read = get_or-map (λ p. p.block) patches id x 0 inside ∙ ap (λ p. p.block) (sym read)

  -- the patch of an id is the one that was read
  pub same_at : (y : Patch) → IsAt patches id y → y ≡ x
  same_at y at = sym (get_or_from_slice_get patches id y x at) ∙ sym read

-- no patches are a graph
pub graph_none : IsGraph []
graph_none = record {
  few = omega arith;
  each = λ k d inside. absurd (omega (arith, inside));
  earlier = λ q p dep. absurd (none_in_empty p dep);
  ordered = λ p q later less at. let within : q < length {A = Patch} [] = slice_get_within [] q later at in
      absurd (omega (arith, within));
}

-- ---- a patch more

module _ (patches : List Patch) (added : Patch) where
  pub from_old : (id : ℕ) (x : Patch) → id < length patches → IsAt (patches ++ added ∷ []) id x → IsAt patches id x
  from_old id x inside at = slice_get-get_or patches id x inside
      ∙ ap Some (sym (get_or_append_left patches (added ∷ []) x id inside)
      ∙ get_or_from_slice_get (patches ++ added ∷ []) id x x at)

  pub from_new : (x : Patch) → IsAt (patches ++ added ∷ []) (length patches) x → x ≡ added
  from_new x at = sym (get_or_from_slice_get (patches ++ added ∷ []) (length patches) x x at)
      ∙ get_or_push patches added x (length patches) refl

  -- a graph with a patch more that depends on those it overlaps
  pub graph_push : IsGraph patches → length patches < 124 → IsPatch added
      → ((id : ℕ) → Has added.deps id → id < length patches)
      → ((id : ℕ) → OverlapsAt patches added id → Has added.deps id) → IsGraph (patches ++ added ∷ [])
  graph_push graph room whole known overlapped = record {
    few = omega (arith, length-append patches (added ∷ []));
    each = All-push IsPatch patches added graph.each whole;
    earlier = λ q p dep. earlier q p (subst (λ xs. Has (slice_index xs q) p) (map_push (λ x. x.deps) patches added)
        dep);
    ordered = λ p q later before at over.
        let within : q < length (patches ++ added ∷ []) = slice_get_within (patches ++ added ∷ []) q later at in
        elim (eq_or_not q (length patches)) [
          | inl e ↦
              let is : later ≡ added = from_new later (subst (λ i. IsAt (patches ++ added ∷ []) i later) e at) in
              subst (λ x. Has x.deps p) (sym is) (overlapped p
              (over.0, from_old p over.0 (omega arith) over.1, subst (Overlaps over.0) is over.2))
          | inr ne ↦
              let inside : q < length patches = omega (arith, within, length-append patches (added ∷ [])) in
              graph.ordered p q later before (from_old q later inside at)
              (over.0, from_old p over.0 (omega arith) over.1, over.2)
        ];
  }
    where
      earlier : (q p : ℕ) → Has (slice_index (deps_of patches ++ added.deps ∷ []) q) p → p < q
      earlier q p dep = elim (cases_lt q (length (deps_of patches))) [
        | inl old ↦ graph.earlier q p (subst (λ s. Has s p)
            (get_or_append_left (deps_of patches) (added.deps ∷ []) 0 q old) dep)
        | inr from ↦ elim (eq_or_not q (length (deps_of patches))) [
          | inl e ↦
              let here : q ≡ length patches = e ∙ length-map patches (λ x. x.deps) in
              let less : p < length patches = known p (subst (λ s. Has s p)
              (get_or_push (deps_of patches) added.deps 0 q (sym e)) dep) in omega arith
          | inr ne ↦
              let past : length (deps_of patches ++ added.deps ∷ []) ≤ q =
              omega (arith, length-append (deps_of patches) (added.deps ∷ [])) in
              absurd (none_in_empty p (subst (λ s. Has s p) (get_or_past (deps_of patches ++ added.deps ∷ []) q 0 past)
              dep))
        ]
      ]
