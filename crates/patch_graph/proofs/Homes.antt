-- The ids of each block's patches, while a graph grows.
use Rattle.std.proofs.Common.{◌≡◌, ◌≢◌, ℕ, suc, ◌<◌, List, [], ◌∷◌, ◌++◌, length, set, replicate, length-set}
use Rattle.std.proofs.Common.{get_or-set_same, get_or-set_other, arith, refl, sym, subst, ap, ◌∙◌, inl, inr}
use Rattle.std.proofs.Common.{length-append}
use Rattle.std.specs.Prelude.{◌↔◌, slice_index}
use Rattle.std.proofs.lemmas.List.{get_or_append_left, get_or_push, get_or-replicate, length-map, map_push}
use Rattle.patch_sets.specs.Sets.{Has, with_id}
use Rattle.patch_sets.proofs.Bits.{eq_or_not, none_in_empty, in_with_same, in_with_old, in_with_cases}
use Rattle.crash_model.specs.Patches.{homes_of}
use Rattle.crash_model.specs.declared.patches.Patch.{Patch}
use Rattle.patch_graph.specs.Homes.{AreAtBlocks}

-- no patch, no id
pub blocks_none : AreAtBlocks [] (replicate 256 0)
blocks_none = record {
  sized = refl;
  exactly = λ block id small. (
    λ is. absurd (none_in_empty id (subst (λ m. Has m id) (get_or-replicate {A = ℕ} 256 block 0 0 small) is)),
    λ it. absurd (omega (arith, it.0)),
  );
}

-- a patch more
module _ (homes masks : List ℕ) (home : ℕ) (are : AreAtBlocks homes masks) (small : home < 256) where
  after : List ℕ
  after = set masks home (with_id (slice_index masks home) (length homes))

  long : length (homes ++ home ∷ []) ≡ suc (length homes)
  long = omega (arith, length-append homes (home ∷ []))

  old_home : (id : ℕ) → id < length homes → slice_index (homes ++ home ∷ []) id ≡ slice_index homes id
  old_home id inside = get_or_append_left homes (home ∷ []) 0 id inside

  new_home : slice_index (homes ++ home ∷ []) (length homes) ≡ home
  new_home = get_or_push homes home 0 (length homes) refl

  here : slice_index after home ≡ with_id (slice_index masks home) (length homes)
  unfolding after
  here = get_or-set_same masks home (with_id (slice_index masks home) (length homes)) 0
      (omega (arith, small, are.sized))

  elsewhere : (block : ℕ) → block ≢ home → slice_index after block ≡ slice_index masks block
  unfolding after
  elsewhere block ne = get_or-set_other masks home block (with_id (slice_index masks home) (length homes)) 0 ne

  at_home : (id : ℕ) → Has (slice_index after home) id ↔ ((id < length (homes ++ home ∷ []))
      × (slice_index (homes ++ home ∷ []) id ≡ home))
  at_home id = (
    λ is. elim (in_with_cases (slice_index masks home) (length homes) id (subst (λ m. Has m id) here is)) [
      | inl e ↦ (omega (arith, long, e), ap (slice_index (homes ++ home ∷ [])) e ∙ new_home)
      | inr was ↦ let it = (are.exactly home id small).0 was in (omega (arith, long, it.0), old_home id it.0 ∙ it.1)
    ],
    λ it. subst (λ m. Has m id) (sym here) (elim (eq_or_not id (length homes)) [
      | inl e ↦ subst (Has (with_id (slice_index masks home) (length homes))) (sym e)
          (in_with_same (slice_index masks home) (length homes))
      | inr ne ↦
          let inside : id < length homes = omega (arith, long, it.0, ne) in
          in_with_old (slice_index masks home) (length homes) id
          ((are.exactly home id small).1 (inside, sym (old_home id inside) ∙ it.1))
    ]),
  )

  at_other : (block id : ℕ) → block ≢ home → block < 256 → Has (slice_index after block) id
      ↔ ((id < length (homes ++ home ∷ [])) × (slice_index (homes ++ home ∷ []) id ≡ block))
  at_other block id other low = (
    λ is. let it = (are.exactly block id low).0 (subst (λ m. Has m id) (elsewhere block other) is) in
        (omega (arith, long, it.0), old_home id it.0 ∙ it.1),
    λ it. subst (λ m. Has m id) (sym (elsewhere block other)) (elim (eq_or_not id (length homes)) [
      | inl e ↦ absurd (other (sym it.1 ∙ (ap (slice_index (homes ++ home ∷ [])) e ∙ new_home)))
      | inr ne ↦ let inside : id < length homes = omega (arith, long, it.0, ne) in
          (are.exactly block id low).1 (inside, sym (old_home id inside) ∙ it.1)
    ]),
  )

  pub blocks_push : AreAtBlocks (homes ++ home ∷ []) (set masks home (with_id (slice_index masks home) (length homes)))
  unfolding after
  blocks_push = record {
    sized = length-set masks home _ ∙ are.sized;
    exactly = λ block id low. elim (eq_or_not block home) [
      | inl e ↦ subst (λ b. Has (slice_index after b) id ↔ ((id < length (homes ++ home ∷ []))
          × (slice_index (homes ++ home ∷ []) id ≡ b))) (sym e) (at_home id)
      | inr ne ↦ at_other block id ne low
    ];
  }

pub patch_push : (patches : List Patch) (added : Patch) (masks : List ℕ) (home id mask : ℕ)
    → AreAtBlocks (homes_of patches) masks → added.block ≡ home → home < 256 → id ≡ length patches
    → mask ≡ with_id (slice_index masks home) id → AreAtBlocks (homes_of (patches ++ added ∷ [])) (set masks home mask)
patch_push patches added masks home id mask are own small last is =
    let count : id ≡ length (homes_of patches) = last ∙ sym (length-map patches (λ p. p.block)) in
    let more : homes_of (patches ++ added ∷ []) ≡ homes_of patches ++ home ∷ [] = map_push (λ p. p.block) patches added
    ∙ ap (λ (b : ℕ). homes_of patches ++ b ∷ []) own in
    subst (λ (hs : List ℕ). AreAtBlocks hs (set masks home mask)) (sym more)
    (subst (λ (m : ℕ). AreAtBlocks (homes_of patches ++ home ∷ []) (set masks home m))
    (sym (is ∙ ap (with_id (slice_index masks home)) count))
    (blocks_push (homes_of patches) masks home are small))
