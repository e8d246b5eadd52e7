-- The sets of the patches that cover each byte, made patch by patch.
use Rattle.std.proofs.Common.{◌≡◌, ℕ, ◌+◌, ◌-◌, ◌*◌, ◌<◌, ◌≤◌, ◌⊎◌, inl, inr, List, length, get_or, set, replicate}
use Rattle.std.proofs.Common.{Some, arith, sym, ◌∙◌, ap, subst}
use Rattle.std.specs.Prelude.{◌↔◌}
use Rattle.std.proofs.lemmas.Bool.{cases_eq}
use Rattle.std.proofs.lemmas.List.{get_or-set_same, get_or-set_other, length-set, get_or-replicate, length-replicate}
use Rattle.std.proofs.lemmas.Option.{slice_get_within}
use Rattle.patch_sets.specs.Sets.{Has, with_id}
use Rattle.patch_sets.proofs.Bits.{none_in_empty, in_with_same, in_with_cases, in_with_old}
use Rattle.patch_graph.specs.Graph.{IsAt, IsPatch}
use Rattle.crash_model.specs.declared.patches.Patch.{Patch}
use Rattle.known_bytes.specs.Family.{Covers, CoversAt}
use Rattle.known_bytes.specs.Chains.{AddsFrom}

-- ---- one patch

pub adds_step : (id from place value : ℕ) (initial sets : List ℕ) → from ≤ place → place < length sets
    → value ≡ with_id (get_or sets place 0) id → AddsFrom id from (place - from) initial sets
    → AddsFrom id from (place + 1 - from) initial (set sets place value)
adds_step id from place value initial sets after inside is was = record {
  long = length-set sets place value ∙ was.long;
  exactly = λ at q less. elim (cases_eq at place) [
    | inl same ↦ subst (λ (k : ℕ). Has (get_or (set sets place value) k 0) q
        ↔ (Has (get_or initial k 0) q ⊎ ((q ≡ id) × (from ≤ k) × (k < from + (place + 1 - from))))) (sym same) (here q)
    | inr other ↦
        let old = was.exactly at q less in
        let kept : get_or (set sets place value) at 0 ≡ get_or sets at 0 =
        get_or-set_other sets place at value 0 other in (
          λ h. elim (old.0 (subst (λ (s : ℕ). Has s q) kept h)) [
            | inl before ↦ inl before
            | inr added ↦ inr (added.0, added.1, omega (arith, added.2))
          ],
          λ h. subst (λ (s : ℕ). Has s q) (sym kept) (old.1 (elim h [
            | inl before ↦ inl before
            | inr added ↦ inr (added.0, added.1, omega (arith, added.2, added.1))
          ])),
        )
  ];
}
  where
    new_is : get_or (set sets place value) place 0 ≡ with_id (get_or sets place 0) id
    new_is = get_or-set_same sets place value 0 inside ∙ is

    here : (q : ℕ) → (Has (get_or (set sets place value) place 0) q
        ↔ (Has (get_or initial place 0) q ⊎ ((q ≡ id) × (from ≤ place) × (place < from + (place + 1 - from)))))
    here q =
        let long : length sets ≡ length initial = was.long in
        let old = was.exactly place q (omega arith) in (
          λ h. elim (in_with_cases (get_or sets place 0) id q (subst (λ (s : ℕ). Has s q) new_is h)) [
            | inl same ↦ inr (same, after, omega arith)
            | inr before ↦ elim (old.0 before) [
              | inl first ↦ inl first
              | inr added ↦ absurd (omega (arith, added.2))
            ]
          ],
          λ h. subst (λ (s : ℕ). Has s q) (sym new_is) (elim h [
            | inl before ↦ in_with_old (get_or sets place 0) id q (old.1 (inl before))
            | inr added ↦ subst (λ (k : ℕ). Has (with_id (get_or sets place 0) id) k) (sym added.0)
                (in_with_same (get_or sets place 0) id)
          ]),
        )

-- ---- all patches

-- the sets have the patches that cover each byte, of the first n
pub record IsMarked (patches : List Patch) (blocks n : ℕ) (sets : List ℕ) : Type 0 where
  pub long : length sets ≡ 128 * blocks
  pub exactly : (block offset id : ℕ) → block < blocks → offset < 128
      → (Has (get_or sets (128 * block + offset) 0) id ↔ ((id < n) × CoversAt patches id block offset))

pub marked_start : (patches : List Patch) (blocks : ℕ) (sets : List ℕ) → sets ≡ replicate (128 * blocks) 0
    → IsMarked patches blocks 0 sets
marked_start patches blocks sets zeros = record {
  long = ap (λ (xs : List ℕ). length xs) zeros ∙ length-replicate {A = ℕ} (128 * blocks) 0;
  exactly = λ block offset id below within. (
    λ h. absurd (none_in_empty id (subst (λ (s : ℕ). Has s id)
        (ap (λ (xs : List ℕ). get_or xs (128 * block + offset) 0) zeros
        ∙ get_or-replicate {A = ℕ} (128 * blocks) (128 * block + offset) 0 0 (omega arith)) h)),
    λ h. absurd (omega (arith, h.0)),
  );
}

pub marked_step : (patches : List Patch) (blocks n : ℕ) (old new : List ℕ) (p : Patch) → IsAt patches n p → IsPatch p
    → AddsFrom n (128 * p.block + p.offset) (length p.new.items) old new → IsMarked patches blocks n old
    → IsMarked patches blocks (n + 1) new
marked_step patches blocks n old new p at whole adds was = record {
  long = adds.long ∙ was.long;
  exactly = λ block offset id below within.
      let place : ℕ = 128 * block + offset in
      let less : place < length old = omega (arith, was.long) in
      let is = adds.exactly place id less in
      let before = was.exactly block offset id below within in (
        λ h. elim (is.0 h) [
          | inl first ↦ let t = before.0 first in (omega (arith, t.0), t.1)
          | inr added ↦
              let same : id ≡ n = added.0 in
              let inside : p.offset + length p.new.items ≤ 128 = whole.inside in
              let from : 128 * p.block + p.offset ≤ place = added.1 in
              let to : place < 128 * p.block + p.offset + length p.new.items = added.2 in
              let home : p.block ≡ block = omega arith in (
                omega arith,
                record {
                  patch = p;
                  at = subst (λ (k : ℕ). IsAt patches k p) (sym same) at;
                  covers = record { home = home; from = omega arith; to = omega arith };
                },
              )
        ],
        λ h. is.1 (elim (cases_eq id n) [
          | inl same ↦
              let there = subst (λ (k : ℕ). CoversAt patches k block offset) same h.1 in
              let one : Some there.patch ≡ Some p = sym there.at ∙ at in
              let which : there.patch ≡ p = cc in
              let covers = subst (λ (y : Patch). Covers y block offset) which there.covers in
              let home : p.block ≡ block = covers.home in
              inr (same, omega (arith, covers.from), omega (arith, covers.to))
          | inr other ↦ inl (before.1 (omega (arith, h.0), h.1))
        ]),
      );
}

pub marked_end : (patches : List Patch) (blocks n : ℕ) (sets : List ℕ) → length patches ≤ n
    → IsMarked patches blocks n sets → (block offset id : ℕ) → block < blocks → offset < 128
    → (Has (get_or sets (128 * block + offset) 0) id ↔ CoversAt patches id block offset)
marked_end patches blocks n sets all is block offset id below within =
    let here = is.exactly block offset id below within in (
      λ h. (here.0 h).1,
      λ h. here.1 (let known = slice_get_within patches id h.patch h.at in omega (arith, known, all), h),
    )
