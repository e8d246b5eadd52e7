-- The ids that do not depend on an id, for each id, while a graph grows.
use Rattle.std.proofs.Common.{◌≡◌, ◌≢◌, ℕ, zero, suc, ◌+◌, ◌-◌, ◌*◌, ◌%◌, ◌^◌, ◌<◌, ◌≤◌, List, [], ◌∷◌, ◌++◌, length}
use Rattle.std.proofs.Common.{get_or, set, replicate, length-set, get_or-set_same, get_or-set_other, arith, refl, sym}
use Rattle.std.proofs.Common.{subst, ap, ◌∙◌, inl, inr, length-append}
use Rattle.std.specs.Prelude.{◌↔◌, ◌⊎◌, slice_index, bit_and}
use Rattle.std.proofs.lemmas.List.{get_or_append_left, get_or_push, get_or-replicate}
use Rattle.std.proofs.lemmas.Nat.Bits.{bit_at_ones, bit_at_ones_above}
use Rattle.std.proofs.Math.Nat.{mod-eq_of_lt}
use Rattle.std.proofs.Math.Pow.{pow-lt}
use Rattle.std.proofs.lemmas.Bool.{cases_lt}
use Rattle.patch_sets.specs.Sets.{Has, IsSubset}
use Rattle.patch_sets.specs.Closed.{AreEarlier, IsClosed}
use Rattle.patch_sets.proofs.Bits.{eq_or_not, subset_from_and, and_from_subset}
use Rattle.patch_sets.specs.Ends.{IsWithout}
use Rattle.patch_graph.specs.Independent.{AreIndependent, StandsOn, AddsId}

pub subset_or_not : (part whole : ℕ) → IsSubset part whole ⊎ ¬ (IsSubset part whole)
subset_or_not part whole = elim (eq_or_not (bit_and part whole) part) [
  | inl e ↦ inl (subset_from_and part whole e)
  | inr ne ↦ inr (λ sub. ne (and_from_subset part whole sub))
]

-- with no id of the graph each mask has all ids
pub apart_none : AreIndependent [] (replicate 124 (2 ^ 128 - 1))
apart_none = record {
  sized = refl;
  itself = λ p known. absurd (omega (arith, known));
  exactly = λ p q known. absurd (omega (arith, known));
  fresh = λ p q small low past. subst (λ m. Has m q) (sym (get_or-replicate {A = ℕ} 124 p (2 ^ 128 - 1) 0 small))
      (bit_at_ones 128 q low);
}

-- the ids below n, as a number
pub in_ones : (n id : ℕ) → n < 128 → Has (1 * 2 ^ n % 2 ^ 128 - 1) id ↔ (id < n)
in_ones n id small =
    let less : 2 ^ n < 2 ^ 128 = pow-lt small in
    let whole : 1 * 2 ^ n % 2 ^ 128 ≡ 2 ^ n = let one : 1 * 2 ^ n ≡ 2 ^ n = omega arith in ap (λ x. x % 2 ^ 128) one
    ∙ mod-eq_of_lt less in
    subst (λ x. Has (x - 1) id ↔ (id < n)) (sym whole) (
      λ is. elim (cases_lt id n) [ inl low ↦ low | inr high ↦ absurd (omega (arith, is, bit_at_ones_above n id high)) ],
      λ low. bit_at_ones n id low,
    )

-- ---- a mask more

module _ (id own p : ℕ) (before now : List ℕ) (so_far : StandsOn id own p before now) where
  same_mask : slice_index now p ≡ slice_index before p
  same_mask = so_far.rest p (omega arith)

  pub mask_stays : IsSubset own (slice_index now p) → StandsOn id own (p + 1) before now
  mask_stays sub = record {
    sized = so_far.sized;
    independent = λ q near is. elim (eq_or_not q p) [
      | inl e ↦ subst (λ n. slice_index now n ≡ slice_index before n) (sym e) same_mask
      | inr ne ↦ so_far.independent q (omega (arith, near, ne)) is
    ];
    standing = λ q near part. elim (eq_or_not q p) [
      | inl e ↦ absurd (part (subst (λ n. IsSubset own (slice_index before n)) (sym e)
          (subst (IsSubset own) same_mask sub)))
      | inr ne ↦ so_far.standing q (omega (arith, near, ne)) part
    ];
    rest = λ q past. so_far.rest q (omega (arith, past));
  }

  pub mask_without : (mask : ℕ) → p < length now → ¬ (IsSubset own (slice_index now p))
      → IsWithout (slice_index now p) id mask → StandsOn id own (p + 1) before (set now p mask)
  mask_without mask inside whole without =
      let other : (q : ℕ) → q ≢ p → get_or (set now p mask) q 0 ≡ get_or now q 0 =
      λ q ne. get_or-set_other now p q mask 0 ne in
      let here : get_or (set now p mask) p 0 ≡ mask = get_or-set_same now p mask 0 inside in
      record {
        sized = length-set now p mask ∙ so_far.sized;
        independent = λ q near is. elim (eq_or_not q p) [
          | inl e ↦ absurd (whole (subst (IsSubset own) (sym same_mask)
              (subst (λ n. IsSubset own (slice_index before n)) e is)))
          | inr ne ↦ other q ne ∙ so_far.independent q (omega (arith, near, ne)) is
        ];
        standing = λ q near part. elim (eq_or_not q p) [
          | inl e ↦ subst (λ n. IsWithout (slice_index before n) id (get_or (set now p mask) n 0)) (sym e)
              (subst (λ m. IsWithout (slice_index before p) id m) (sym here)
              (subst (λ m. IsWithout m id mask) same_mask without))
          | inr ne ↦ subst (λ m. IsWithout (slice_index before q) id m) (sym (other q ne))
              (so_far.standing q (omega (arith, near, ne)) part)
        ];
        rest = λ q past. let ne : q ≢ p = λ e. omega (arith, e, past) in other q ne
            ∙ so_far.rest q (omega (arith, past));
      }

-- and that of the id itself
pub mask_own : (id own : ℕ) (before now : List ℕ) → StandsOn id own id before now → (mask : ℕ) → id < length now
    → IsWithout (slice_index now id) id mask → AddsId id own before (set now id mask)
mask_own id own before now so_far mask inside without =
    let other : (q : ℕ) → q ≢ id → get_or (set now id mask) q 0 ≡ get_or now q 0 =
    λ q ne. get_or-set_other now id q mask 0 ne in
    record {
      sized = length-set now id mask ∙ so_far.sized;
      independent = λ q low is. let ne : q ≢ id =
          λ e. omega (arith, e, low) in other q ne ∙ so_far.independent q low is;
      standing = λ q low part. let ne : q ≢ id = λ e. omega (arith, e, low) in
          subst (λ m. IsWithout (slice_index before q) id m) (sym (other q ne)) (so_far.standing q low part);
      itself = subst (λ m. IsWithout (slice_index before id) id m) (sym (get_or-set_same now id mask 0 inside))
          (subst (λ m. IsWithout m id mask) (so_far.rest id (omega arith)) without);
      rest = λ q past. let ne : q ≢ id = λ e. omega (arith, e, past) in other q ne
          ∙ so_far.rest q (omega (arith, past));
    }

-- ---- an id more

module _ (deps before after : List ℕ) (own : ℕ) (independent : AreIndependent deps before) (earlier : AreEarlier deps)
    (known : (id : ℕ) → Has own id → id < length deps) (room : length deps < 124)
    (adds : AddsId (length deps) own before after) where
  -- an id of the graph is in a mask as it was
  kept : (p q : ℕ) → p < length deps → q < length deps → Has (slice_index after p) q ↔ Has (slice_index before p) q
  kept p q low inside = elim (subset_or_not own (slice_index before p)) [
    | inl sub ↦ let same = adds.independent p low sub in (
      λ is. subst (λ m. Has m q) same is,
      λ is. subst (λ m. Has m q) (sym same) is,
    )
    | inr part ↦ let ne : q ≢ length deps = λ e. omega (arith, e, inside) in (adds.standing p low part).others q ne
  ]

  -- the mask of the new id has all ids of the graph
  own_has : (q : ℕ) → q < length deps → Has (slice_index after (length deps)) q
  own_has q inside = let ne : q ≢ length deps = λ e. omega (arith, e, inside) in
      (adds.itself.others q ne).1
      (independent.fresh (length deps) q room (omega (arith, inside, room)) (inl (omega arith)))

  old_deps : (q : ℕ) → q < length deps → slice_index (deps ++ own ∷ []) q ≡ slice_index deps q
  old_deps q inside = get_or_append_left deps (own ∷ []) 0 q inside

  new_deps : slice_index (deps ++ own ∷ []) (length deps) ≡ own
  new_deps = get_or_push deps own 0 (length deps) refl

  exact_old : (p q : ℕ) → p < length deps → q < length deps → p ≢ q → Has (slice_index after p) q
      ↔ IsSubset (slice_index deps q) (slice_index after p)
  exact_old p q low inside ne =
      let below : (d : ℕ) → Has (slice_index deps q) d → d < length deps = λ d dep. let less = earlier q d dep in
      omega (arith, less, inside) in (
        λ is d dep. (kept p d low (below d dep)).1
            ((independent.exactly p q low inside ne).0 ((kept p q low inside).0 is) d
            dep),
        λ sub. (kept p q low inside).1 ((independent.exactly p q low inside ne).1
            (λ d dep. (kept p d low (below d dep)).0 (sub d dep))),
      )

  exact_new : (p : ℕ) → p < length deps → Has (slice_index after p) (length deps) ↔ IsSubset own (slice_index after p)
  exact_new p low = elim (subset_or_not own (slice_index before p)) [
    | inl sub ↦ (
      λ _ d dep. (kept p d low (known d dep)).1 (sub d dep),
      λ _. subst (λ m. Has m (length deps)) (sym (adds.independent p low sub))
          (independent.fresh p (length deps) (omega (arith, low, room)) (omega (arith, room)) (inr (omega arith))),
    )
    | inr part ↦ (
      λ is. absurd ((adds.standing p low part).gone is),
      λ sub. absurd (part (λ d dep. (kept p d low (known d dep)).0 (sub d dep))),
    )
  ]

  exact : (p q : ℕ) → p < suc (length deps) → q < suc (length deps) → p ≢ q → Has (slice_index after p) q
      ↔ IsSubset (slice_index (deps ++ own ∷ []) q) (slice_index after p)
  exact p q near inside ne = elim (eq_or_not q (length deps)) [
    | inl last ↦ let low : p < length deps = omega (arith, near, last, ne) in
        subst (λ i. Has (slice_index after p) i ↔ IsSubset (slice_index (deps ++ own ∷ []) i) (slice_index after p))
        (sym last)
        (subst (λ d. Has (slice_index after p) (length deps) ↔ IsSubset d (slice_index after p)) (sym new_deps)
        (exact_new p low))
    | inr before_last ↦ let old : q < length deps = omega (arith, inside, before_last) in
        subst (λ d. Has (slice_index after p) q ↔ IsSubset d (slice_index after p)) (sym (old_deps q old))
        (elim (eq_or_not p (length deps)) [
          | inl own_one ↦
              let has : (i : ℕ) → i < length deps → Has (slice_index after p) i =
              λ i h. subst (λ n. Has (slice_index after n) i) (sym own_one) (own_has i h) in
              (λ _ d dep. has d (let less = earlier q d dep in omega (arith, less, old)), λ _. has q old)
          | inr other ↦ exact_old p q (omega (arith, near, other)) old ne
        ])
  ]

  out_of_own : (p : ℕ) → p < suc (length deps) → ¬ (Has (slice_index after p) p)
  out_of_own p near = elim (eq_or_not p (length deps)) [
    | inl e ↦ subst (λ n. ¬ (Has (slice_index after n) n)) (sym e) adds.itself.gone
    | inr ne ↦ let low : p < length deps =
        omega (arith, near, ne) in λ is. independent.itself p low ((kept p p low low).0 is)
  ]

  fresh_low : (p q : ℕ) → p < length deps → q < 128 → length deps < q → Has (slice_index after p) q
  fresh_low p q low small past =
      let ne : q ≢ length deps = λ e. omega (arith, e, past) in
      let old : Has (slice_index before p) q = independent.fresh p q (omega (arith, low, room)) small
      (inr (omega (arith, past))) in
      elim (subset_or_not own (slice_index before p)) [
        | inl sub ↦ subst (λ m. Has m q) (sym (adds.independent p low sub)) old
        | inr part ↦ ((adds.standing p low part).others q ne).1 old
      ]

  fresh : (p q : ℕ) → p < 124 → q < 128 → (suc (length deps) ≤ p) ⊎ (suc (length deps) ≤ q)
      → Has (slice_index after p) q
  fresh p q near small past = elim (cases_lt p (length deps)) [
    | inl low ↦ elim past [
      | inl far ↦ absurd (omega (arith, far, low))
      | inr far ↦ fresh_low p q low small (omega (arith, far))
    ]
    | inr from ↦ elim (eq_or_not p (length deps)) [
      | inl e ↦ elim past [
        | inl far ↦ absurd (omega (arith, far, e))
        | inr far ↦
            let ne : q ≢ length deps = λ f. omega (arith, f, far) in
            subst (λ n. Has (slice_index after n) q) (sym e) ((adds.itself.others q ne).1
            (independent.fresh (length deps) q room small (inl (omega arith))))
      ]
      | inr ne ↦ subst (λ m. Has m q) (sym (adds.rest p (omega (arith, from, ne))))
          (independent.fresh p q near small (inl from))
    ]
  ]

  long : length (deps ++ own ∷ []) ≡ suc (length deps)
  long = omega (arith, length-append deps (own ∷ []))

  pub apart_push : AreIndependent (deps ++ own ∷ []) after
  apart_push = record {
    sized = adds.sized ∙ independent.sized;
    itself = λ p near. out_of_own p (omega (arith, near, long));
    exactly = λ p q near inside. exact p q (omega (arith, near, long)) (omega (arith, inside, long));
    fresh = λ p q near small past. fresh p q near small (elim past [
      | inl h ↦ inl (omega (arith, h, long))
      | inr h ↦ inr (omega (arith, h, long))
    ]);
  }

-- ---- closed sets

-- the ids of a closed set do not depend on an id outside
module _ (deps independent : List ℕ) (are : AreIndependent deps independent) (earlier : AreEarlier deps) (set p : ℕ)
    (closed : IsClosed deps set) (low : p < length deps) (out : ¬ (Has set p)) where
  inside_below : (n d : ℕ) → d < n → Has set d → Has (slice_index independent p) d
  inside_below zero d less is = absurd (omega (arith, less))
  inside_below (suc n) d less is =
      let ne : p ≢ d = λ e. out (subst (Has set) (sym e) is) in
      (are.exactly p d low (closed.known d is) ne).1 (λ q dep.
      inside_below n q (let before = earlier d q dep in omega (arith, before, less)) (closed.whole d q is dep))

  pub inside_apart : (d : ℕ) → Has set d → Has (slice_index independent p) d
  inside_apart d = inside_below (suc d) d (omega arith)
