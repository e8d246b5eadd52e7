-- The homes of blocks after a header is noted.
use Rattle.std.proofs.Common.{◌≡◌, ℕ, ◌+◌, ◌<◌, ◌≤◌, ◌⊎◌, inl, inr, List, length, get_or, set, Bool, true, false}
use Rattle.std.proofs.Common.{arith, refl, sym, ◌∙◌, subst}
use Rattle.std.specs.Prelude.{slice_index, Result, Ok}
use Rattle.std.proofs.lemmas.Bool.{cases_eq}
use Rattle.std.proofs.lemmas.List.{get_or-set_same, get_or-set_other}
use Rattle.patch_sets.specs.Sets.{Has, with_id}
use Rattle.patch_sets.proofs.Bits.{none_in_empty, in_with_same, in_with_cases, in_with_old}
use Rattle.known_bytes.specs.Headers.{AreSet, AreAdded, AreNoted, IsAmong}
use Rattle.known_bytes.proofs.Among.{among_more}
use Rattle.known_bytes.proofs.Coming.{set_cases}

-- ---- the three answers

pub noted_copied : (copied : Result Bool ℕ) (homes others new more : List ℕ) (first : ℕ) (targets : List ℕ)
    → copied ≡ Ok true → AreSet homes new first targets
    → ((b : ℕ) → IsAmong targets (length targets) b → slice_index more b ≡ 0)
    → ((b : ℕ) → IsAmong targets (length targets) b ⊎ (slice_index more b ≡ slice_index others b))
    → AreNoted copied homes others new more first targets
noted_copied copied homes others new more first targets is set none kept = record {
  kept = λ b home why was. elim why [
    | inl not ↦ absurd (not is)
    | inr out ↦ elim was [
      | inl same ↦ inl (same ∙ sym (set.others b (λ k less e. out (k, less, e))))
      | inr other ↦ elim (kept b) [
        | inl among ↦ absurd (out among)
        | inr e ↦ inr (subst (λ (s : ℕ). Has s home) (sym e) other)
      ]
    ]
  ];
  added = λ b m not less here first_one. inl (sym (set.found b m less here first_one));
  within = λ b home now. elim now [
    | inl same ↦ elim (set_cases homes new first targets set b) [
      | inl old ↦ inl (inl (same ∙ old))
      | inr copy ↦ inr (omega (arith, same, copy.0), omega (arith, same, copy.1))
    ]
    | inr other ↦ elim (kept b) [
      | inl among ↦ absurd (none_in_empty home (subst (λ (s : ℕ). Has s home) (none b among) other))
      | inr e ↦ inl (inr (subst (λ (s : ℕ). Has s home) e other))
    ]
  ];
}

pub noted_left : (copied : Result Bool ℕ) (homes others : List ℕ) (first : ℕ) (targets : List ℕ) → copied ≡ Ok false
    → AreNoted copied homes others homes others first targets
noted_left copied homes others first targets is = record {
  kept = λ b home why was. was;
  added = λ b m not less here first_one. absurd (not is);
  within = λ b home now. inl now;
}

pub noted_open : (copied : Result Bool ℕ) (homes others more : List ℕ) (first : ℕ) (targets : List ℕ)
    → AreAdded others more first targets (length targets)
    → AreNoted copied homes others homes more first targets
noted_open copied homes others more first targets a = record {
  kept = λ b home why was. elim was [
    | inl same ↦ inl same
    | inr other ↦ inr (a.kept b home other)
  ];
  added = λ b m not less here first_one.
      inr (subst (λ (k : ℕ). Has (slice_index more k) (first + m)) here (a.added m less));
  within = λ b home now. elim now [
    | inl same ↦ inl (inl same)
    | inr other ↦ elim (a.within b home other) [
      | inl old ↦ inl (inr old)
      | inr copy ↦ inr copy
    ]
  ];
}

-- ---- one target more

pub added_none : (old : List ℕ) (first : ℕ) (targets : List ℕ) → AreAdded old old first targets 0
added_none old first targets = record {
  kept = λ b home is. is;
  added = λ m less. absurd (omega arith);
  within = λ b home is. inl is;
  others = λ b. inr refl;
}

module _ (old now : List ℕ) (first m block more : ℕ) (targets : List ℕ) (here : block ≡ get_or targets m 0)
    (inside : block < length now) (is : more ≡ with_id (get_or now block 0) (first + m)) where
  at_block : get_or (set now block more) block 0 ≡ with_id (get_or now block 0) (first + m)
  at_block = get_or-set_same now block more 0 inside ∙ is

  grown : (b home : ℕ) → Has (get_or now b 0) home → Has (get_or (set now block more) b 0) home
  grown b home was = elim (cases_eq b block) [
    | inl same ↦ subst (λ (k : ℕ). Has (get_or (set now block more) k 0) home) (sym same)
        (subst (λ (s : ℕ). Has s home) (sym at_block)
        (in_with_old (get_or now block 0) (first + m) home (subst (λ (k : ℕ). Has (get_or now k 0) home) same was)))
    | inr other ↦ subst (λ (s : ℕ). Has s home) (sym (get_or-set_other now block b more 0 other)) was
  ]

  pub added_more : AreAdded old now first targets m → AreAdded old (set now block more) first targets (m + 1)
  added_more a = record {
    kept = λ b home was. grown b home (a.kept b home was);
    added = λ j less. elim (cases_eq j m) [
      | inl same ↦ subst (λ (k : ℕ). Has (get_or (set now block more) (get_or targets k 0) 0) (first + k)) (sym same)
          (subst (λ (k : ℕ). Has (get_or (set now block more) k 0) (first + m)) here
          (subst (λ (s : ℕ). Has s (first + m)) (sym at_block) (in_with_same (get_or now block 0) (first + m))))
      | inr other ↦ grown (get_or targets j 0) (first + j) (a.added j (omega arith))
    ];
    within = λ b home has. elim (cases_eq b block) [
      | inl same ↦ elim (in_with_cases (get_or now block 0) (first + m) home (subst (λ (s : ℕ). Has s home) at_block
          (subst (λ (k : ℕ). Has (get_or (set now block more) k 0) home) same has))) [
            | inl new ↦ inr (omega arith, omega arith)
            | inr was ↦ wider b home (a.within b home (subst (λ (k : ℕ). Has (get_or now k 0) home) (sym same) was))
          ]
      | inr other ↦ wider b home (a.within b home (subst (λ (s : ℕ). Has s home)
          (get_or-set_other now block b more 0 other) has))
    ];
    others = λ b. elim (cases_eq b block) [
      | inl same ↦ inl (m, omega arith, sym here ∙ sym same)
      | inr other ↦ elim (a.others b) [
        | inl among ↦ inl (among_more targets m b among)
        | inr kept ↦ inr (get_or-set_other now block b more 0 other ∙ kept)
      ]
    ];
  }
    where
      wider : (b home : ℕ) → Has (get_or old b 0) home ⊎ ((first ≤ home) × (home < first + m))
          → Has (get_or old b 0) home ⊎ ((first ≤ home) × (home < first + (m + 1)))
      wider b home w = elim w [
        | inl was ↦ inl was
        | inr copy ↦ inr (copy.0, omega (arith, copy.1))
      ]
