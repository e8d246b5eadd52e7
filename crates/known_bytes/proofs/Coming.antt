-- Where replay finds each block, by a walk over headers that may be there.
use Rattle.std.proofs.Common.{◌≡◌, ◌≢◌, ℕ, zero, suc, ◌+◌, ◌<◌, ◌≤◌, ◌⊎◌, inl, inr, List, [], ◌∷◌, length}
use Rattle.std.proofs.Common.{get_or, Bool, true, false, Option, arith, refl, sym, ◌∙◌, ap, subst}
use Rattle.std.specs.Prelude.{slice_index, ◌==◌, unwrap_or, option_map, Result, Ok, Err}
use Rattle.std.specs.List.{position}
use Rattle.std.proofs.lemmas.List.Quantifiers.{position-Some}
use Rattle.crash_model.specs.Disk.{Disk, IsDisk, block_of}
use Rattle.crash_model.specs.Replay.{is_header, count_of, targets_of, copy_in, copy_after}
use Rattle.crash_model.specs.Replay.{headers, headers_from}
use Rattle.journal_replay.proofs.Walk.{count_targets}
use Rattle.journal_replay.proofs.Targets.{bool_is, found_or_not, header_in, apart_none, Apart, not_equal_test}
use Rattle.known_bytes.specs.Headers.{AreSet, AreNoted, IsHome}

-- ---- one header

apart_at : (b : ℕ) (xs : List ℕ) (m : ℕ) → Apart b xs → m < length xs → get_or xs m 0 ≡ b → ⊥
apart_at b [] m a less is = absurd (omega arith)
apart_at b (x ∷ xs) zero a less is = a.0 (sym is)
apart_at b (x ∷ xs) (suc m) a less is = apart_at b xs m a.1 (omega arith) is

module _ (old new : List ℕ) (first : ℕ) (targets : List ℕ) (set : AreSet old new first targets) where
  -- the home of a block is the one before, or a copy
  pub set_cases : (b : ℕ) → (slice_index new b ≡ slice_index old b)
      ⊎ ((first ≤ slice_index new b) × (slice_index new b < first + length targets))
  set_cases b = elim (found_or_not b targets) [
    | inl at_m ↦
        let what = position-Some (λ x. x == b) targets at_m.0 0 at_m.1 in
        let is = set.found b at_m.0 at_m.2 at_m.3
        (λ k less e. not_equal_test (get_or targets k 0) b (what.2 k less) e) in
        let less : at_m.0 < length targets = at_m.2 in
        inr (omega (arith, is), omega (arith, is))
    | inr none ↦ inl (set.others b (λ k less e. apart_at b targets k (apart_none b targets none.1) less e))
  ]

pub copied_in : (row : List ℕ) (at b x : ℕ) → (slice_index row 0 == 0xC7) ≡ true
    → unwrap_or (copy_in row at b) x
    ≡ unwrap_or (option_map (λ m. at + 1 + m) (position (λ y. y == b) (targets_of row))) x
copied_in row at b x t = rw t refl

pub left_in : (row : List ℕ) (at b x : ℕ) → (slice_index row 0 == 0xC7) ≡ false → unwrap_or (copy_in row at b) x ≡ x
left_in row at b x f = rw f refl

-- ---- the walk on one disk

-- the walk comes to a header, from where it leads on to where replay finds each block
pub record Comes (d : Disk) (homes others : List ℕ) (at transaction : ℕ) : Type 0 where
  pub most : ℕ
  pub enough : 4 + d.journal ≤ at + most
  pub leads : (b : ℕ) → b < 128 → (x : ℕ) × IsHome homes others b x
      × (copy_after d b x (headers_from most d at transaction) ≡ copy_after d b b (headers d))

-- the walk is over, and replay finds each block at one of its homes
pub record Stopped (d : Disk) (homes others : List ℕ) : Type 0 where
  pub home : (b : ℕ) → b < 128 → IsHome homes others b (copy_after d b b (headers d))

pub comes_start : (d : Disk) (homes others : List ℕ) → ((b : ℕ) → b < 128 → slice_index homes b ≡ b)
    → Comes d homes others 4 1
comes_start d homes others own = record {
  most = d.journal;
  enough = omega arith;
  leads = λ b less. (b, inl (sym (own b less)), refl);
}

pub comes_end : (d : Disk) (homes others : List ℕ) (at transaction : ℕ)
    → is_header d at transaction (block_of d at) ≡ false
    → Comes d homes others at transaction → Stopped d homes others
comes_end d homes others at transaction none c = record {
  home = λ b less.
      let lead = c.leads b less in
      subst (λ (x : ℕ). IsHome homes others b x)
      (ap (λ (js : List ℕ). copy_after d b lead.0 js) (no_more c.most) ∙ lead.2) lead.1;
}
  where
    no_more : (most : ℕ) → [] ≡ headers_from most d at transaction
    no_more zero = refl
    no_more (suc most) = rw none refl

-- what is known of one disk by an answer
abbrev pub AtDisk : Result Bool ℕ → Bool → Type 0
AtDisk (Ok value) test = test ≡ value
AtDisk (Err id) test = Unit {0}

not_copied : (copied : Result Bool ℕ) (test : Bool) → AtDisk copied test → test ≡ false → copied ≢ Ok true
not_copied (Ok true) test here not is = let no : true ≡ false = sym here ∙ not in absurd (cc)
not_copied (Ok false) test here not is = absurd (cc)
not_copied (Err id) test here not is = absurd (cc)

not_left : (copied : Result Bool ℕ) (test : Bool) → AtDisk copied test → test ≡ true → copied ≢ Ok false
not_left (Ok true) test here so is = absurd (cc)
not_left (Ok false) test here so is = let no : true ≡ false = sym so ∙ here in absurd (cc)
not_left (Err id) test here so is = absurd (cc)

module _ (d : Disk) (old was new is : List ℕ) (first : ℕ) (targets : List ℕ) where
  -- where replay does not copy
  pub still_stopped : (copied : Result Bool ℕ) (test : Bool) → AtDisk copied test → test ≡ false
      → AreNoted copied old was new is first targets → Stopped d old was → Stopped d new is
  still_stopped copied test here not noted s = record {
    home = λ b less. noted.kept b (copy_after d b b (headers d)) (inl (not_copied copied test here not))
        (s.home b less);
  }

module _ (d : Disk) (at transaction : ℕ) (old was new is : List ℕ) (targets : List ℕ) (disk : IsDisk d)
    (header : is_header d at transaction (block_of d at) ≡ true) (same : targets_of (block_of d at) ≡ targets) where
  -- the home that this header gives a block
  next_home : (copied : Result Bool ℕ) → AtDisk copied (slice_index (block_of d at) 0 == 0xC7)
      → AreNoted copied old was new is (at + 1) targets → (b x : ℕ) → IsHome old was b x
      → IsHome new is b (unwrap_or (copy_in (block_of d at) at b) x)
  next_home copied here noted b x home = elim (bool_is (slice_index (block_of d at) 0 == 0xC7)) [
    | inr f ↦ subst (λ (y : ℕ). IsHome new is b y) (sym (left_in (block_of d at) at b x f))
        (noted.kept b x (inl (not_copied copied (slice_index (block_of d at) 0 == 0xC7) here f)) home)
    | inl t ↦ subst (λ (y : ℕ). IsHome new is b y)
        (sym (copied_in (block_of d at) at b x t
        ∙ ap (λ (ts : List ℕ). unwrap_or (option_map (λ m. at + 1 + m) (position (λ y. y == b) ts)) x) same))
        (elim (found_or_not b targets) [
          | inl at_m ↦
              let what = position-Some (λ y. y == b) targets at_m.0 0 at_m.1 in
              subst (λ (o : Option ℕ). IsHome new is b (unwrap_or (option_map (λ m. at + 1 + m) o) x)) (sym at_m.1)
              (noted.added b at_m.0 (not_left copied (slice_index (block_of d at) 0 == 0xC7) here t) at_m.2 at_m.3
              (λ k less e. not_equal_test (get_or targets k 0) b (what.2 k less) e))
          | inr none ↦
              subst (λ (o : Option ℕ). IsHome new is b (unwrap_or (option_map (λ m. at + 1 + m) o) x)) (sym none.0)
              (noted.kept b x (inr (λ among. apart_at b targets among.0 (apart_none b targets none.1) among.1 among.2))
              home)
        ])
  ]

  pub comes_on : (copied : Result Bool ℕ) → AtDisk copied (slice_index (block_of d at) 0 == 0xC7)
      → AreNoted copied old was new is (at + 1) targets → Comes d old was at transaction
      → Comes d new is (at + (1 + length targets)) (transaction + 1)
  comes_on copied here noted c = by_most c.most c.enough c.leads
    where
      opened : (most b found : ℕ) → copy_after d b found (headers_from (suc most) d at transaction)
          ≡ copy_after d b (unwrap_or (copy_in (block_of d at) at b) found)
          (headers_from most d (at + 1 + count_of (block_of d at)) (transaction + 1))
      opened most b found =
          let js : headers_from (suc most) d at transaction
          ≡ at ∷ headers_from most d (at + 1 + count_of (block_of d at)) (transaction + 1) = rw header refl in
          ap (λ (js : List ℕ). copy_after d b found js) js

      by_most : (most : ℕ) → 4 + d.journal ≤ at + most
          → ((b : ℕ) → b < 128 → (x : ℕ) × IsHome old was b x
          × (copy_after d b x (headers_from most d at transaction) ≡ copy_after d b b (headers d)))
          → Comes d new is (at + (1 + length targets)) (transaction + 1)
      by_most zero enough leads =
          let inside = header_in d at transaction (block_of d at) header in absurd (omega arith)
      by_most (suc most) enough leads =
          let inside = header_in d at transaction (block_of d at) header in
          let below : at < d.blocks = omega (arith, disk.room) in
          let count : length (targets_of (block_of d at)) ≡ count_of (block_of d at) =
          count_targets d at transaction disk below header in
          let long : length targets ≡ count_of (block_of d at) = ap (λ (xs : List ℕ). length xs) (sym same) ∙ count in
          let next : at + (1 + length targets) ≡ at + 1 + count_of (block_of d at) = omega arith in
          record {
            most = most;
            enough = omega arith;
            leads = λ b less.
                let lead = leads b less in (
                  unwrap_or (copy_in (block_of d at) at b) lead.0,
                  next_home copied here noted b lead.0 lead.1,
                  ap (λ (j : ℕ). copy_after d b (unwrap_or (copy_in (block_of d at) at b) lead.0)
                      (headers_from most d j (transaction + 1))) next
                      ∙ sym (opened most b lead.0) ∙ lead.2,
                );
          }
