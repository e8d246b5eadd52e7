-- Headers and their targets, by bytes.
use Rattle.std.proofs.Common.{◌≡◌, ◌≢◌, ℕ, zero, suc, ◌+◌, ◌-◌, ◌<◌, ◌≤◌, ◌⊎◌, inl, inr, List, [], ◌∷◌, length, drop}
use Rattle.std.proofs.Common.{get_or, Bool, true, false, ◌&&◌, ◌||◌, add-one, arith, tests, refl, sym, ◌∙◌, ap, subst}
use Rattle.std.specs.Prelude.{◌==◌, nat_le, nat_lt, slice_index}
use Rattle.std.specs.List.{list_all}
use Rattle.std.proofs.lemmas.Grind.{same_number_lists}
use Rattle.std.proofs.lemmas.Bool.{cases_eq}
use Rattle.std.proofs.lemmas.List.{get_or-take, get_or-drop, length-drop, length-take-le}
use Rattle.patch_sets.proofs.Ids.{true_from_eq, eq_from_true}
use Rattle.crash_model.specs.Disk.{Disk, IsDisk, byte, block_of}
use Rattle.crash_model.specs.Replay.{is_header, is_target, is_ascending, count_of, targets_of}
use Rattle.journal_replay.proofs.Blocks.{block-at, length-block, shaped-inside}
use Rattle.journal_replay.proofs.Walk.{count_targets, shaped-disk}
use Rattle.journal_replay.proofs.Targets.{bool_is, same_header, header_some, header_few, header_aimed}
use Rattle.known_bytes.specs.Family.{IsLike, is_one_of}
use Rattle.known_bytes.specs.Headers.{may_have, has_first}
use Rattle.known_bytes.proofs.Answered.{and_false_right}

-- ---- the bytes of a row

row_byte : (d : Disk) (at k : ℕ) → k < 128 → get_or (block_of d at) k 0 ≡ byte d at k
row_byte d at k within = block-at d at k within

pub target_byte : (d : Disk) (at k : ℕ) → k < count_of (block_of d at) → count_of (block_of d at) ≤ 8
    → get_or (targets_of (block_of d at)) k 0 ≡ byte d at (3 + k)
target_byte d at k less few =
    get_or-take (count_of (block_of d at)) (drop 3 (block_of d at)) k 0 less
    ∙ get_or-drop 3 (block_of d at) k 0 ∙ row_byte d at (3 + k) (omega arith)

all_at : (P : ℕ → Bool) (xs : List ℕ) (k : ℕ) → list_all P xs ≡ true → k < length xs → P (get_or xs k 0) ≡ true
all_at P [] k all less = absurd (omega arith)
all_at P (x ∷ xs) zero all less = first (P x) (list_all P xs) all
  where
    first : (a b : Bool) → (a && b) ≡ true → a ≡ true
    first true b h = refl
    first false b h = absurd (cc)
all_at P (x ∷ xs) (suc k) all less = all_at P xs k (second (P x) (list_all P xs) all) (omega arith)
  where
    second : (a b : Bool) → (a && b) ≡ true → b ≡ true
    second true b h = h
    second false b h = absurd (cc)

target_some : (d : Disk) (x : ℕ) → is_target d x ≡ true → x ≢ 0
target_some d x h e = let no : is_target d 0 ≡ true = subst (λ (k : ℕ). is_target d k ≡ true) e h in grind
    (arith, tests)

only_one : (x v : ℕ) → is_one_of 0 v x ≡ true → x ≢ 0 → x ≡ v
only_one x v h some = grind (arith, tests)

module _ (d : Disk) (at : ℕ) (disk : IsDisk d) (below : at < d.blocks) where
  -- the targets are these if each byte there is 0 or the one of these
  pub targets_are : (transaction count : ℕ) (ts : List ℕ) → is_header d at transaction (block_of d at) ≡ true
      → is_one_of 0 count (byte d at 2) ≡ true → length ts ≡ count
      → ((k : ℕ) → k < count → is_one_of 0 (get_or ts k 0) (byte d at (3 + k)) ≡ true)
      → targets_of (block_of d at) ≡ ts
  targets_are transaction count ts is one long each =
      let some : 1 ≤ count_of (block_of d at) = header_some d at transaction (block_of d at) is in
      let few : count_of (block_of d at) ≤ 8 = header_few d at transaction (block_of d at) is in
      let counted : byte d at 2 ≡ count_of (block_of d at) = sym (row_byte d at 2 (omega arith)) in
      let which : byte d at 2 ≡ count = only_one (byte d at 2) count one (λ e. omega arith) in
      let size : length (targets_of (block_of d at)) ≡ count_of (block_of d at) =
      count_targets d at transaction disk below is in
      same_number_lists (targets_of (block_of d at)) ts (omega arith) (λ k less.
      let inside : k < count_of (block_of d at) = omega arith in
      let here : get_or (targets_of (block_of d at)) k 0 ≡ byte d at (3 + k) = target_byte d at k inside few in
      let aimed =
      all_at (is_target d) (targets_of (block_of d at)) k (header_aimed d at transaction (block_of d at) is) less
      in
      here ∙ only_one (byte d at (3 + k)) (get_or ts k 0) (each k (omega arith))
      (λ e. target_some d _ aimed (here ∙ e)))

  -- there is no header where the count is one of 0 and a number that no header has
  pub no_header_by : (transaction count : ℕ) → is_one_of 0 count (byte d at 2) ≡ true → (count ≡ 0) ⊎ (8 < count)
      → is_header d at transaction (block_of d at) ≡ false
  no_header_by transaction count one bad = elim (bool_is (is_header d at transaction (block_of d at))) [
    | inr none ↦ none
    | inl is ↦
        let some : 1 ≤ count_of (block_of d at) = header_some d at transaction (block_of d at) is in
        let few : count_of (block_of d at) ≤ 8 = header_few d at transaction (block_of d at) is in
        let counted : byte d at 2 ≡ count_of (block_of d at) = sym (row_byte d at 2 (omega arith)) in
        let which : byte d at 2 ≡ count = only_one (byte d at 2) count one (λ e. omega arith) in
        absurd (elim bad [ inl a ↦ omega arith | inr b ↦ omega arith ])
  ]

-- ---- the first targets

pub first_step : (n : ℕ) (d : Disk) (at : ℕ) (ts : List ℕ)
    → has_first (n + 1) d at ts ≡ (has_first n d at ts && byte d at (3 + n) == slice_index ts n)
unfolding has_first
first_step n d at ts = rw add-one refl

pub first_start : (d : Disk) (at : ℕ) (ts : List ℕ) → has_first 0 d at ts ≡ (byte d at 2 == length ts)
unfolding has_first
first_start d at ts = refl

left_true : (a b : Bool) → (a && b) ≡ true → a ≡ true
left_true true b h = refl
left_true false b h = absurd (cc)

right_true : (a b : Bool) → (a && b) ≡ true → b ≡ true
right_true true b h = h
right_true false b h = absurd (cc)

both_true : (a b : Bool) → a ≡ true → b ≡ true → (a && b) ≡ true
both_true true b h e = e
both_true false b h e = absurd (cc)

module _ (d : Disk) (at : ℕ) (ts : List ℕ) where
  first_from : (n : ℕ) → byte d at 2 ≡ length ts → ((k : ℕ) → k < n → byte d at (3 + k) ≡ get_or ts k 0)
      → has_first n d at ts ≡ true
  unfolding has_first
  first_from zero count each = true_from_eq (byte d at 2) (length ts) count
  first_from (suc n) count each = both_true (has_first n d at ts) _
      (first_from n count (λ k less. each k (omega arith)))
      (true_from_eq (byte d at (3 + n)) (get_or ts n 0) (each n (omega arith)))

  first_count : (n : ℕ) → has_first n d at ts ≡ true → byte d at 2 ≡ length ts
  unfolding has_first
  first_count zero h = eq_from_true (byte d at 2) (length ts) h
  first_count (suc n) h = first_count n (left_true (has_first n d at ts) _ h)

  first_byte : (n k : ℕ) → has_first n d at ts ≡ true → k < n → byte d at (3 + k) ≡ get_or ts k 0
  unfolding has_first
  first_byte zero k h less = absurd (omega arith)
  first_byte (suc n) k h less = elim (cases_eq k n) [
    | inl same ↦ subst (λ (j : ℕ). byte d at (3 + j) ≡ get_or ts j 0) (sym same)
        (eq_from_true (byte d at (3 + n)) (get_or ts n 0) (right_true (has_first n d at ts) _ h))
    | inr other ↦ first_byte n k (left_true (has_first n d at ts) _ h) (omega arith)
  ]

-- ---- a header by its bytes

abbrev header_by : Disk → ℕ → ℕ → ℕ → ℕ → ℕ → List ℕ → Bool
header_by d j t mark number count targets =
    nat_lt j (4 + d.journal) && (mark == 0xC7 || mark == 0xC8) && number == t
    && nat_le 1 count && nat_le count 8 && nat_le (j + count) (3 + d.journal)
    && is_ascending targets && list_all (is_target d) targets

by_tests : (d : Disk) (j t mark number count : ℕ) (ts : List ℕ) → 1 ≤ count → count ≤ 8 → length ts ≡ count
    → may_have d j ts ≡ true
    → header_by d j t mark number count ts ≡ (is_one_of 0xC7 0xC8 mark && (number == t && true))
by_tests d j t mark number count ts some few long may = grind (arith, tests)

module _ (base d : Disk) (at transaction : ℕ) (ts : List ℕ) (like : IsLike base d) (below : at < base.blocks)
    (some : 1 ≤ length ts) (few : length ts ≤ 8) (may : may_have base at ts ≡ true)
    (known : is_header d at transaction (block_of d at) ≡ true → targets_of (block_of d at) ≡ ts) where
  below_d : at < d.blocks
  below_d = omega (arith, like.blocks)

  by_row : (mark number count : ℕ) (targets : List ℕ) → get_or (block_of d at) 0 0 ≡ mark
      → get_or (block_of d at) 1 0 ≡ number → get_or (block_of d at) 2 0 ≡ count → targets_of (block_of d at) ≡ targets
      → is_header d at transaction (block_of d at) ≡ header_by base at transaction mark number count targets
  by_row mark number count targets a b c e =
      same_header base d at transaction (block_of d at) like.blocks like.journal
      ∙ ap (λ (m : ℕ). header_by base at transaction m (get_or (block_of d at) 1 0) (get_or (block_of d at) 2 0)
      (targets_of (block_of d at))) a
      ∙ ap (λ (m : ℕ). header_by base at transaction mark m (get_or (block_of d at) 2 0) (targets_of (block_of d at))) b
      ∙ ap (λ (m : ℕ). header_by base at transaction mark number m (targets_of (block_of d at))) c
      ∙ ap (λ (xs : List ℕ). header_by base at transaction mark number count xs) e

  pub header_is : (is_one_of 0xC7 0xC8 (byte d at 0) && ((byte d at 1 == transaction) && has_first (length ts) d at ts))
      ≡ is_header d at transaction (block_of d at)
  header_is = elim (bool_is (has_first (length ts) d at ts)) [
    | inl all ↦
        let count : byte d at 2 ≡ length ts = first_count d at ts (length ts) all in
        let counted : count_of (block_of d at) ≡ byte d at 2 = row_byte d at 2 (omega arith) in
        let size : length (targets_of (block_of d at)) ≡ length ts = sized counted count in
        let same : targets_of (block_of d at) ≡ ts = same_number_lists (targets_of (block_of d at)) ts size (λ k less.
        target_byte d at k (omega arith) (omega arith) ∙ first_byte d at ts (length ts) k all (omega arith)) in
        ap (λ (b : Bool). is_one_of 0xC7 0xC8 (byte d at 0) && ((byte d at 1 == transaction) && b)) all
        ∙ sym (by_row (byte d at 0) (byte d at 1) (length ts) ts (row_byte d at 0 (omega arith))
        (row_byte d at 1 (omega arith)) (counted ∙ count) same
        ∙ by_tests base at transaction (byte d at 0) (byte d at 1) (length ts) ts some few refl may)
    | inr not_all ↦
        ap (λ (b : Bool). is_one_of 0xC7 0xC8 (byte d at 0) && ((byte d at 1 == transaction) && b)) not_all
        ∙ and_false_right (is_one_of 0xC7 0xC8 (byte d at 0)) _
        (and_false_right (byte d at 1 == transaction) false refl)
        ∙ sym (elim (bool_is (is_header d at transaction (block_of d at))) [
          | inr none ↦ none
          | inl is ↦
              let size : length (targets_of (block_of d at)) ≡ count_of (block_of d at) =
              count_targets d at transaction like.disk below_d is in
              let same : targets_of (block_of d at) ≡ ts = known is in
              let long : length (targets_of (block_of d at)) ≡ length ts = ap (λ (xs : List ℕ). length xs) same in
              let counted : count_of (block_of d at) ≡ byte d at 2 = row_byte d at 2 (omega arith) in
              let all = first_from d at ts (length ts) (omega arith) (λ k less.
              sym (target_byte d at k (omega arith) (omega arith)) ∙ ap (λ (xs : List ℕ). get_or xs k 0) same) in
              let no : true ≡ false = sym all ∙ not_all in
              absurd (cc)
        ])
  ]
    where
      sized : count_of (block_of d at) ≡ byte d at 2 → byte d at 2 ≡ length ts
          → length (targets_of (block_of d at)) ≡ length ts
      sized counted count =
          let whole : length (block_of d at) ≡ 128 = length-block d at (shaped-inside d.blocks d.journal d at
          (shaped-disk d like.disk) below_d) in
          let dropped : length (drop 3 (block_of d at)) ≡ length (block_of d at) - 3 = length-drop 3 (block_of d at) in
          length-take-le (count_of (block_of d at)) (drop 3 (block_of d at)) (omega arith) ∙ counted ∙ count
