-- Headers, and the blocks that they name.
use Rattle.std.proofs.Common.{◌≡◌, ◌≢◌, ℕ, zero, suc, ◌+◌, ◌<◌, ◌≤◌, ◌⊎◌, inl, inr, List, [], ◌∷◌, length, get_or, Bool}
use Rattle.std.proofs.Common.{true, false, nat_lt, Some, None, arith, tests, refl, sym, ◌∙◌, ap, subst}
use Rattle.std.specs.Prelude.{slice_index, ◌==◌}
use Rattle.std.specs.List.{list_all, list_any, position, position_or_len}
use Rattle.std.proofs.lemmas.List.Quantifiers.{position-Some}
use Rattle.crash_model.specs.Disk.{Disk}
use Rattle.crash_model.specs.Replay.{is_header, count_of, targets_of, is_target, is_ascending, copy_in}
use Rattle.journal_replay.proofs.Blocks.{IsShaped}

pub bool_is : (b : Bool) → (b ≡ true) ⊎ (b ≡ false)
bool_is true = inl refl
bool_is false = inr refl

pub same_number : (x y : ℕ) → (x == y) ≡ true → x ≡ y
same_number x y h = grind (arith, tests)

pub not_equal_test : (x y : ℕ) → (x == y) ≡ false → x ≢ y
not_equal_test x y h = grind (arith, tests)

any_below : (p : ℕ → Bool) (xs : List ℕ) → list_any p xs ≡ true → position_or_len p xs < length xs
any_below p [] h = absurd (cc)
any_below p (x ∷ xs) h = elim (bool_is (p x)) [
  | inl t ↦ rw t (omega arith)
  | inr f ↦ let less : position_or_len p xs < length xs = any_below p xs (rw f at h) in rw f (omega arith)
]

-- a number is at some place of a list, or at none
pub found_or_not : (b : ℕ) (xs : List ℕ) → ((m : ℕ) × (position (λ x. x == b) xs ≡ Some m) × (m < length xs)
    × (get_or xs m 0 ≡ b)) ⊎ ((position (λ x. x == b) xs ≡ None) × (list_any (λ x. x == b) xs ≡ false))
found_or_not b xs =
    let m : ℕ = position_or_len (λ x. x == b) xs in
    elim (bool_is (nat_lt m (length xs))) [
      | inl t ↦
          let here : position (λ x. x == b) xs ≡ Some m = rw t refl in
          let what : (m < length xs) × ((get_or xs m 0 == b) ≡ true)
          × ((k : ℕ) → k < m → (get_or xs k 0 == b) ≡ false) = position-Some (λ x. x == b) xs m 0 here in
          inl (m, here, what.0, same_number (get_or xs m 0) b what.1)
      | inr f ↦ inr (
        rw f refl,
        elim (bool_is (list_any (λ x. x == b) xs)) [
          | inl any ↦ let less : m < length xs = any_below (λ x. x == b) xs any in
              absurd (not_below m (length xs) f less)
          | inr none ↦ none
        ],
      )
    ]
  where
    not_below : (m n : ℕ) → nat_lt m n ≡ false → m < n → ⊥
    not_below m n f less = grind (arith, tests)

-- ---- targets

-- outside the journal
abbrev pub IsOutside : ℕ → ℕ → Type 0
IsOutside jl x = (x < 4) ⊎ (4 + jl ≤ x)

pub outside_apart : (jl x y : ℕ) → IsOutside jl x → 4 ≤ y → y < 4 + jl → x ≢ y
outside_apart jl x y out from to = elim out [ inl l ↦ grind arith | inr r ↦ grind arith ]

abbrev pub Apart : ℕ → List ℕ → Type 0
Apart b [] = Unit {0}
Apart b (x ∷ xs) = (b ≢ x) × Apart b xs

-- blocks of the disk that are not the journal's
abbrev pub AreTargets : ℕ → ℕ → List ℕ → Type 0
AreTargets n jl [] = Unit {0}
AreTargets n jl (x ∷ xs) = ((x < n) × IsOutside jl x) × AreTargets n jl xs

pub apart_none : (b : ℕ) (xs : List ℕ) → list_any (λ x. x == b) xs ≡ false → Apart b xs
apart_none b [] h = tt
apart_none b (x ∷ xs) h = elim (bool_is (x == b)) [
  | inl t ↦ let z : true ≡ false = rw t at h in absurd (cc)
  | inr f ↦ ((let a : x ≢ b = not_equal_test x b f in grind arith), apart_none b xs (rw f at h))
]

less_step : (x y : ℕ) (ys : List ℕ) → is_ascending (x ∷ y ∷ ys) ≡ true → (x < y) × (is_ascending (y ∷ ys) ≡ true)
less_step x y ys h = elim (bool_is (nat_lt x y)) [
  | inl t ↦ (less x y t, rw t at h)
  | inr f ↦ let z : false ≡ true = rw f at h in absurd (cc)
]
  where
    less : (x y : ℕ) → nat_lt x y ≡ true → x < y
    less x y t = grind (arith, tests)

pub apart_above : (x b : ℕ) (xs : List ℕ) → is_ascending (x ∷ xs) ≡ true → b ≤ x → Apart b xs
apart_above x b [] h le = tt
apart_above x b (y ∷ ys) h le = let s = less_step x y ys h in let l : x < y = s.0 in
    (grind arith, apart_above y b ys s.1 (omega arith))

pub tail_up : (x : ℕ) (xs : List ℕ) → is_ascending (x ∷ xs) ≡ true → is_ascending xs ≡ true
tail_up x [] h = refl
tail_up x (y ∷ ys) h = (less_step x y ys h).1

pub apart_journal : (n jl x : ℕ) (xs : List ℕ) → AreTargets n jl xs → 4 ≤ x → x < 4 + jl → Apart x xs
apart_journal n jl x [] t from to = tt
apart_journal n jl x (y ∷ ys) t from to = (
  (λ e. outside_apart jl y x t.0.1 from to (sym e)),
  apart_journal n jl x ys t.1 from to,
)

target_out : (d : Disk) (b : ℕ) → is_target d b ≡ true → IsOutside d.journal b
target_out d b h = grind (arith, tests)

pub targets : (n jl : ℕ) (d : Disk) (xs : List ℕ) → IsShaped n jl d → 4 + jl ≤ n → list_all (is_target d) xs ≡ true
    → AreTargets n jl xs
targets n jl d [] s room h = tt
targets n jl d (x ∷ xs) s room h = elim (bool_is (is_target d x)) [
  | inl t ↦ (
    (known d x n s.blocks (omega arith) t, subst (λ (m : ℕ). IsOutside m x) s.journal (target_out d x t)),
    targets n jl d xs s room (rw t at h),
  )
  | inr f ↦ let z : false ≡ true = rw f at h in absurd (cc)
]
  where
    known : (d : Disk) (b n : ℕ) → d.blocks ≡ n → 4 ≤ n → is_target d b ≡ true → b < n
    known d b n e least h = grind (arith, tests)

apart_at : (b : ℕ) (xs : List ℕ) (m : ℕ) → Apart b xs → m < length xs → get_or xs m 0 ≡ b → ⊥
apart_at b [] m a less is = absurd (omega arith)
apart_at b (x ∷ xs) zero a less is = a.0 (sym is)
apart_at b (x ∷ xs) (suc m) a less is = apart_at b xs m a.1 (omega arith) is

-- a block apart from the targets has no copy
pub no_copy : (row : List ℕ) (j b : ℕ) → Apart b (targets_of row) → copy_in row j b ≡ None
no_copy row j b a = elim (bool_is (slice_index row 0 == 0xC7)) [
  | inr done ↦ rw done refl
  | inl held ↦ elim (found_or_not b (targets_of row)) [
    | inl f ↦ absurd (apart_at b (targets_of row) f.0 a f.2 f.3)
    | inr none ↦ rw (held, none.0) refl
  ]
]

-- ---- headers

abbrev header_by : ℕ → ℕ → ℕ → ℕ → List ℕ → Bool
header_by bl jn j t row = is_header (record { blocks = bl; journal = jn; generations = false; bytes = [] }) j t row

-- whether a block is a header depends on its bytes and the disk's numbers
pub same_header : (d e : Disk) (j t : ℕ) (row : List ℕ) → e.blocks ≡ d.blocks → e.journal ≡ d.journal
    → is_header e j t row ≡ is_header d j t row
same_header d e j t row p q = ap (λ (m : ℕ). header_by m e.journal j t row) p
    ∙ ap (λ (m : ℕ). header_by d.blocks m j t row) q

pub header_in : (d : Disk) (j t : ℕ) (row : List ℕ) → is_header d j t row ≡ true → j < 4 + d.journal
header_in d j t row h = grind (arith, tests)

pub header_some : (d : Disk) (j t : ℕ) (row : List ℕ) → is_header d j t row ≡ true → 1 ≤ count_of row
header_some d j t row h = grind (arith, tests)

pub header_few : (d : Disk) (j t : ℕ) (row : List ℕ) → is_header d j t row ≡ true → count_of row ≤ 8
header_few d j t row h = grind (arith, tests)

pub header_fits : (d : Disk) (j t : ℕ) (row : List ℕ) → is_header d j t row ≡ true → j + count_of row ≤ 3 + d.journal
header_fits d j t row h = grind (arith, tests)

pub header_up : (d : Disk) (j t : ℕ) (row : List ℕ) → is_header d j t row ≡ true → is_ascending (targets_of row) ≡ true
header_up d j t row h = grind (arith, tests)

pub header_aimed : (d : Disk) (j t : ℕ) (row : List ℕ) → is_header d j t row ≡ true
    → list_all (is_target d) (targets_of row) ≡ true
header_aimed d j t row h = grind (arith, tests)

pub no_header_out : (d : Disk) (j t : ℕ) (row : List ℕ) → 4 + d.journal ≤ j → is_header d j t row ≡ false
no_header_out d j t row h = elim (bool_is (is_header d j t row)) [
  | inr f ↦ f
  | inl t' ↦ let z : j < 4 + d.journal = header_in d j t row t' in absurd (omega arith)
]
