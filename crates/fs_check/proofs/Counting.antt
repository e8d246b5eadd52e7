-- Counting the elements of a table place by place, and keeping the counts of several tables in a list.
use Rattle.std.proofs.Common.{◌≡◌, ◌≢◌, ℕ, zero, suc, ◌+◌, ◌*◌, ◌<◌, ◌≤◌, inl, inr, List, length, get_or, set}
use Rattle.std.proofs.Common.{replicate, Option, Some, None, arith, refl, sym, ap, ◌∙◌, subst, add-one, length-append}
use Rattle.std.proofs.Common.{mul-suc}
use Rattle.std.proofs.lemmas.Bool.{cases_eq}
use Rattle.std.proofs.lemmas.List.{get_or-set_same, get_or-set_other, length-set, get_or-replicate, length-replicate}
use Rattle.std.specs.Prelude.{option_to_list}
use Rattle.crash_model.specs.Lists.{each_below, some_below}
use Rattle.crash_model.proofs.EachBelow.{each_below-zero, each_below-step, some_below-zero, some_below-step}
use Rattle.crash_model.proofs.EachBelow.{length-some_below}
use Rattle.fs_check.specs.TableCounts.{row_of, count_before, IsTally}

-- ---- lengths

length-some_below-more : {X : Type 0} (n : ℕ) (at : ℕ → Option X)
    → length (some_below (n + 1) at) ≡ length (some_below n at) + length (option_to_list (at n))
length-some_below-more n at = rw (some_below-step, length-append) refl

length-each_below-more : {X : Type 0} (n : ℕ) (list : ℕ → List X)
    → length (each_below (n + 1) list) ≡ length (each_below n list) + length (list n)
length-each_below-more n list = rw (each_below-step, length-append) refl

-- a longer search finds no fewer
some_below-grows : {X : Type 0} (m n : ℕ) (at : ℕ → Option X) → m ≤ n
    → length (some_below m at) ≤ length (some_below n at)
unfolding some_below
some_below-grows m zero at le = subst (λ (k : ℕ). length (some_below k at) ≤ 0) (let e : 0 ≡ m = omega arith in e)
    (omega arith)
some_below-grows m (suc n) at le = elim (cases_eq m (suc n)) [
  | inl same ↦ subst (λ (k : ℕ). length (some_below m at) ≤ length (some_below k at)) same (omega arith)
  | inr other ↦ omega (
    arith,
    length-append (some_below n at) (option_to_list (at n)),
    some_below-grows m n at (omega arith),
  )
]

each_below-grows : {X : Type 0} (m n : ℕ) (list : ℕ → List X) → m ≤ n
    → length (each_below m list) ≤ length (each_below n list)
unfolding each_below
each_below-grows m zero list le = subst (λ (k : ℕ). length (each_below k list) ≤ 0) (let e : 0 ≡ m = omega arith in e)
    (omega arith)
each_below-grows m (suc n) list le = elim (cases_eq m (suc n)) [
  | inl same ↦ subst (λ (k : ℕ). length (each_below m list) ≤ length (each_below k list)) same (omega arith)
  | inr other ↦ omega (arith, length-append (each_below n list) (list n), each_below-grows m n list (omega arith))
]

-- ---- the count before a place, and at the next place

pub count_before-start : {X : Type 0} (width : ℕ) (at : ℕ → ℕ → Option X) → count_before width at 0 0 ≡ 0
unfolding count_before
count_before-start width at = rw (each_below-zero, some_below-zero) refl

pub count_before-row : {X : Type 0} (width : ℕ) (at : ℕ → ℕ → Option X) (row : ℕ)
    → count_before width at (row + 1) 0 ≡ count_before width at row width
unfolding count_before
count_before-row width at row = omega (
  arith,
  length-each_below-more row (row_of width at),
  ap length (some_below-zero (at (row + 1))),
)

pub count_before-more : {X : Type 0} (width : ℕ) (at : ℕ → ℕ → Option X) (row column : ℕ)
    → count_before width at row (column + 1) ≡ count_before width at row column
    + length (option_to_list (at row column))
unfolding count_before
count_before-more width at row column = omega (arith, length-some_below-more column (at row))

-- an empty row adds none
pub count_before-empty_row : {X : Type 0} (width : ℕ) (at : ℕ → ℕ → Option X) (row column : ℕ)
    → ((c : ℕ) → at row c ≡ None) → count_before width at row column ≡ count_before width at row 0
count_before-empty_row width at row zero none = refl
count_before-empty_row width at row (suc column) none =
    ap (count_before width at row) (sym (add-one column))
    ∙ count_before-more width at row column
    ∙ omega (
      arith,
      ap (λ (o : Option _). length (option_to_list o)) (none column),
      count_before-empty_row width at row column none,
    )

-- no more than there are places
length-rows : {X : Type 0} (width : ℕ) (at : ℕ → ℕ → Option X) (rows : ℕ)
    → length (each_below rows (row_of width at)) ≤ width * rows
unfolding each_below
length-rows width at zero = omega arith
length-rows width at (suc rows) = omega (
  arith,
  length-append (each_below rows (row_of width at))
      (row_of width at rows),
  length-rows width at rows,
  length-some_below width (at rows),
  mul-suc width rows,
)

pub count_before-most : {X : Type 0} (width : ℕ) (at : ℕ → ℕ → Option X) (row column : ℕ)
    → count_before width at row column ≤ width * row + column
unfolding count_before
count_before-most width at row column = omega (arith, length-rows width at row, length-some_below column (at row))

-- no more than in all rows
pub count_before-grows : {X : Type 0} (width : ℕ) (at : ℕ → ℕ → Option X) (rows row column : ℕ) → row < rows
    → column ≤ width → count_before width at row column ≤ count_before width at rows 0
unfolding count_before
count_before-grows width at rows row column below within =
    omega (
      arith,
      each_below-grows (row + 1) rows (row_of width at) (omega arith),
      length-each_below-more row (row_of width at),
      some_below-grows column width (at row) within,
    )

-- ---- a list of counts

pub tally-start : {X : Type 0} (width : ℕ) (at : ℕ → ℕ → ℕ → Option X) (keys : ℕ)
    → IsTally width at 0 0 (replicate keys 0)
tally-start width at keys key below =
    get_or-replicate keys key 0 0 (omega (arith, length-replicate {A = ℕ} keys 0))
    ∙ sym (count_before-start width (at key))

pub tally-row : {X : Type 0} (width : ℕ) (at : ℕ → ℕ → ℕ → Option X) (row column : ℕ) (counts : List ℕ) → column ≡ width
    → IsTally width at row column counts → IsTally width at (row + 1) 0 counts
tally-row width at row column counts end tally key below = tally key below ∙ ap (count_before width (at key) row) end
    ∙ sym (count_before-row width (at key) row)

pub tally-empty_row : {X : Type 0} (width : ℕ) (at : ℕ → ℕ → ℕ → Option X) (row : ℕ) (counts : List ℕ)
    → ((key c : ℕ) → at key row c ≡ None) → IsTally width at row 0 counts → IsTally width at (row + 1) 0 counts
tally-empty_row width at row counts none tally =
    tally-row width at row width counts refl (λ key below. tally key below
    ∙ sym (count_before-empty_row width (at key) row width (none key)))

pub tally-none : {X : Type 0} (width : ℕ) (at : ℕ → ℕ → ℕ → Option X) (row column : ℕ) (counts : List ℕ)
    → ((key : ℕ) → key < length counts → at key row column ≡ None) → IsTally width at row column counts
    → IsTally width at row (column + 1) counts
tally-none width at row column counts none tally key below =
    omega (
      arith,
      tally key below,
      count_before-more width (at key) row column,
      ap (λ (o : Option _). length (option_to_list o)) (none key below),
    )

-- one more of one key
pub tally-one : {X : Type 0} (width : ℕ) (at : ℕ → ℕ → ℕ → Option X) (row column : ℕ) (counts : List ℕ) (p v : ℕ)
    (x : X) → at p row column ≡ Some x → ((key : ℕ) → key ≢ p → at key row column ≡ None) → p < length counts
    → v ≡ get_or counts p 0 + 1 → IsTally width at row column counts
    → IsTally width at row (column + 1) (set counts p v)
tally-one width at row column counts p v x one none within more tally key below =
    elim (cases_eq key p) [
      | inl same ↦ subst (λ (q : ℕ). get_or (set counts p v) q 0 ≡ count_before width (at q) row (column + 1))
          (sym same)
          (get_or-set_same counts p v 0 within ∙ omega (
            arith,
            more,
            tally p within,
            count_before-more width (at p) row column,
            ap (λ (o : Option _). length (option_to_list o)) one,
          ))
      | inr other ↦ get_or-set_other counts p key v 0 other
          ∙ omega (
            arith,
            tally key (omega (arith, length-set counts p v)),
            count_before-more width (at key) row column,
            ap (λ (o : Option _). length (option_to_list o)) (none key other),
          )
    ]
