-- What the checker knows of the places that it has passed: one more place, one more row, and that a key has too many.
use Rattle.std.proofs.Common.{◌≡◌, ◌≢◌, ℕ, ◌+◌, ◌<◌, ◌≤◌, inl, inr, List, length, get_or, set, replicate, false, Option}
use Rattle.std.proofs.Common.{Some, None, arith, sym, ap, ◌∙◌, subst, below_more}
use Rattle.std.proofs.lemmas.Bool.{cases_eq}
use Rattle.std.proofs.lemmas.List.{get_or-set_same, get_or-set_other, length-set, get_or-replicate, length-replicate}
use Rattle.std.specs.Prelude.{option_to_list}
use Rattle.fs_check.specs.TableCounts.{count_before}
use Rattle.fs_check.specs.Passed.{Table, HavePassed}
use Rattle.fs_check.proofs.Counting.{tally-start, tally-row, tally-empty_row, tally-none, tally-one, count_before-grows}
use Rattle.fs_check.proofs.Counting.{count_before-more}

module _ (t : Table) where
  pub passed-start : HavePassed t 0 0 (replicate t.keys 0)
  passed-start = record {
    rows_right = λ r below. absurd (omega arith);
    row_right = λ c below. absurd (omega arith);
    size = length-replicate {A = ℕ} t.keys 0;
    tally = tally-start t.width t.element t.keys;
    few = λ key below. omega (arith, get_or-replicate {A = ℕ} t.keys key 0 0 below);
  }

  -- all places of a row
  pub passed-row : (row column : ℕ) (counts : List ℕ) → column ≡ t.width → HavePassed t row column counts
      → HavePassed t (row + 1) 0 counts
  passed-row row column counts end passed = record {
    rows_right = below_more _ _ passed.rows_right (λ c below. passed.row_right c (omega arith));
    row_right = λ c below. absurd (omega arith);
    size = passed.size;
    tally = tally-row t.width t.element row column counts end passed.tally;
    few = passed.few;
  }

  -- a row that counts for nothing
  pub passed-empty_row : (row : ℕ) (counts : List ℕ) → ((c : ℕ) → t.is_faulty row c ≡ false)
      → ((key c : ℕ) → t.element key row c ≡ None)
      → HavePassed t row 0 counts → HavePassed t (row + 1) 0 counts
  passed-empty_row row counts right none passed = record {
    rows_right = below_more _ _ passed.rows_right (λ c below. right c);
    row_right = λ c below. absurd (omega arith);
    size = passed.size;
    tally = tally-empty_row t.width t.element row counts none passed.tally;
    few = passed.few;
  }

  -- a place that counts for nothing
  pub passed-empty : (row column : ℕ) (counts : List ℕ) → t.is_faulty row column ≡ false
      → ((key : ℕ) → t.element key row column ≡ None)
      → HavePassed t row column counts → HavePassed t row (column + 1) counts
  passed-empty row column counts right none passed = record {
    rows_right = passed.rows_right;
    row_right = below_more _ _ passed.row_right right;
    size = passed.size;
    tally = tally-none t.width t.element row column counts (λ key below. none key) passed.tally;
    few = passed.few;
  }

  -- a place that counts for one key, which may have one more
  pub passed-one : (row column p v : ℕ) (counts : List ℕ) (x : ℕ × ℕ) → t.is_faulty row column ≡ false
      → t.element p row column ≡ Some x → ((key : ℕ) → key ≢ p → t.element key row column ≡ None)
      → p < t.keys → v ≡ get_or counts p 0 + 1 → v ≤ t.most p
      → HavePassed t row column counts → HavePassed t row (column + 1) (set counts p v)
  passed-one row column p v counts x right here none below more room passed =
      let within : p < length counts = omega (arith, passed.size) in
      record {
        rows_right = passed.rows_right;
        row_right = below_more _ _ passed.row_right right;
        size = length-set counts p v ∙ passed.size;
        tally = tally-one t.width t.element row column counts p v x here none within more passed.tally;
        few = λ key less. elim (cases_eq key p) [
          | inl same ↦ subst (λ (q : ℕ). get_or (set counts p v) q 0 ≤ t.most q) (sym same)
              (omega (arith, get_or-set_same counts p v 0 within))
          | inr other ↦ omega (arith, get_or-set_other counts p key v 0 other, passed.few key less)
        ];
      }

  -- a place that counts for a key that has its most before it
  pub too_many : (rows row column p : ℕ) (counts : List ℕ) (x : ℕ × ℕ) → row < rows → column < t.width → p < t.keys
      → t.element p row column ≡ Some x → t.most p ≤ get_or counts p 0 → HavePassed t row column counts
      → t.most p < count_before t.width (t.element p) rows 0
  too_many rows row column p counts x a b below here full passed =
      omega (
        arith,
        passed.tally p (omega (arith, passed.size)),
        count_before-more t.width (t.element p) row column,
        ap (λ (o : Option (ℕ × ℕ)). length (option_to_list o)) here,
        count_before-grows t.width (t.element p) rows row (column + 1) a (omega arith),
      )

  -- in all rows a key has no more than its most
  pub not_many : (rows p : ℕ) (counts : List ℕ) → p < t.keys → HavePassed t rows 0 counts
      → count_before t.width (t.element p) rows 0 ≤ t.most p
  not_many rows p counts below passed = omega (arith, passed.tally p (omega (arith, passed.size)), passed.few p below)
