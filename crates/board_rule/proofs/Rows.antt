-- Rows, and what seats have seen of them, after a step.
use Rattle.std.proofs.Common.{◌≡◌, ℕ, ◌+◌, ◌/◌, ◌%◌, ◌<◌, ◌≤◌, ◌≢◌, List, [], ◌∷◌, ◌++◌, length, get_or, set, sym, refl}
use Rattle.std.proofs.Common.{◌∙◌, subst, arith, length-set, length-append, get_or-set_other, get_or-set_same}
use Rattle.state_space.specs.Reach.{IsReached}
use Rattle.board_rule.specs.Layout.{writer, half, length_word, low_word, high_word, index_word}
use Rattle.board_rule.specs.Lists.{row_of, StartsWith}
use Rattle.board_rule.specs.Views.{Fixed, OnRows}
use Rattle.board_rule.specs.Rule.{RowsOk, SeatOk}
use Rattle.board_rule.proofs.Sums.{starts-refl, starts-trans, snoc_cases, rows_cases}

-- both halves of an entry are as they were
abbrev pub Halves : ℕ → List ℕ → List ℕ → ℕ → ℕ → Type 0
Halves places words words' q k = (get_or words' (low_word q k) 0 ≡ get_or words (low_word q k) 0)
    × (get_or words' (high_word places q k) 0 ≡ get_or words (high_word places q k) 0)

-- a step that changes no length, and no entry that is published
pub rows_stay : (t : Fixed) (rows : List (List ℕ)) (words words' : List ℕ) → RowsOk t rows words
    → ((q : ℕ) → q < 13 → get_or words' (length_word q) 0 ≡ get_or words (length_word q) 0)
    → ((q k : ℕ) → q < 13 → k < length (row_of rows q) → Halves t.places words words' q k) → RowsOk t rows words'
rows_stay t rows words words' o lens halves = record {
  all = o.all;
  short = o.short;
  stored = λ q h. lens q h ∙ o.stored q h;
  lows = λ q k h b. (halves q k h b).0 ∙ o.lows q k h b;
  highs = λ q k h b. (halves q k h b).1 ∙ o.highs q k h b;
  at_home = o.at_home;
  distinct = o.distinct;
  reached = o.reached;
}

-- a seat with no right on shard q, where only the row and the words of q change. With 13 for q none changes
pub seat_other : (places : ℕ) (rows rows' : List (List ℕ)) (words words' : List ℕ) (q : ℕ) (u : OnRows)
    → SeatOk places rows words u → (u.held ≡ q → u.right ≡ 0)
    → ((p : ℕ) → p < 13 → StartsWith (row_of rows' p) (row_of rows p))
    → ((p : ℕ) → p ≢ q → row_of rows' p ≡ row_of rows p)
    → ((p k : ℕ) → p < 13 → p ≢ q → k < places → Halves places words words' p k)
    → ((p j : ℕ) → p < 13 → p ≢ q → j < places → get_or words' (index_word places p j) 0
    ≡ get_or words (index_word places p j) 0) → SeatOk places rows' words' u
seat_other places rows rows' words words' q u o none-here grows same halves marks = let away : 0 < u.right
    → u.held ≢ q = λ h e. omega (arith, h, none-here e) in record {
      all = o.all;
      saw = λ p h. starts-trans (row_of u.seen p) (row_of rows p) (row_of rows' p) (grows p h) (o.saw p h);
      near = o.near;
      whole = λ h. o.whole h ∙ sym (same u.held (away h));
      low = λ x e. let t = o.low x e in let ne = away (omega (arith, t.0)) in
          subst (λ (r : List ℕ). (u.right ≡ writer) × (get_or words' (low_word u.held (length r)) 0 ≡ x)
          × (length r < places)) (sym (same u.held ne)) (
            t.0,
            (halves u.held (length (row_of rows u.held)) o.near ne t.2).0 ∙ t.1,
            t.2,
          );
      high = λ x e. let t = o.high x e in let ne = away (omega (arith, t.0)) in
          subst (λ (r : List ℕ). (u.right ≡ writer) × (get_or words' (high_word places u.held (length r)) 0 ≡ x)
          × (length r < places)) (sym (same u.held ne)) (
            t.0,
            (halves u.held (length (row_of rows u.held)) o.near ne t.2).1 ∙ t.1,
            t.2,
          );
      marked = o.marked;
      marks = λ h j b. marks u.held j o.near (away h) b ∙ o.marks h j b;
    }

-- a step that changes no entry word and no index word
pub seat_stay : (places : ℕ) (rows : List (List ℕ)) (words words' : List ℕ) (u : OnRows) → SeatOk places rows words u
    → ((p k : ℕ) → p < 13 → k < places → Halves places words words' p k)
    → ((p j : ℕ) → p < 13 → j < places → get_or words' (index_word places p j) 0 ≡ get_or words (index_word places p j)
    0) → SeatOk places rows words' u
seat_stay places rows words words' u o halves marks = seat_other places rows rows words words' 13 u o
    (λ e. absurd (omega (arith, e, o.near))) (λ p h. starts-refl (row_of rows p)) (λ p ne. refl)
    (λ p k h ne b. halves p k h b) (λ p j h ne b. marks p j h b)

-- the row of shard q grows by a word that it lacks, both halves of which come after it
pub rows_grow : (t : Fixed) (rows : List (List ℕ)) (words : List ℕ) (q x : ℕ) → q < 13 → 216 ≤ length words
    → RowsOk t rows words → length (row_of rows q) < t.places
    → get_or words (low_word q (length (row_of rows q))) 0 ≡ x % half
    → get_or words (high_word t.places q (length (row_of rows q))) 0 ≡ x / half → x % 13 ≡ q
    → IsReached t.next t.origin x → ((k : ℕ) → k < length (row_of rows q) → get_or (row_of rows q) k 0 ≢ x)
    → RowsOk t (set rows q (row_of rows q ++ x ∷ [])) (set words (length_word q) (length (row_of rows q) + 1))
rows_grow t rows words q x near long o room low high home right absent = let row = row_of rows q in
    let new = row ++ x ∷ [] in let more : length new ≡ length row + 1 = length-append row (x ∷ []) in
    let words' = set words (length_word q) (length row + 1) in
    let same : (a : ℕ) → 216 ≤ a → get_or words' a 0 ≡ get_or words a 0 = λ a h. get_or-set_other words (length_word q)
    a (length row + 1) 0 (λ e. omega (arith, e, h, near)) in record {
      all = length-set rows q new ∙ o.all;
      short = rows_cases rows q new (λ p r. length r ≤ t.places) o.all near (omega (arith, more))
          (λ p h ne. o.short p h);
      stored = rows_cases rows q new (λ p r. get_or words' (length_word p) 0 ≡ length r) o.all near
          (get_or-set_same words (length_word q) (length row + 1) 0 (omega arith) ∙ sym more)
          (λ p h ne. get_or-set_other words (length_word q) (length_word p) (length row + 1) 0 (λ e. ne (omega arith))
          ∙ o.stored p h);
      lows = λ p k h. rows_cases rows q new (λ p r. (k : ℕ) → k < length r
          → get_or words' (low_word p k) 0 ≡ get_or r k 0 % half) o.all near
          (snoc_cases row x (λ k y. get_or words' (low_word q k) 0 ≡ y % half)
          (λ k b. same (low_word q k) (omega arith) ∙ o.lows q k near b)
          (same (low_word q (length row)) (omega arith) ∙ low))
          (λ p h ne k b. same (low_word p k) (omega arith) ∙ o.lows p k h b) p h k;
      highs = λ p k h. rows_cases rows q new (λ p r. (k : ℕ) → k < length r
          → get_or words' (high_word t.places p k) 0 ≡ get_or r k 0 / half) o.all near
          (snoc_cases row x (λ k y. get_or words' (high_word t.places q k) 0 ≡ y / half)
          (λ k b. same (high_word t.places q k) (omega arith) ∙ o.highs q k near b)
          (same (high_word t.places q (length row)) (omega arith) ∙ high))
          (λ p h ne k b. same (high_word t.places p k) (omega arith) ∙ o.highs p k h b) p h k;
      at_home = λ p k h. rows_cases rows q new (λ p r. (k : ℕ) → k < length r → get_or r k 0 % 13 ≡ p) o.all near
          (snoc_cases row x (λ k y. y % 13 ≡ q) (λ k b. o.at_home q k near b) home) (λ p h ne k b. o.at_home p k h b) p
          h k;
      distinct = λ p j k h. rows_cases rows q new (λ p r. (j k : ℕ) → j < length r → k < length r
          → get_or r j 0 ≡ get_or r k 0 → j ≡ k) o.all near
          (λ j k bj bk. snoc_cases row x (λ j y. y ≡ get_or new k 0 → j ≡ k)
          (λ j b. snoc_cases row x (λ k z. get_or row j 0 ≡ z → j ≡ k) (λ k c e. o.distinct q j k near b c e)
          (λ e. absurd (absent j b e)) k bk)
          (snoc_cases row x (λ k z. x ≡ z → length row ≡ k) (λ k c e. absurd (absent k c (sym e))) (λ e. refl) k bk) j
          bj)
          (λ p h ne j k bj bk e. o.distinct p j k h bj bk e) p h j k;
      reached = λ p k h. rows_cases rows q new (λ p r. (k : ℕ) → k < length r
          → IsReached t.next t.origin (get_or r k 0)) o.all near
          (snoc_cases row x (λ k y. IsReached t.next t.origin y) (λ k b. o.reached q k near b) right)
          (λ p h ne k b. o.reached p k h b) p h k;
    }

-- a seat that has no right and owes nothing
pub seat_free : (places : ℕ) (rows : List (List ℕ)) (words : List ℕ) (r : OnRows) → length r.seen ≡ 13
    → ((q : ℕ) → q < 13 → StartsWith (row_of rows q) (row_of r.seen q)) → r.held < 13
    → r.right ≡ 0 → r.low ≡ [] → r.high ≡ [] → SeatOk places rows words r
seat_free places rows words r all saw near none-here low high = record {
  all = all;
  saw = saw;
  near = near;
  whole = λ h. absurd (omega (arith, h, none-here));
  low = λ x e. absurd (cc (low, e));
  high = λ x e. absurd (cc (high, e));
  marked = λ h. absurd (omega (arith, h, none-here));
  marks = λ h. absurd (omega (arith, h, none-here));
}
