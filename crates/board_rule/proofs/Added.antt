-- Who published what, after a step.
use Rattle.std.proofs.Common.{◌≡◌, ℕ, ◌+◌, ◌/◌, ◌%◌, ◌<◌, ◌≤◌, List, [], ◌∷◌, ◌++◌, length, set, cond, refl, ap, sym}
use Rattle.std.proofs.Common.{◌∙◌, subst, arith, eqb, ltb, eq-eqb, ne_eqb, lt-ltb, le-ltb, length-append}
use Rattle.std.proofs.Common.{get_or-set_other, get_or-set_same}
use mathlib.Core.Logic.{dite}
use native.Mathlib.Decide.{ℕ_discrete, dec_le}
use mathlib.Core.Option.{some}
use lib.ListN.{get_elem?}
use Rattle.board_rule.specs.Layout.{place_of}
use Rattle.board_rule.specs.Lists.{row_of, total}
use Rattle.board_rule.specs.Rule.{times, is_published, start_place, AddedOk}
use Rattle.board_rule.specs.declared.view.View.{View}
use Rattle.board_rule.proofs.Sums.{total-set, total-append, total_set_or, term_le}

pub published_yes : (rows : List (List ℕ)) (p : ℕ) → p / 13 < length (row_of rows (p % 13)) → is_published rows p ≡ 1
published_yes rows p h = ap {B = ℕ} (λ b. cond b 1 0) (lt-ltb (p / 13) (length (row_of rows (p % 13))) h)

pub published_no : (rows : List (List ℕ)) (p : ℕ) → length (row_of rows (p % 13)) ≤ p / 13 → is_published rows p ≡ 0
published_no rows p h = ap {B = ℕ} (λ b. cond b 1 0) (le-ltb (p / 13) (length (row_of rows (p % 13))) h)

pub published_low : (rows : List (List ℕ)) (p : ℕ) → is_published rows p ≤ 1
published_low rows p = dite (dec_le (length (row_of rows (p % 13))) (p / 13))
    (λ b. omega (arith, published_no rows p b)) (λ n. omega (arith, published_yes rows p (omega (arith, n))))

pub published_place : (rows : List (List ℕ)) (p : ℕ) → 1 ≤ is_published rows p → p / 13 < length (row_of rows (p % 13))
published_place rows p h = dite (dec_le (length (row_of rows (p % 13))) (p / 13))
    (λ b. absurd (omega (arith, h, published_no rows p b))) (λ n. omega (arith, n))

pub added_stay : (origin : ℕ) (rows : List (List ℕ)) (views : List View) (i : ℕ) (v w : View)
    → AddedOk origin rows views → get_elem? views i ≡ some v → w.rows.added ≡ v.rows.added
    → AddedOk origin rows (set views i w)
added_stay origin rows views i v w o me same = record {
  once = λ p. omega (
    arith,
    o.once p,
    total-set (times p) views i v w me,
    ap (λ (l : List ℕ). total (λ x. cond (eqb x p) 1 0) l) same,
  );
  many = omega (arith, o.many, total-set (λ u. length u.rows.added) views i v w me, ap length same);
}

once_grow : (origin : ℕ) (rows : List (List ℕ)) (views : List View) (i q x : ℕ) (v w : View) → q < 13 → length rows ≡ 13
    → AddedOk origin rows views → get_elem? views i ≡ some v
    → w.rows.added ≡ v.rows.added ++ place_of q (length (row_of rows q)) ∷ [] → (p : ℕ)
    → total (times p) (set views i w) + cond (eqb p (start_place origin)) 1 0
    ≡ is_published (set rows q (row_of rows q ++ x ∷ [])) p
once_grow origin rows views i q x v w near all o me more p = let row = row_of rows q in let r' = row ++ x ∷ [] in
    let rows' = set rows q r' in let new = place_of q (length row) in
    let at-rows : row_of rows' q ≡ r' = get_or-set_same rows q r' [] (omega (arith, all, near)) in
    let sum = total-set (times p) views i v w me in
    let mine : times p w ≡ times p v + cond (eqb new p) 1 0 = ap (λ (l : List ℕ). total (λ x. cond (eqb x p) 1 0) l)
    more ∙ total-append (λ x. cond (eqb x p) 1 0) v.rows.added (new ∷ [])
    ∙ (let z : times p v + (cond (eqb new p) 1 0 + 0) ≡ times p v + cond (eqb new p) 1 0 = omega arith in z) in
    dite (ℕ_discrete new p)
    (λ e. let shard : p % 13 ≡ q = omega (arith, e, near) in let at : p / 13 ≡ length row = omega (arith, e, near) in
    let before : is_published rows p ≡ 0 = published_no rows p
    (subst (λ (y : ℕ). length (row_of rows y) ≤ p / 13) (sym shard) (omega (arith, at))) in
    let after : is_published rows' p ≡ 1 = published_yes rows' p
    (subst (λ (y : ℕ). p / 13 < length (row_of rows' y)) (sym shard)
    (omega (arith, at, ap length at-rows, length-append row (x ∷ [])))) in
    let one : cond (eqb new p) 1 0 ≡ 1 = ap {B = ℕ} (λ b. cond b 1 0) (eq-eqb new p e) in
    omega (arith, o.once p, sum, mine, before, after, one))
    (λ ne. let none : cond (eqb new p) 1 0 ≡ 0 = ap {B = ℕ} (λ b. cond b 1 0) (ne_eqb new p ne) in
    let same : is_published rows' p ≡ is_published rows p = dite (ℕ_discrete (p % 13) q)
    (λ s. let here : row_of rows' (p % 13) ≡ r' = rw s at-rows in let was : row_of rows (p % 13) ≡ row = rw s refl in
    dite (dec_le (length row) (p / 13))
    (λ b. published_no rows' p (omega (arith, ap length here, length-append row (x ∷ []), b, ne, s))
    ∙ sym (published_no rows p (omega (arith, ap length was, b))))
    (λ n. published_yes rows' p (omega (arith, ap length here, length-append row (x ∷ []), n))
    ∙ sym (published_yes rows p (omega (arith, ap length was, n)))))
    (λ ns. ap {B = ℕ} (λ (l : List ℕ). cond (ltb (p / 13) (length l)) 1 0)
    (get_or-set_other rows q (p % 13) r' [] ns)) in omega (arith, o.once p, sum, mine, none, same))

-- the row of shard q grows, and the seat that steps is the author
pub added_grow : (origin : ℕ) (rows : List (List ℕ)) (views : List View) (i q x : ℕ) (v w : View) → q < 13
    → length rows ≡ 13 → AddedOk origin rows views → get_elem? views i ≡ some v
    → w.rows.added ≡ v.rows.added ++ place_of q (length (row_of rows q)) ∷ []
    → AddedOk origin (set rows q (row_of rows q ++ x ∷ [])) (set views i w)
added_grow origin rows views i q x v w near all o me more = let row = row_of rows q in record {
  once = once_grow origin rows views i q x v w near all o me more;
  many = omega (
    arith,
    o.many,
    total_set_or length rows q (row ++ x ∷ []) [] (omega (arith, all, near)),
    length-append row (x ∷ []),
    total-set (λ u. length u.rows.added) views i v w me,
    ap length more,
    length-append v.rows.added (place_of q (length row) ∷ []),
  );
}

-- what a seat has published is there
pub added_there : (origin : ℕ) (rows : List (List ℕ)) (views : List View) (i p : ℕ) (v : View)
    → AddedOk origin rows views → get_elem? views i ≡ some v → 1 ≤ times p v → p / 13 < length (row_of rows (p % 13))
added_there origin rows views i p v o me has = published_place rows p
    (omega (arith, o.once p, term_le (times p) views i v me, has))
