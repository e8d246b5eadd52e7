-- Bounds on the sums, and how many words the rows show to be reached.
use Rattle.std.proofs.Common.{◌≡◌, ◌≢◌, ℕ, zero, suc, ◌+◌, ◌-◌, ◌*◌, ◌%◌, ◌<◌, ◌≤◌, Bool, true, false, List, [], ◌∷◌}
use Rattle.std.proofs.Common.{◌++◌, length, get_or, cond, eq-eqb, sym, refl, ap, ◌∙◌, subst, arith, length-append, ltb}
use Rattle.std.proofs.Common.{suc-mul}
use Rattle.std.proofs.lemmas.List.{get_or_default, get_or_append_left, get_or-append-add}
use Rattle.std.proofs.lemmas.List.Elements.{All-from_get_or, Contains-append_left, Contains-append_right}
use Rattle.std.proofs.lemmas.List.Elements.{Contains-get_or}
use Rattle.std.specs.List.{Contains, concat}
use mathlib.Core.Logic.{dite}
use native.Mathlib.Decide.{ℕ_discrete, dec_le}
use mathlib.Core.Option.{some}
use lib.ListN.{get_elem?}
use Rattle.state_space.specs.Reach.{IsReached}
use Rattle.state_space.specs.Counts.{IsSome, Outnumbers}
use Rattle.board_rule.specs.Layout.{writer}
use Rattle.board_rule.specs.Lists.{row_of, total}
use Rattle.board_rule.specs.Lives.{is_unsettled, is_settled}
use Rattle.board_rule.specs.Views.{Fixed}
use Rattle.board_rule.specs.Rule.{weight, LocksOk, RowsOk}
use Rattle.board_rule.specs.declared.view.View.{View}
use Rattle.board_rule.proofs.Sums.{snoc_cases}
use Rattle.board_rule.proofs.Locks.{weight_else}

one_of : (b : Bool) → cond b 1 0 + cond b 0 1 ≡ 1
one_of b = elim b as (λ x. cond x 1 0 + cond x 0 1 ≡ 1) [ true ↦ refl | false ↦ refl ]

pub each_counts : (n : ℕ) → is_unsettled n + is_settled n ≡ 1
each_counts n = one_of (ltb n 2)

row_counts : (l : List ℕ) → total is_unsettled l + total is_settled l ≡ length l
row_counts [] = refl
row_counts (x ∷ xs) = omega (arith, row_counts xs, each_counts x)

pub all_counts : (lives : List (List ℕ)) → total (total is_unsettled) lives + total (total is_settled) lives
    ≡ total length lives
all_counts [] = refl
all_counts (l ∷ lives) = omega (arith, all_counts lives, row_counts l)

total_add : {A : Type 0} (f g : A → ℕ) (l : List A) → total (λ x. f x + g x) l ≡ total f l + total g l
total_add f g [] = refl
total_add f g (x ∷ xs) = omega (arith, total_add f g xs)

abbrev below : (ℕ → ℕ) → ℕ → ℕ
below f zero = 0
below f (suc n) = below f n + f n

total_zero : {A : Type 0} (l : List A) → total (λ _. 0) l ≡ 0
total_zero [] = refl
total_zero (x ∷ xs) = omega (arith, total_zero xs)

swap_sums : (views : List View) (n : ℕ) → total (λ v. below (λ q. weight q v) n) views
    ≡ below (λ q. total (weight q) views) n
swap_sums views zero = total_zero views
swap_sums views (suc n) = omega (arith, total_add (λ v. below (λ q. weight q v) n) (weight n) views, swap_sums views n)

below_held : (v : View) (n : ℕ) → (v.rows.held < n → below (λ q. weight q v) n ≡ v.rows.right)
    × (n ≤ v.rows.held → below (λ q. weight q v) n ≡ 0)
below_held v zero = ((λ h. absurd (omega (arith, h))), λ _. refl)
below_held v (suc n) = let t = below_held v n in dite (ℕ_discrete v.rows.held n)
    (λ e. (
      (λ _. let z = t.1 (omega (arith, e)) in let w : weight n v ≡ v.rows.right =
          ap (λ b. cond b v.rows.right 0) (eq-eqb v.rows.held n e) in omega (arith, z, w)),
      λ h. absurd (omega (arith, h, e)),
    ))
    (λ ne. let w = weight_else n v ne in (
      (λ h. omega (arith, t.0 (omega (arith, h, ne)), w)),
      λ h. omega (arith, t.1 (omega (arith, h)), w),
    ))

below_bound : (f : ℕ → ℕ) (n : ℕ) → ((q : ℕ) → q < n → f q ≤ writer) → below f n ≤ n * writer
below_bound f zero h = omega arith
below_bound f (suc n) h = omega (arith, below_bound f n (λ q b. h q (omega (arith, b))), h n (omega arith))

rights : (views : List View) → ((j : ℕ) (v : View) → get_elem? views j ≡ some v → (v.rows.held < 13)
    × (v.pending.announced * writer ≤ v.rows.right)) → total (λ v. v.pending.announced) views * writer
    ≤ total (λ v. below (λ q. weight q v) 13) views
rights [] h = omega arith
rights (v ∷ views) h = let t = h zero v refl in omega (
  arith,
  t.1,
  (below_held v 13).0 t.0,
  rights views (λ j u e. h (suc j) u e),
)

-- at most one addition a shard is on its way
pub adds_few : (words : List ℕ) (views : List View) → LocksOk words views
    → ((j : ℕ) (v : View) → get_elem? views j ≡ some v → (v.rows.held < 13)
    × (v.pending.announced * writer ≤ v.rows.right)) → total (λ v. v.pending.announced) views ≤ 13
adds_few words views l h = omega (
  arith,
  rights views h,
  swap_sums views 13,
  below_bound (λ q. total (weight q) views) 13 (λ q b. omega (arith, (l q b).0, (l q b).1)),
)

pub total_bound : (rows : List (List ℕ)) (b : ℕ) → ((q : ℕ) → q < length rows → length (row_of rows q) ≤ b)
    → total length rows ≤ length rows * b
total_bound [] b h = omega arith
total_bound (r ∷ rows) b h = omega (
  arith,
  h zero (omega arith),
  total_bound rows b (λ q c. h (suc q) (omega (arith, c))),
  suc-mul (length rows) b,
)

append_cases : (xs ys : List ℕ) (G : ℕ → ℕ → Type 0) → ((k : ℕ) → k < length xs → G k (get_or xs k 0))
    → ((k : ℕ) → k < length ys → G (length xs + k) (get_or ys k 0)) → (k : ℕ) → k < length (xs ++ ys)
    → G k (get_or (xs ++ ys) k 0)
append_cases xs ys G left right k h = dite (dec_le (suc k) (length xs))
    (λ b. subst (G k) (sym (get_or_append_left xs ys 0 k b)) (left k b))
    (λ n. let d : ℕ = k - length xs in let e : length xs + d ≡ k = omega (arith, n) in
    subst (λ (y : ℕ). G y (get_or (xs ++ ys) y 0)) e
    (subst (G (length xs + d)) (sym (get_or-append-add xs ys d 0))
    (right d (omega (arith, h, n, length-append xs ys)))))

flat_length : (rows : List (List ℕ)) → length (concat rows) ≡ total length rows
flat_length [] = refl
flat_length (r ∷ rows) = omega (arith, length-append r (concat rows), flat_length rows)

flat_each : (P : ℕ → Type 0) (rows : List (List ℕ)) → ((q k : ℕ) → q < length rows → k < length (row_of rows q)
    → P (get_or (row_of rows q) k 0)) → (j : ℕ) → j < length (concat rows) → P (get_or (concat rows) j 0)
flat_each P [] h = λ j b. absurd (omega (arith, b))
flat_each P (r ∷ rows) h = append_cases r (concat rows) (λ k x. P x) (λ k b. h zero k (omega arith) b)
    (flat_each P rows (λ q k b c. h (suc q) k (omega (arith, b)) c))

abbrev Distinct : List ℕ → Type 0
Distinct xs = (j k : ℕ) → j < length xs → k < length xs → get_or xs j 0 ≡ get_or xs k 0 → j ≡ k

flat_apart : (b : ℕ) (rows : List (List ℕ)) → ((q : ℕ) → q < length rows → Distinct (row_of rows q))
    → ((q k : ℕ) → q < length rows → k < length (row_of rows q) → get_or (row_of rows q) k 0 % 13 ≡ b + q)
    → Distinct (concat rows)
flat_apart b [] d h j k bj bk = absurd (omega (arith, bj))
flat_apart b (r ∷ rows) d h j k bj bk =
    let later : (i : ℕ) → i < length (concat rows) → b < get_or (concat rows) i 0 % 13 =
    flat_each (λ x. b < x % 13) rows (λ q i c e. omega (arith, h (suc q) i (omega (arith, c)) e)) in
    let rest = flat_apart (b + 1) rows (λ q c. d (suc q) (omega (arith, c)))
    (λ q i c e. omega (arith, h (suc q) i (omega (arith, c)) e)) in
    append_cases r (concat rows) (λ j y. y ≡ get_or (r ++ concat rows) k 0 → j ≡ k)
    (λ j c. append_cases r (concat rows) (λ k z. get_or r j 0 ≡ z → j ≡ k)
    (λ k e same. d zero (omega arith) j k c e same) (λ k e same.
    absurd (omega (arith, h zero j (omega arith) c, later k e, ap (λ (x : ℕ). x % 13) same))) k bk)
    (λ j c. append_cases r (concat rows) (λ k z. get_or (concat rows) j 0 ≡ z → length r + j ≡ k)
    (λ k e same. absurd (omega (arith, h zero k (omega arith) e, later j c, ap (λ (x : ℕ). x % 13) same)))
    (λ k e same. ap (λ (x : ℕ). length r + x) (rest j k c e same)) k bk)
    j bj

-- distinct words with P
some_words : (P : ℕ → Type 0) (xs : List ℕ) → Distinct xs → ((k : ℕ) → k < length xs → P (get_or xs k 0)) → IsSome P xs
some_words P xs apart each = record {
  distinct = λ i j d below inside same. omega (
    arith,
    below,
    apart i j (omega (arith, below, inside)) inside (get_or_default xs i 0 d (omega (arith, below, inside)) ∙ same
        ∙ get_or_default xs j d 0 inside),
  );
  each = All-from_get_or P xs 0 each;
}

-- the entries of all shards
pub flat_entries : (t : Fixed) (rows : List (List ℕ)) (words : List ℕ) → RowsOk t rows words
    → IsSome (IsReached t.next t.origin) (concat rows)
flat_entries t rows words o = some_words (IsReached t.next t.origin) (concat rows)
    (flat_apart 0 rows (λ q b j k. o.distinct q j k (omega (arith, b, o.all)))
    (λ q k b c. o.at_home q k (omega (arith, b, o.all)) c ∙ (let z : q ≡ 0 + q = omega arith in z)))
    (flat_each (IsReached t.next t.origin) rows (λ q k b c. o.reached q k (omega (arith, b, o.all)) c))

pub flat_has : (rows : List (List ℕ)) (q j x : ℕ) → q < length rows → j < length (row_of rows q)
    → get_or (row_of rows q) j 0 ≡ x → Contains (concat rows) x
flat_has [] q j x h b e = absurd (omega (arith, h))
flat_has (r ∷ rows) zero j x h b e = Contains-append_left r (concat rows) x
    (subst (Contains r) e (Contains-get_or r j 0 b))
flat_has (r ∷ rows) (suc q) j x h b e = Contains-append_right r (concat rows) x
    (flat_has rows q j x (omega (arith, h)) b e)

pub more_entries : (t : Fixed) (rows : List (List ℕ)) (words : List ℕ) → RowsOk t rows words
    → t.limit < total length rows → Outnumbers (IsReached t.next t.origin) t.limit
more_entries t rows words o h = (concat rows, flat_entries t rows words o, omega (arith, h, flat_length rows))

-- a full row and a reached word that it lacks
pub full_row : (t : Fixed) (rows : List (List ℕ)) (words : List ℕ) (q x : ℕ) → RowsOk t rows words → q < 13
    → t.places ≤ length (row_of rows q) → IsReached t.next t.origin x → x % 13 ≡ q
    → ((k : ℕ) → k < length (row_of rows q) → get_or (row_of rows q) k 0 ≢ x)
    → Outnumbers (λ word. IsReached t.next t.origin word × (word % 13 ≡ q)) t.places
full_row t rows words q x o near full right home absent = let row = row_of rows q in let P : ℕ
    → Type 0 = λ word. IsReached t.next t.origin word × (word % 13 ≡ q) in (
      row ++ x ∷ [],
      some_words P (row ++ x ∷ [])
          (λ j k bj bk. snoc_cases row x (λ j y. y ≡ get_or (row ++ x ∷ []) k 0 → j ≡ k)
          (λ j b. snoc_cases row x (λ k z. get_or row j 0 ≡ z → j ≡ k) (λ k c e. o.distinct q j k near b c e)
          (λ e. absurd (absent j b e)) k bk)
          (snoc_cases row x (λ k z. x ≡ z → length row ≡ k) (λ k c e. absurd (absent k c (sym e))) (λ e. refl) k bk) j
          bj)
          (snoc_cases row x (λ k y. P y) (λ k b. (o.reached q k near b, o.at_home q k near b)) (right, home)),
      omega (arith, full, length-append row (x ∷ [])),
    )
