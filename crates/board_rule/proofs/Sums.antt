-- Sums over the views, where one of them changes, and rows where one of them grows.
use Rattle.std.proofs.Common.{◌≡◌, ℕ, zero, suc, ◌+◌, ◌<◌, ◌≤◌, ◌≢◌, List, [], ◌∷◌, ◌++◌, length, set, get_or, take}
use Rattle.std.proofs.Common.{cond, eqb, eq-eqb, sym, refl, ap, ◌∙◌, subst, arith, ⊎_elim, append_assoc, length-append}
use Rattle.std.proofs.Common.{get_or-set_same, get_or-set_other}
use Rattle.std.specs.List.{Contains}
use mathlib.Core.Logic.{dite}
use native.Mathlib.Decide.{ℕ_discrete, dec_le}
use Rattle.std.proofs.lemmas.List.{get_or_append_left}
use mathlib.Core.Option.{some, some-injective, some-ne-none}
use lib.ListN.{get_elem?}
use Rattle.board_rule.specs.Lists.{total, StartsWith, row_of}
use Rattle.board_rule.specs.Rule.{EachSeat, times_among}
use Rattle.board_rule.specs.declared.view.View.{View}
use Rattle.atomic_table.proofs.Lists.{at_set}

module _ {A : Type 0} (g : A → ℕ) where
  pub total-append : (l m : List A) → total g (l ++ m) ≡ total g l + total g m
  total-append [] m = omega arith
  total-append (x ∷ xs) m = omega (arith, total-append xs m)

  pub total-set : (l : List A) (j : ℕ) (v w : A) → get_elem? l j ≡ some v → total g (set l j w) + g v ≡ total g l + g w
  total-set [] j v w e = absurd (some-ne-none v (sym e))
  total-set (x ∷ xs) zero v w e = omega (arith, ap g (some-injective x v e))
  total-set (x ∷ xs) (suc j) v w e = omega (arith, total-set xs j v w e)

  pub term_le : (l : List A) (j : ℕ) (v : A) → get_elem? l j ≡ some v → g v ≤ total g l
  term_le [] j v e = absurd (some-ne-none v (sym e))
  term_le (x ∷ xs) zero v e = omega (arith, ap g (some-injective x v e))
  term_le (x ∷ xs) (suc j) v e = omega (arith, term_le xs j v e)

  pub terms_le : (l : List A) (j k : ℕ) (v u : A) → k ≢ j → get_elem? l j ≡ some v → get_elem? l k ≡ some u
      → g v + g u ≤ total g l
  terms_le [] j k v u n e d = absurd (some-ne-none v (sym e))
  terms_le (x ∷ xs) zero zero v u n e d = absurd (n refl)
  terms_le (x ∷ xs) zero (suc k) v u n e d = omega (arith, ap g (some-injective x v e), term_le xs k u d)
  terms_le (x ∷ xs) (suc j) zero v u n e d = omega (arith, ap g (some-injective x u d), term_le xs j v e)
  terms_le (x ∷ xs) (suc j) (suc k) v u n e d = omega (arith, terms_le xs j k v u (λ h. n (ap suc h)) e d)

pub starts-refl : (xs : List ℕ) → StartsWith xs xs
starts-refl [] = ([], refl)
starts-refl (x ∷ xs) = let t = starts-refl xs in (t.0, ap (λ (l : List ℕ). x ∷ l) t.1)

pub starts-trans : (xs ys zs : List ℕ) → StartsWith zs ys → StartsWith ys xs → StartsWith zs xs
starts-trans xs ys zs a b = (b.0 ++ a.0, a.1 ∙ ap (λ (l : List ℕ). l ++ a.0) b.1 ∙ append_assoc xs b.0 a.0)

pub starts-more : (xs ys zs : List ℕ) → StartsWith ys xs → StartsWith (ys ++ zs) xs
starts-more xs ys zs a = starts-trans xs ys (ys ++ zs) (zs, refl) a

pub starts-length : (row seen : List ℕ) → StartsWith row seen → length seen ≤ length row
starts-length row seen a = omega (arith, ap length a.1 ∙ length-append seen a.0)

pub starts-at : (row seen : List ℕ) (k : ℕ) → StartsWith row seen → k < length seen → get_or row k 0 ≡ get_or seen k 0
starts-at row seen k a h = ap (λ (l : List ℕ). get_or l k 0) a.1 ∙ get_or_append_left seen a.0 0 k h

pub last-here : (row : List ℕ) (x : ℕ) → get_or (row ++ x ∷ []) (length row) 0 ≡ x
last-here [] x = refl
last-here (y ∷ row) x = last-here row x

-- a fact of each element, after one more
pub snoc_cases : (row : List ℕ) (x : ℕ) (G : ℕ → ℕ → Type 0) → ((k : ℕ) → k < length row → G k (get_or row k 0))
    → G (length row) x → (k : ℕ) → k < length (row ++ x ∷ []) → G k (get_or (row ++ x ∷ []) k 0)
snoc_cases row x G before last k h = dite (dec_le (suc k) (length row))
    (λ b. subst (G k) (sym (get_or_append_left row (x ∷ []) 0 k b)) (before k b))
    (λ n. let e : length row ≡ k = omega (arith, n, h, length-append row (x ∷ [])) in
    subst (λ (j : ℕ). G j (get_or (row ++ x ∷ []) j 0)) e (subst (G (length row)) (sym (last-here row x)) last))

-- a fact of each row, after a change of one
pub rows_cases : (rows : List (List ℕ)) (q : ℕ) (new : List ℕ) (F : ℕ → List ℕ → Type 0) → length rows ≡ 13 → q < 13
    → F q new → ((p : ℕ) → p < 13 → p ≢ q → F p (row_of rows p)) → (p : ℕ) → p < 13 → F p (row_of (set rows q new) p)
rows_cases rows q new F all near here others p h = dite (ℕ_discrete p q)
    (λ e. subst (λ (y : ℕ). F y (row_of (set rows q new) y)) (sym e)
    (subst (F q) (sym (get_or-set_same rows q new [] (omega (arith, all)))) here))
    (λ ne. subst (F p) (sym (get_or-set_other rows q p new [] ne)) (others p h ne))

-- a last 0 is read as nothing is
pub snoc_zero : (l : List ℕ) (j : ℕ) → get_or (l ++ 0 ∷ []) j 0 ≡ get_or l j 0
snoc_zero [] zero = refl
snoc_zero [] (suc j) = refl
snoc_zero (x ∷ l) zero = refl
snoc_zero (x ∷ l) (suc j) = snoc_zero l j

-- the sum, where one element changes
pub total_set_or : {A : Type 0} (g : A → ℕ) (l : List A) (k : ℕ) (n d : A) → k < length l
    → total g (set l k n) + g (get_or l k d) ≡ total g l + g n
total_set_or g [] k n d h = absurd (omega arith)
total_set_or g (x ∷ xs) zero n d h = omega arith
total_set_or g (x ∷ xs) (suc k) n d h = omega (arith, total_set_or g xs k n d (omega arith))

pub total_term : {A : Type 0} (g : A → ℕ) (l : List A) (k : ℕ) (d : A) → k < length l → g (get_or l k d) ≤ total g l
total_term g [] k d h = absurd (omega (arith, h))
total_term g (x ∷ xs) zero d h = omega arith
total_term g (x ∷ xs) (suc k) d h = omega (arith, total_term g xs k d (omega (arith, h)))

-- a place that is among these is counted
pub among_at : (places : List ℕ) (k d : ℕ) → k < length places → 1 ≤ times_among (get_or places k d) places
among_at places k d h = let p = get_or places k d in let one : cond (eqb p p) 1 0 ≡ 1 =
    ap {B = ℕ} (λ b. cond b 1 0) (eq-eqb p p refl) in omega
    (arith, one, total_term (λ x. cond (eqb x p) 1 0) places k d h)

pub among : (p : ℕ) (places : List ℕ) → Contains places p → 1 ≤ times_among p places
among p places has = subst (λ (x : ℕ). 1 ≤ times_among x places) has.2 (among_at places has.0 p has.1)

-- a fact of each seat, after the step of one
pub seats_turn : (F : View → Type 0) (views : List View) (i : ℕ) (w : View) → F w
    → ((j : ℕ) (u : View) → j ≢ i → get_elem? views j ≡ some u → F u) → EachSeat F (set views i w)
seats_turn F views i w here others j u e = ⊎_elim (λ t. subst F t.1 here) (λ t. others j u t.0 t.1)
    (at_set views i j w u e)

-- the first n words of a row
pub take_beginning : (n : ℕ) (row : List ℕ) → StartsWith row (take n row)
take_beginning zero row = (row, refl)
take_beginning (suc n) [] = ([], refl)
take_beginning (suc n) (x ∷ row) = let t = take_beginning n row in (t.0, ap (λ (l : List ℕ). x ∷ l) t.1)

take_goes_on : (seen rest : List ℕ) (n : ℕ) → length seen ≤ n → StartsWith (take n (seen ++ rest)) seen
take_goes_on [] rest n h = (take n rest, refl)
take_goes_on (x ∷ seen) rest zero h = absurd (omega (arith, h))
take_goes_on (x ∷ seen) rest (suc n) h = let t = take_goes_on seen rest n (omega (arith, h)) in
    (t.0, ap (λ (l : List ℕ). x ∷ l) t.1)

-- at least those that were seen begin with them
pub take_starts : (row seen : List ℕ) (n : ℕ) → StartsWith row seen → length seen ≤ n → StartsWith (take n row) seen
take_starts row seen n s h = subst (λ (l : List ℕ). StartsWith (take n l) seen) (sym s.1) (take_goes_on seen s.0 n h)

pub take_length : (row : List ℕ) (n : ℕ) → n ≤ length row → length (take n row) ≡ n
take_length row zero h = refl
take_length [] (suc n) h = absurd (omega (arith, h))
take_length (x ∷ row) (suc n) h = ap suc (take_length row n (omega (arith, h)))

pub take_whole : (row : List ℕ) (n : ℕ) → length row ≤ n → take n row ≡ row
take_whole [] zero h = refl
take_whole [] (suc n) h = refl
take_whole (x ∷ row) zero h = absurd (omega (arith, h))
take_whole (x ∷ row) (suc n) h = ap (λ (l : List ℕ). x ∷ l) (take_whole row n (omega (arith, h)))
