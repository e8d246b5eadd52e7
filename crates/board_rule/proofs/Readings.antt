-- The rows and the lives as the words have them.
use Rattle.std.proofs.Common.{◌≡◌, ℕ, zero, suc, ◌+◌, ◌*◌, ◌/◌, ◌%◌, ◌<◌, List, [], ◌∷◌, length, get_or, sym, refl, ap}
use Rattle.std.proofs.Common.{◌∙◌, subst, arith}
use Rattle.board_rule.specs.Layout.{half, length_word, low_word, high_word, life_word}
use Rattle.board_rule.specs.Lists.{row_of, first_values}
use Rattle.board_rule.specs.Readings.{entry_of, rows_of, lives_of}
use Rattle.board_rule.specs.Views.{Fixed}
use Rattle.board_rule.specs.Rule.{RowsOk, LivesOk}
use Rattle.board_rule.specs.declared.view.View.{View}

-- a list is what its places hold
pub listed_is : {A : Type 0} (f : ℕ → A) (l : List A) (d : A) → ((k : ℕ) → k < length l → f k ≡ get_or l k d)
    → first_values f (length l) ≡ l
listed_is f [] d h = refl
listed_is f (x ∷ xs) d h = λ i. h zero (omega arith) i ∷ listed_is (λ k. f (suc k)) xs d
    (λ k b. h (suc k) (omega (arith, b))) i

halves_make : (x low high : ℕ) → low ≡ x % half → high ≡ x / half → low + high * half ≡ x
halves_make x low high a b = omega (arith, a, b)

pub rows_read : (t : Fixed) (rows : List (List ℕ)) (words : List ℕ) → RowsOk t rows words
    → rows_of t.places words ≡ rows
rows_read t rows words o = let f : ℕ → List ℕ = λ q. first_values (entry_of t.places words q)
    (get_or words (length_word q) 0) in
    subst (λ (n : ℕ). first_values f n ≡ rows) o.all (listed_is f rows []
    (λ q b. let near : q < 13 = omega (arith, b, o.all) in
    ap (first_values (entry_of t.places words q)) (o.stored q near)
    ∙ listed_is (entry_of t.places words q) (row_of rows q) 0
    (λ k c. halves_make (get_or (row_of rows q) k 0) (get_or words (low_word q k) 0)
    (get_or words (high_word t.places q k) 0) (o.lows q k near c) (o.highs q k near c))))

pub lives_read : (t : Fixed) (good : ℕ → Type 0) (rows lives : List (List ℕ)) (words : List ℕ) (views : List View)
    → RowsOk t rows words → LivesOk t good rows lives words views → lives_of t.places words ≡ lives
lives_read t good rows lives words views o l = let f : ℕ
    → List ℕ = λ q. first_values (λ k. get_or words (life_word t.places q k) 0) (get_or words (length_word q) 0) in
    subst (λ (n : ℕ). first_values f n ≡ lives) l.all (listed_is f lives []
    (λ q b. let near : q < 13 = omega (arith, b, l.all) in
    ap (λ (n : ℕ). first_values (λ k. get_or words (life_word t.places q k) 0) n)
    (o.stored q near ∙ sym (l.even q near)) ∙ listed_is (λ k. get_or words (life_word t.places q k) 0)
    (row_of lives q) 0 (λ k c. l.shown q k near c)))
