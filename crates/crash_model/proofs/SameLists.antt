-- Lists that are compared element by element.
use Rattle.std.proofs.Common.{◌≡◌, ◌≢◌, ℕ, suc, ◌<◌, List, [], ◌∷◌, ◌++◌, length, drop, get_or, Bool, true, false, ◌&&◌}
use Rattle.std.proofs.Common.{refl, sym, ap, ◌∙◌}
use Rattle.std.specs.Prelude.{bytes_eq}
use Rattle.std.proofs.Math.Seq.{drop-cons}
use Rattle.crash_model.specs.Paths.{are_same_names, is_same_shown, are_same_shown}
use Rattle.crash_model.specs.declared.showing.Shown.{Shown}

pub and_true : (b : Bool) → (b && true) ≡ b
and_true true = refl
and_true false = refl

pub and_false : (b c : Bool) → c ≡ false → (b && c) ≡ false
and_false true c none = none
and_false false c none = refl

-- ---- names

-- lists of unlike lengths differ
pub unlike_names : (xs ys : List (List ℕ)) → length xs ≢ length ys → are_same_names xs ys ≡ false
unlike_names [] [] unlike = absurd (unlike refl)
unlike_names [] (y ∷ ys) unlike = refl
unlike_names (x ∷ xs) [] unlike = refl
unlike_names (x ∷ xs) (y ∷ ys) unlike =
    and_false (bytes_eq x y) (are_same_names xs ys) (unlike_names xs ys (λ e. unlike (ap suc e)))

rest_of : (xs ends : List (List ℕ)) (i : ℕ) (x : List ℕ) → i < length xs → x ≡ get_or xs i x
    → drop i xs ++ ends ≡ x ∷ (drop (suc i) xs ++ ends)
rest_of xs ends i x inside read = ap (λ (ys : List (List ℕ)). ys ++ ends) (drop-cons xs i x inside)
    ∙ ap (λ (y : List ℕ). y ∷ (drop (suc i) xs ++ ends)) (sym read)

-- from one place on: the names at that place, and those after it
pub names_from : (xs ys ends ends' : List (List ℕ)) (i : ℕ) (x y : List ℕ) → i < length xs → i < length ys
    → x ≡ get_or xs i x → y ≡ get_or ys i y
    → are_same_names (drop i xs ++ ends) (drop i ys ++ ends')
    ≡ (bytes_eq x y && are_same_names (drop (suc i) xs ++ ends) (drop (suc i) ys ++ ends'))
names_from xs ys ends ends' i x y one two first second =
    ap (λ (zs : List (List ℕ)). are_same_names zs (drop i ys ++ ends')) (rest_of xs ends i x one first)
    ∙ ap (λ (zs : List (List ℕ)). are_same_names (x ∷ (drop (suc i) xs ++ ends)) zs) (rest_of ys ends' i y two second)

-- ---- what is shown

pub unlike_shown : (xs ys : List Shown) → length xs ≢ length ys → are_same_shown xs ys ≡ false
unlike_shown [] [] unlike = absurd (unlike refl)
unlike_shown [] (y ∷ ys) unlike = refl
unlike_shown (x ∷ xs) [] unlike = refl
unlike_shown (x ∷ xs) (y ∷ ys) unlike =
    and_false (is_same_shown x y) (are_same_shown xs ys) (unlike_shown xs ys (λ e. unlike (ap suc e)))

pub shown_from : (xs ys : List Shown) (i : ℕ) (x y : Shown) → i < length xs → i < length ys
    → x ≡ get_or xs i x → y ≡ get_or ys i y
    → are_same_shown (drop i xs) (drop i ys)
    ≡ (is_same_shown x y && are_same_shown (drop (suc i) xs) (drop (suc i) ys))
shown_from xs ys i x y one two first second =
    ap (λ (zs : List Shown). are_same_shown zs (drop i ys)) (drop-cons xs i x one
    ∙ ap (λ (z : Shown). z ∷ drop (suc i) xs) (sym first))
    ∙ ap (λ (zs : List Shown). are_same_shown (x ∷ drop (suc i) xs) zs) (drop-cons ys i y two
    ∙ ap (λ (z : Shown). z ∷ drop (suc i) ys) (sym second))
