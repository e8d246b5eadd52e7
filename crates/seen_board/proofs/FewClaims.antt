-- No entry is claimed twice, so there are no more claims than entries.
use Rattle.std.proofs.Common.{◌≡◌, ℕ, ◌+◌, ◌/◌, ◌%◌, ◌<◌, ◌≤◌, List, [], ◌∷◌, ◌++◌, length, get_or, set, cond}
use Rattle.std.proofs.Common.{replicate, eq-eqb, ne_eqb, sym, refl, ap, ◌∙◌, subst, arith, length-set, length-append}
use Rattle.std.proofs.Common.{get_or-set_other}
use Rattle.std.proofs.lemmas.List.{length-replicate}
use mathlib.Core.Logic.{dite}
use native.Mathlib.Decide.{ℕ_discrete}
use Rattle.board_rule.specs.Layout.{place_of}
use Rattle.board_rule.specs.Lists.{row_of, total}
use Rattle.board_rule.specs.Lives.{is_claimed, is_settled}
use Rattle.board_rule.specs.Rule.{times_among}
use Rattle.board_rule.proofs.Bounds.{each_counts}
use Rattle.board_rule.proofs.Lives.{in_range, is_claimed_one, is_claimed_low}
use Rattle.board_rule.proofs.Sums.{rows_cases, total_set_or}

each_life : (n : ℕ) → is_claimed n + is_settled n ≤ 1
each_life n = dite (ℕ_discrete n 1)
    (λ e. let claimed : is_claimed 1 ≡ 1 = refl in let settled : is_settled 1 ≡ 0 = refl in
    subst (λ (m : ℕ). is_claimed m + is_settled m ≤ 1) (sym e) (omega (arith, claimed, settled)))
    (λ ne. omega (arith, each_counts n, ap {B = ℕ} (λ b. cond b 1 0) (ne_eqb n 1 ne)))

row_lives : (row : List ℕ) → total is_claimed row + total is_settled row ≤ length row
row_lives [] = omega arith
row_lives (life ∷ row) = omega (arith, each_life life, row_lives row)

-- a life is claimed or settled, or neither
pub all_lives : (lives : List (List ℕ)) → total (total is_claimed) lives + total (total is_settled) lives
    ≤ total length lives
all_lives [] = omega arith
all_lives (row ∷ lives) = omega (arith, row_lives row, all_lives lives)

among_itself : (p x : ℕ) → p ≡ x → times_among x (p ∷ []) ≡ 1
among_itself p x e = ap {B = ℕ} (λ b. cond b 1 0 + 0) (eq-eqb p x e)

-- each of these places is that of a claimed life, and none is among them twice
abbrev Claims : List ℕ → ℕ → List ℕ → Type 0
Claims places q row = (k : ℕ) → times_among (place_of q k) places ≤ is_claimed (get_or row k 0)

-- so they are no more than the claimed lives
pub claims_few : (places : List ℕ) (lives : List (List ℕ)) → length lives ≡ 13
    → ((q : ℕ) → q < 13 → Claims places q (row_of lives q)) → length places ≤ total (total is_claimed) lives
claims_few [] lives all fits = omega arith
claims_few (p ∷ places) lives all fits =
    let q = p % 13 in
    let k = p / 13 in
    let near : q < 13 = omega arith in
    let row = row_of lives q in
    let here : place_of q k ≡ p = omega arith in
    let one : times_among (place_of q k) (p ∷ []) ≡ 1 = among_itself p (place_of q k) (sym here) in
    let claimed : get_or row k 0 ≡ 1 = is_claimed_one (get_or row k 0) (omega (arith, one, fits q near k)) in
    let inside : k < length row = in_range row k (omega (arith, claimed)) in
    let less = set row k 0 in
    let none : is_claimed 0 ≡ 0 = refl in
    let some : is_claimed (get_or row k 0) ≡ 1 = ap is_claimed claimed in
    let fewer : total is_claimed less + 1 ≡ total is_claimed row =
    omega (arith, total_set_or is_claimed row k 0 0 inside, some, none) in
    let sum : total (total is_claimed) (set lives q less) + 1 ≡ total (total is_claimed) lives =
    omega (arith, total_set_or (total is_claimed) lives q less [] (omega (arith, all, near)), fewer) in
    let rest = claims_few places (set lives q less) (length-set lives q less ∙ all)
    (rows_cases lives q less (Claims places) all near
    (λ j. dite (ℕ_discrete j k)
    (λ e. subst (λ (i : ℕ). times_among (place_of q i) places ≤ is_claimed (get_or less i 0)) (sym e)
    (omega (arith, one, fits q near k, is_claimed_low (get_or row k 0))))
    (λ ne. omega (arith, fits q near j, ap is_claimed (get_or-set_other row k j 0 0 ne))))
    (λ r far other j. omega (arith, fits r far j))) in
    omega (arith, sum, rest)

-- claims that are given up, and one more
pub made_length : (places : List ℕ) (n p : ℕ) → length (places ++ replicate n p) ≡ length places + n
made_length places n p = omega (arith, length-append places (replicate n p), length-replicate n p)
