-- Lists that are cut at a byte.
use Rattle.std.proofs.Common.{◌≡◌, ◌≢◌, ℕ, suc, zero, ◌<◌, ◌≤◌, List, [], ◌∷◌, ◌++◌, length, get_or, take, drop, refl}
use Rattle.std.proofs.Common.{sym, subst, arith}

-- the byte is not in the list
abbrev pub Lacks : ℕ → List ℕ → Type 0
Lacks s [] = Unit {0}
Lacks s (c ∷ cs) = (c ≢ s) × Lacks s cs

-- nothing, or the byte first
abbrev pub Begins : ℕ → List ℕ → Type 0
Begins s [] = Unit {0}
Begins s (c ∷ _) = c ≡ s

-- a list is cut at its first such byte in one way
pub cut_once : (s : ℕ) (xs ys us vs : List ℕ) → Lacks s xs → Lacks s ys → Begins s us → Begins s vs
    → xs ++ us ≡ ys ++ vs → (xs ≡ ys) × (us ≡ vs)
cut_once s [] [] us vs _ _ _ _ e = (refl, e)
cut_once s [] (y ∷ ys) us vs _ lacks begins _ e = absurd (lacks.0 (subst (Begins s) e begins))
cut_once s (x ∷ xs) [] us vs lacks _ _ begins e = absurd (lacks.0 (subst (Begins s) (sym e) begins))
cut_once s (x ∷ xs) (y ∷ ys) us vs lacks others begins ends e =
    let heads : x ≡ y = cc in
    let tails : xs ++ us ≡ ys ++ vs = cc in
    let same = cut_once s xs ys us vs lacks.1 others.1 begins ends tails in
    (cc (heads, same.0), same.1)

pub front_lacks : (s : ℕ) (xs : List ℕ) (n : ℕ) → n ≤ length xs → ((k : ℕ) → k < n → get_or xs k 0 ≢ s)
    → Lacks s (take n xs)
front_lacks s [] zero inside before = tt
front_lacks s (x ∷ xs) zero inside before = tt
front_lacks s [] (suc n) inside before = tt
front_lacks s (x ∷ xs) (suc n) inside before =
    (before 0 (omega arith), front_lacks s xs n (omega arith) (λ k below. before (suc k) (omega arith)))

pub rest_begins : (s : ℕ) (xs : List ℕ) (n : ℕ) → n ≤ length xs → (n < length xs → get_or xs n 0 ≡ s)
    → Begins s (drop n xs)
rest_begins s [] zero inside found = tt
rest_begins s (x ∷ xs) zero inside found = found (omega arith)
rest_begins s [] (suc n) inside found = tt
rest_begins s (x ∷ xs) (suc n) inside found = rest_begins s xs n (omega arith) (λ below. found (omega arith))
