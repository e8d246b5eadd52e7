-- Texts with something between each two, one after another.
use Rattle.std.proofs.Common.{◌≡◌, ℕ, ◌+◌, ◌<◌, ◌≤◌, List, [], ◌∷◌, ◌++◌, length, get_or, map, take}
use Rattle.std.proofs.Common.{refl, sym, ap, ◌∙◌, arith, append_assoc, length-take}
use Rattle.std.proofs.lemmas.List.{take_more, map-append, length-map}
use Rattle.report.specs.Texts.{joined}
use Rattle.report.specs.Written.{Adds}

module _ (between : List ℕ) where
  push : (x : List ℕ) (xs : List (List ℕ)) (y : List ℕ)
      → joined between (x ∷ xs ++ y ∷ []) ≡ joined between (x ∷ xs) ++ (between ++ y)
  push x [] y = append_assoc x between y
  push x (z ∷ zs) y = ap (λ (t : List ℕ). x ++ between ++ t) (push z zs y)
      ∙ sym (append_assoc (x ++ between) (joined between (z ∷ zs)) (between ++ y))

  -- the first is added alone, and each other one after something between
  first_only : (xs : List (List ℕ)) (y : List ℕ) → length xs ≤ 0
      → joined between (xs ++ y ∷ []) ≡ joined between xs ++ y
  first_only [] y none = refl
  first_only (x ∷ xs) y none = absurd (omega arith)

  after_one : (xs : List (List ℕ)) (y : List ℕ) → 0 < length xs
      → joined between (xs ++ y ∷ []) ≡ joined between xs ++ (between ++ y)
  after_one [] y some = absurd (omega arith)
  after_one (x ∷ xs) y some = push x xs y

  module _ {X : Type 0} (text : X → List ℕ) (xs : List X) (i : ℕ) (x : X) (within : i < length xs)
      (is : x ≡ get_or xs i x) where
    many : length (map text (take i xs)) ≡ i
    many = omega (arith, within, length-map (take i xs) text, length-take i xs)

    one_more : map text (take (i + 1) xs) ≡ map text (take i xs) ++ text x ∷ []
    one_more = ap (map text) (take_more xs i x within) ∙ (map-append text (take i xs) (get_or xs i x ∷ [])
        ∙ ap (λ (y : X). map text (take i xs) ++ text y ∷ []) (sym is))

    pub joined_first : {a b c : List ℕ} → i ≤ 0 → Adds a b (joined between (map text (take i xs)))
        → Adds b c (text x) → Adds a c (joined between (map text (take (i + 1) xs)))
    joined_first {a} none all more = record {
      whole = more.whole
          ∙ (ap (λ (t : List ℕ). t ++ text x) all.whole
          ∙ (append_assoc a (joined between (map text (take i xs))) (text x)
          ∙ ap (λ (t : List ℕ). a ++ t) (sym (ap (joined between) one_more
          ∙ first_only (map text (take i xs)) (text x) (omega (arith, none, many))))));
    }

    pub joined_after : {a b bar c : List ℕ} → 0 < i → Adds a b (joined between (map text (take i xs)))
        → Adds b bar between → Adds bar c (text x)
        → Adds a c (joined between (map text (take (i + 1) xs)))
    joined_after {a} some all barred more = record {
      whole = more.whole
          ∙ (ap (λ (t : List ℕ). t ++ text x)
          (barred.whole ∙ ap (λ (t : List ℕ). t ++ between) all.whole)
          ∙ (regroup a (joined between (map text (take i xs))) between (text x)
          ∙ ap (λ (t : List ℕ). a ++ t) (sym (ap (joined between) one_more
          ∙ after_one (map text (take i xs)) (text x) (omega (arith, some, many))))));
    }
      where
        regroup : (p q r s : List ℕ) → ((p ++ q) ++ r) ++ s ≡ p ++ (q ++ (r ++ s))
        regroup p q r s = simp append_assoc
