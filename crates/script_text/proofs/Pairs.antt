-- Operands: lists of one or two words.
use Rattle.std.proofs.Common.{◌≡◌, ℕ, ◌≤◌, ◌<◌, List, [], ◌∷◌, length, map, get_or, take, drop, ◌+◌, ◌-◌, ap, sym, suc}
use Rattle.std.proofs.Common.{arith}
use Rattle.std.proofs.lemmas.Grind.{common_steps}
use denote.Ref.{Bor}

pub one_word : (words : List (Bor (List ℕ))) (d : Bor (List ℕ)) (a : List ℕ) → 1 ≤ length words → length words < 2
    → (get_or words 0 d).now ≡ a → map (λ word. word.now) words ≡ a ∷ []
one_word [] d a least below is = absurd (omega arith)
one_word (x ∷ []) d a least below is = ap (λ (w : List ℕ). w ∷ []) is
one_word (x ∷ y ∷ ys) d a least below is = absurd (omega arith)

pub two_words : (words : List (Bor (List ℕ))) (d e : Bor (List ℕ)) (a b : List ℕ) → 2 ≤ length words → length words < 3
    → (get_or words 0 d).now ≡ a → (get_or words 1 e).now ≡ b → map (λ word. word.now) words ≡ a ∷ b ∷ []
two_words [] d e a b least below first second = absurd (omega arith)
two_words (x ∷ []) d e a b least below first second = absurd (omega arith)
two_words (x ∷ y ∷ []) d e a b least below first second = cc
two_words (x ∷ y ∷ z ∷ zs) d e a b least below first second = absurd (omega arith)

pub first_and_others : (words : List (Bor (List ℕ))) (d : Bor (List ℕ)) → 1 ≤ length words
    → map (λ word. word.now) words ≡ (get_or words 0 d).now ∷ map (λ word. word.now)
    (take (length words - 1) (drop 1 words))
first_and_others [] d some = absurd (omega arith)
first_and_others (x ∷ xs) d some = ap (λ (ws : List (Bor (List ℕ))). x.now ∷ map (λ word. word.now) ws)
    (sym (whole xs (suc (length xs)) (omega arith)))
  where
    whole : (ws : List (Bor (List ℕ))) (n : ℕ) → n ≡ length ws + 1 → take (n - 1) ws ≡ ws
    whole ws n e = grind (arith, common_steps)
