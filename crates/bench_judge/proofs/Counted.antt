-- How many words lack a property, one word after another.
use Rattle.std.proofs.Common.{◌≡◌, ℕ, zero, suc, ◌+◌, ◌<◌, List, [], ◌∷◌, length, take, get_or, inl, inr, arith, refl}
use Rattle.bench_judge.specs.Counted.{IsCountOfOthers}

-- what the next word adds to the count
pub counted_more : (P : ℕ → Type 0) (xs : List ℕ) (i n : ℕ) → i < length xs → IsCountOfOthers P (take i xs) n
    → (P (get_or xs i 0) → IsCountOfOthers P (take (i + 1) xs) n)
    × (¬ (P (get_or xs i 0)) → IsCountOfOthers P (take (i + 1) xs) (n + 1))
counted_more P [] i n inside counted = absurd (omega arith)
counted_more P (x ∷ xs) zero n inside counted = (λ good. inl (good, counted), λ bad. inr (bad, n, refl, counted))
counted_more P (x ∷ xs) (suc i) n inside counted =
    let next : suc i + 1 ≡ suc (i + 1) = omega arith in
    rw next (elim counted [
      | inl c ↦ let more = counted_more P xs i n (omega arith) c.1 in
          (λ good. inl (c.0, more.0 good), λ bad. inl (c.0, more.1 bad))
      | inr c ↦ let more = counted_more P xs i c.1 (omega arith) c.3 in
          (λ good. inr (c.0, c.1, c.2, more.0 good), λ bad. inr (c.0, c.1 + 1, omega (arith, c.2), more.1 bad))
    ])
