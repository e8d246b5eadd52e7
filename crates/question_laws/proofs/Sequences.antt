-- Sequences of places in order: one of two comes first, and there is one list, one number and one first of a kind.
use Rattle.std.proofs.Common.{◌≡◌, ℕ, ◌<◌, ◌≤◌, List, [], ◌∷◌, length, arith, refl, sym, subst, ap, ◌∙◌}
use Rattle.std.proofs.Common.{inl, inr}
use Rattle.std.specs.Prelude.{◌⊎◌}
use Rattle.std.specs.List.{Contains}
use Rattle.std.specs.Ordering.{nat_cmp, is_eq, ordering_reverse}
use Rattle.std.specs.Cmp.Lexicographic.{slice_cmp, bytes_decides, texts_ties, nat_list_cmp_total}
use Rattle.std.specs.declared.cmp.Ordering.{Ordering}
use Rattle.std.specs.declared.cmp.Ordering.TheVariants.{Less, Equal, Greater}
use Rattle.state_space.proofs.Counting.{Order, below, same, above, order_of}
use Rattle.patch_sets.proofs.Lists.{in_front}
use Rattle.question_model.specs.Sequences.{IsSequenceBefore, AreAllSequences, CountsSequences, IsFirstSequence}
use Rattle.question_laws.proofs.Orders.{ascends, one_order}

less_or_greater : Less ≡ Greater → ⊥
less_or_greater e = cc

less_both : (a b : List ℕ) → slice_cmp nat_cmp a b ≡ Less → slice_cmp nat_cmp b a ≡ Less → ⊥
less_both a b before after =
    less_or_greater (sym before ∙ (nat_list_cmp_total.antisymm a b ∙ ap ordering_reverse after))

shorter_both : (n m : ℕ) → n < m → m < n → ⊥
shorter_both n m less more = omega arith

shorter_or_same : (n m : ℕ) → n < m → m ≡ n → ⊥
shorter_or_same n m less e = omega arith

pub sequence_not_both : (a b : List ℕ) → IsSequenceBefore a b → IsSequenceBefore b a → ⊥
sequence_not_both a b (inl less) (inl more) = shorter_both (length a) (length b) less more
sequence_not_both a b (inl less) (inr more) = shorter_or_same (length a) (length b) less more.0
sequence_not_both a b (inr less) (inl more) = shorter_or_same (length b) (length a) more less.0
sequence_not_both a b (inr less) (inr more) = less_both a b less.1 more.1

pub sequence_order : (a b : List ℕ) → IsSequenceBefore a b ⊎ ((a ≡ b) ⊎ IsSequenceBefore b a)
sequence_order a b = by_length (order_of (length a) (length b)) (slice_cmp nat_cmp a b) refl
  where
    by_length : Order (length a) (length b) → (r : Ordering) → slice_cmp nat_cmp a b ≡ r
        → IsSequenceBefore a b ⊎ ((a ≡ b) ⊎ IsSequenceBefore b a)
    by_length (below less) r e = inl (inl less)
    by_length (above more) r e = inr (inr (inl more))
    by_length (same alike) Less e = inl (inr (alike, e))
    by_length (same alike) Equal e = inr (inl ((bytes_decides a b).0 (texts_ties a b ∙ ap is_eq e)))
    by_length (same alike) Greater e = inr (inr (inr (
      sym alike,
      nat_list_cmp_total.antisymm b a
          ∙ ap ordering_reverse e,
    )))

module _ (P : List ℕ → Type 0) where
  pub sequences_one : (sequences others : List (List ℕ)) → AreAllSequences P sequences → AreAllSequences P others
      → sequences ≡ others
  sequences_one sequences others are also =
      one_order IsSequenceBefore sequence_not_both sequences others (ascends IsSequenceBefore sequences are.ordered)
      (ascends IsSequenceBefore others also.ordered) (λ z is. (also.exactly z).1 ((are.exactly z).0 is))
      (λ z is. (are.exactly z).1 ((also.exactly z).0 is))

  pub count_one : (n m : ℕ) → CountsSequences P n → CountsSequences P m → n ≡ m
  count_one n m counts also =
      counts.2 ∙ (ap (λ (some : List (List ℕ)). length some) (sequences_one counts.0 also.0 counts.1 also.1)
      ∙ sym also.2)

  -- where there is one, there is a sequence
  pub counted_some : (n : ℕ) → CountsSequences P n → 1 ≤ n → (places : List ℕ) × P places
  counted_some n counts some = by counts.0 (λ z is. (counts.1.exactly z).0 is) (subst (λ (k : ℕ). 1 ≤ k) counts.2 some)
    where
      by : (sequences : List (List ℕ)) → ((z : List ℕ) → Contains sequences z → P z) → 1 ≤ length sequences
          → (places : List ℕ) × P places
      by [] each long = absurd (omega arith)
      by (x ∷ xs) each long = (x, each x (in_front x xs))

  pub first_sequence_one : (a b : List ℕ) → IsFirstSequence P a → IsFirstSequence P b → a ≡ b
  first_sequence_one a b is also = elim (sequence_order a b) [
    | inl before ↦ absurd (also.first a is.among before)
    | inr (inl e) ↦ e
    | inr (inr after) ↦ absurd (is.first b also.among after)
  ]
