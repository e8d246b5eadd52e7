-- Lists of different words, which grow word by word and are put in order at the end.
use Rattle.std.proofs.Common.{◌≡◌, ◌≢◌, ℕ, List, [], ◌∷◌, ◌++◌, length, arith, length-append, subst}
use Rattle.std.specs.List.{AllPairs, Contains}
use Rattle.std.specs.List.Sorted.{IsPermutation}
use Rattle.std.proofs.lemmas.List.Elements.{All-contains, All-push, Contains-get_or}
use Rattle.std.proofs.lemmas.List.Quantifiers.{all_pairs_push}
use Rattle.std.proofs.lemmas.List.Sorted.{All-permutation, Contains-permutation}
use Rattle.state_space.specs.Counts.{IsSome, IsListOf, Outnumbers}
use Rattle.patch_sets.specs.Sets.{IsBefore, AreAllInOrder}

-- a word more, which the list lacks
pub some_push : (P : ℕ → Type 0) (words : List ℕ) (word : ℕ) → IsSome P words → P word → (Contains words word → ⊥)
    → IsSome P (words ++ word ∷ [])
some_push P words word some holds absent = record {
  distinct = all_pairs_push (λ x y. x ≢ y) words word some.distinct
      (λ k d within same. absent (subst (λ w. Contains words w) same (Contains-get_or words k d within)));
  each = All-push P words word some.each holds;
}

-- a full list and a word more
pub outnumbers_push : (P : ℕ → Type 0) (words : List ℕ) (word limit : ℕ) → IsSome P words → P word
    → (Contains words word → ⊥) → length words ≡ limit → Outnumbers P limit
outnumbers_push P words word limit some holds absent full =
    (words ++ word ∷ [], some_push P words word some holds absent, omega (arith, length-append words (word ∷ [])))

-- a list in order has the words of one that is not
pub all_in_order : (P : ℕ → Type 0) (xs ys : List ℕ) → IsListOf P xs → IsPermutation xs ys → AllPairs IsBefore ys
    → AreAllInOrder P ys
all_in_order P xs ys list moved up = record {
  ordered = up;
  exactly = λ w. (
    λ is. All-contains P ys w (All-permutation P xs ys moved list.each) is,
    λ p. Contains-permutation xs ys w moved (list.every w p),
  );
}
