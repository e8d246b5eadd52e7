-- Blocks of a list, gathered one by one.
use Rattle.std.proofs.Common.{◌≡◌, ℕ, ◌+◌, ◌<◌, ◌⊎◌, inl, inr, List, length, get_or, set, arith, refl, sym, ◌∙◌, ap}
use Rattle.std.proofs.lemmas.Bool.{cases_eq}
use Rattle.std.proofs.lemmas.List.{get_or-set_same, get_or-set_other, length-set}
use Rattle.known_bytes.specs.Headers.{IsAmong}

pub among_more : (xs : List ℕ) (n b : ℕ) → IsAmong xs n b → IsAmong xs (n + 1) b
among_more xs n b is = (is.0, omega (arith, is.1), is.2)

pub among_cases : (xs : List ℕ) (n b : ℕ) → IsAmong xs (n + 1) b → IsAmong xs n b ⊎ (get_or xs n 0 ≡ b)
among_cases xs n b is = elim (cases_eq is.0 n) [
  | inl same ↦ inr (ap (λ (k : ℕ). get_or xs k 0) (sym same) ∙ is.2)
  | inr other ↦ inl (is.0, omega (arith, is.1), is.2)
]

-- the first n blocks have a value in a table, and others have theirs
pub record IsAsked (xs : List ℕ) (n id : ℕ) (start asks : List ℕ) : Type 0 where
  pub long : length asks ≡ length start
  pub new : (b : ℕ) → IsAmong xs n b → get_or asks b 0 ≡ id
  pub others : (b : ℕ) → IsAmong xs n b ⊎ (get_or asks b 0 ≡ get_or start b 0)

pub asked_none : (xs : List ℕ) (id : ℕ) (start : List ℕ) → IsAsked xs 0 id start start
asked_none xs id start = record {
  long = refl;
  new = λ b is. let low = is.1 in absurd (omega (arith, low));
  others = λ b. inr refl;
}

pub asked_more : (xs : List ℕ) (n id x : ℕ) (start asks : List ℕ) → x ≡ get_or xs n 0 → x < length asks
    → IsAsked xs n id start asks → IsAsked xs (n + 1) id start (set asks x id)
asked_more xs n id x start asks here inside old = record {
  long = length-set asks x id ∙ old.long;
  new = λ b is. elim (cases_eq b x) [
    | inl same ↦ ap (λ (k : ℕ). get_or (set asks x id) k 0) same ∙ get_or-set_same asks x id 0 inside
    | inr other ↦ get_or-set_other asks x b id 0 other ∙ elim (among_cases xs n b is) [
      | inl before ↦ old.new b before
      | inr last ↦ absurd (other (sym last ∙ sym here))
    ]
  ];
  others = λ b. elim (cases_eq b x) [
    | inl same ↦ inl (n, omega arith, sym here ∙ sym same)
    | inr other ↦ elim (old.others b) [
      | inl before ↦ inl (among_more xs n b before)
      | inr kept ↦ inr (get_or-set_other asks x b id 0 other ∙ kept)
    ]
  ];
}
