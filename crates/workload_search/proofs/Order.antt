-- The order of sequences.
use Rattle.std.proofs.Common.{◌≡◌, ℕ, ◌<◌, List, [], ◌∷◌, ◌++◌, length, cond, arith, refl, sym, ap, ◌∙◌, inl, inr}
use Rattle.std.proofs.Common.{length-append, lt-ltb}
use Rattle.std.specs.Prelude.{◌==◌}
use Rattle.std.specs.Cmp.Lexicographic.{slice_cmp, nat_list_cmp_total}
use Rattle.std.specs.Ordering.{nat_cmp, ordering_then, ordering_reverse}
use Rattle.std.specs.declared.cmp.Ordering.{Ordering}
use Rattle.std.specs.declared.cmp.Ordering.TheVariants.{Less, Equal, Greater}
use Rattle.question_model.specs.Sequences.{IsSequenceBefore}

-- ---- comparing lists with one more element

then_equal : (o : Ordering) → ordering_then o Equal ≡ o
then_equal Less = refl
then_equal Equal = refl
then_equal Greater = refl

then_then : (a b c : Ordering) → ordering_then a (ordering_then b c) ≡ ordering_then (ordering_then a b) c
then_then Less b c = refl
then_then Equal b c = refl
then_then Greater b c = refl

cmp_pushed : (a b : List ℕ) (p q : ℕ) → length a ≡ length b
    → slice_cmp nat_cmp (a ++ p ∷ []) (b ++ q ∷ []) ≡ ordering_then (slice_cmp nat_cmp a b) (nat_cmp p q)
cmp_pushed [] [] p q long = then_equal (nat_cmp p q)
cmp_pushed [] (y ∷ b) p q long = absurd (omega arith)
cmp_pushed (x ∷ a) [] p q long = absurd (omega arith)
cmp_pushed (x ∷ a) (y ∷ b) p q long =
    ap (ordering_then (nat_cmp x y)) (cmp_pushed a b p q (omega arith))
    ∙ then_then (nat_cmp x y) (slice_cmp nat_cmp a b) (nat_cmp p q)

own_reverse : (o : Ordering) → o ≡ ordering_reverse o → o ≡ Equal
own_reverse Less e = cc
own_reverse Equal e = refl
own_reverse Greater e = cc

cmp_same : (a : List ℕ) → slice_cmp nat_cmp a a ≡ Equal
cmp_same a = let total = nat_list_cmp_total in own_reverse (slice_cmp nat_cmp a a) (total.antisymm a a)

cmp_less : (p q : ℕ) → p < q → nat_cmp p q ≡ Less
cmp_less p q less = ap (λ b. cond b Less (cond (p == q) Equal Greater)) (lt-ltb p q less)

-- ---- before

pub before_asymmetric : (a b : List ℕ) → IsSequenceBefore a b → IsSequenceBefore b a → ⊥
before_asymmetric a b (inl shorter) (inl longer) = omega arith
before_asymmetric a b (inl shorter) (inr same) = let long = same.0 in omega arith
before_asymmetric a b (inr same) (inl longer) = let long = same.0 in omega arith
before_asymmetric a b (inr same) (inr other) =
    let total = nat_list_cmp_total in
    let less : Less ≡ Greater = sym same.1 ∙ (total.antisymm a b ∙ ap ordering_reverse other.1) in cc

pub before_irreflexive : (a : List ℕ) → IsSequenceBefore a a → ⊥
before_irreflexive a before = before_asymmetric a a before before

pushed_long : (a b : List ℕ) (p q : ℕ) → length a ≡ length b → length (a ++ p ∷ []) ≡ length (b ++ q ∷ [])
pushed_long a b p q long = omega (arith, length-append a (p ∷ []), length-append b (q ∷ []))

-- of two with as many operations the one that is before stays so
pub before_pushed : (a b : List ℕ) (p q : ℕ) → length a ≡ length b → IsSequenceBefore a b
    → IsSequenceBefore (a ++ p ∷ []) (b ++ q ∷ [])
before_pushed a b p q long (inl shorter) = absurd (omega arith)
before_pushed a b p q long (inr same) = inr (
  pushed_long a b p q long,
  cmp_pushed a b p q long
      ∙ ap (λ o. ordering_then o (nat_cmp p q)) same.1,
)

-- the smaller last operation comes first
pub before_last : (a : List ℕ) (p q : ℕ) → p < q → IsSequenceBefore (a ++ p ∷ []) (a ++ q ∷ [])
before_last a p q less = inr (
  pushed_long a a p q refl,
  cmp_pushed a a p q refl
      ∙ (ap (λ o. ordering_then o (nat_cmp p q)) (cmp_same a) ∙ cmp_less p q less),
)
