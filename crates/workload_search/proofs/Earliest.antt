-- The first sequence of a list in order is the first of all.
use Rattle.std.proofs.Common.{◌≡◌, ℕ, ◌<◌, List, length, get_or, arith, sym, subst, ap, ◌∙◌, inl, inr}
use Rattle.std.proofs.lemmas.List.{get_or_default}
use Rattle.std.proofs.lemmas.List.Elements.{Contains-get_or}
use Rattle.chosen_rules.proofs.Graphs.{less_or_not}
use Rattle.question_model.specs.Sequences.{IsSequenceBefore, AreAllSequences, IsFirstSequence}
use Rattle.workload_search.proofs.Order.{before_asymmetric, before_irreflexive}
use Rattle.workload_search.specs.Asked.{IsFirstAt}

module _ (Q P : List ℕ → Type 0) (sequences : List (List ℕ)) (all : AreAllSequences Q sequences) (i : ℕ)
    (is : IsFirstAt P sequences i) (d : List ℕ) where
  abbrev places : List ℕ
  places = get_or sequences i d

  none_earlier : (other : List ℕ) → P other → (k : ℕ) → k < length sequences → get_or sequences k other ≡ other
      → ¬ (IsSequenceBefore other places)
  none_earlier other holds k within at before = elim (less_or_not k i) [
    | inl less ↦ is.none_before k other less (subst P (sym at) holds)
    | inr past ↦ elim (less_or_not i k) [
      | inl behind ↦
          let same : get_or sequences k d ≡ other = get_or_default sequences k d other within ∙ at in
          before_asymmetric places other
          (subst (IsSequenceBefore places) same (all.ordered i k d behind within)) before
      | inr ahead ↦
          let even : i ≡ k = omega (arith, past, ahead) in
          let same : places ≡ other =
          ap (λ (n : ℕ). get_or sequences n d) even ∙ (get_or_default sequences k d other within ∙ at) in
          before_irreflexive places (subst (λ (o : List ℕ). IsSequenceBefore o places) (sym same) before)
    ]
  ]

  pub first_of_all : IsFirstSequence (λ (o : List ℕ). Q o × P o) places
  first_of_all = record {
    among = ((all.exactly places).0 (Contains-get_or sequences i d is.within), is.here d);
    first = λ other both before.
        let there = (all.exactly other).1 both.0 in
        none_earlier other both.1 there.0 there.1 there.2 before;
  }
