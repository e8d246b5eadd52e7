-- Lists made number by number.
use Rattle.std.proofs.Common.{◌≡◌, ℕ, ◌+◌, List, [], ◌∷◌, ◌++◌, Option, Some, sym, ap, ◌∙◌}
use Rattle.std.specs.Prelude.{option_to_list}
use Rattle.crash_model.specs.Lists.{some_below}
use Rattle.crash_model.proofs.EachBelow.{some_below-step}

module _ {X : Type 0} (at : ℕ → Option X) (n : ℕ) where
  pub more : (before after : List X) (one : Option X) → before ≡ some_below n at → after ≡ before ++ option_to_list one
      → one ≡ at n → after ≡ some_below (n + 1) at
  more before after one so_far added is =
      added ∙ (ap (λ (xs : List X). xs ++ option_to_list one) so_far
      ∙ (ap (λ (o : Option X). some_below n at ++ option_to_list o) is ∙ sym (some_below-step n at)))

  pub one_more : (before after : List X) (x : X) → before ≡ some_below n at → after ≡ before ++ x ∷ [] → at n ≡ Some x
      → after ≡ some_below (n + 1) at
  one_more before after x so_far added is = more before after (Some x) so_far added (sym is)
