-- What holds of each element of a list that is made number by number.
use Rattle.std.proofs.Common.{ℕ, zero, suc, ◌<◌, List, [], Bool, true, false, Option, arith}
use Rattle.std.specs.Prelude.{option_to_list}
use Rattle.std.specs.List.{All}
use Rattle.std.proofs.lemmas.List.Elements.{All-nil, All-cons, All-append}
use Rattle.crash_model.specs.Lists.{each_below, some_below, when}

module _ {X : Type 0} (P : X → Type 0) where
  pub all-when : (test : Bool) (x : X) → P x → All P (option_to_list (when test x))
  all-when true x holds = All-cons P x [] holds (All-nil P)
  all-when false x holds = All-nil P

  pub all-some_below : (n : ℕ) (at : ℕ → Option X) → ((k : ℕ) → All P (option_to_list (at k)))
      → All P (some_below n at)
  unfolding some_below
  all-some_below zero at each = All-nil P
  all-some_below (suc n) at each = All-append P (some_below n at) (option_to_list (at n)) (all-some_below n at each)
      (each n)

  pub all-each_below : (n : ℕ) (list : ℕ → List X) → ((k : ℕ) → k < n → All P (list k)) → All P (each_below n list)
  unfolding each_below
  all-each_below zero list each = All-nil P
  all-each_below (suc n) list each = All-append P (each_below n list) (list n)
      (all-each_below n list (λ k less. each k (omega arith))) (each n (omega arith))
