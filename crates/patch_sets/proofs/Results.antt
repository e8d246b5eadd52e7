-- What the results of a closure's calls have in common where each call's has it.
use Rattle.std.proofs.Common.{◌≡◌, ℕ, List, [], ◌∷◌, ◌++◌, take, ap, sym, subst, ◌∙◌}
use Rattle.std.proofs.Math.Seq.{take-nil}
use Rattle.std.specs.List.{All, AppendsResults, FoldsTo}
use Rattle.std.proofs.lemmas.List.Elements.{All-nil, All-cons}

module _ {F X : Type 0} (step : F → X → F → Type 0) (P : X → Type 0)
    (each : (f : F) (x : X) (g : F) → step f x g → P x) where
  all_results : (f : F) (xs : List X) (g : F) → FoldsTo step f xs g → All P xs
  all_results f [] g is = All-nil P
  all_results f (x ∷ xs) g is = All-cons P x xs (each f x is.0 is.1) (all_results is.0 xs g is.2)

  -- a list with nothing in it was made so long by them
  pub all_filled : (long : ℕ) (old new : List X) (f : F) → old ≡ [] → AppendsResults step (take long old) new f
      → All P new
  all_filled long old new f none filled =
      let whole = filled.2 ∙ ap (λ before. before ++ filled.0) (ap (take long) none ∙ take-nil long) in
      subst (All P) (sym whole) (all_results f filled.0 filled.1 filled.3)
