-- Steps that are sorted into a pool, one by one.
use Rattle.std.proofs.Common.{◌≡◌, ℕ, ◌+◌, ◌<◌, List, [], ◌∷◌, ◌++◌, length, take, drop, get_or, Bool, true, false}
use Rattle.std.proofs.Common.{append-nil, append_assoc, refl, sym, subst, ap, ◌∙◌}
use Rattle.std.specs.Prelude.{All, filter}
use Rattle.std.proofs.lemmas.List.{take_more, take-append-drop}
use Rattle.std.proofs.lemmas.List.Elements.{filter-append, All-append, All-cons, All-nil}
use Rattle.crash_model.specs.declared.steps.Step.{Step}
use Rattle.question_model.specs.Workloads.{IsOfPool}
use Rattle.pool_judging.specs.Pools.{IsNoPool}

module _ (steps : List Step) (i : ℕ) (x : Step) (inside : i < length steps) (read : x ≡ get_or steps i x) where
  with_next : take (i + 1) steps ≡ take i steps ++ x ∷ []
  with_next = take_more steps i x inside ∙ ap (λ (y : Step). take i steps ++ y ∷ []) (sym read)

  -- one more step of a pool
  pub pool_more : All IsOfPool (take i steps) → IsOfPool x → All IsOfPool (take (i + 1) steps)
  pool_more are is = subst (λ (xs : List Step). All IsOfPool xs) (sym with_next)
      (All-append IsOfPool (take i steps) (x ∷ []) are (All-cons IsOfPool x [] is (All-nil IsOfPool)))

  -- the first step that no pool has
  pub no_pool : All IsOfPool (take i steps) → ¬ (IsOfPool x) → IsNoPool steps x.line
  no_pool are other = record {
    front = take i steps;
    step = x;
    rest = drop (i + 1) steps;
    whole = sym (take-append-drop (i + 1) steps) ∙ ap (λ (xs : List Step). xs ++ drop (i + 1) steps) with_next
        ∙ append_assoc (take i steps) (x ∷ []) (drop (i + 1) steps);
    before = are;
    first = other;
    of_it = refl;
  }

  module _ (test : Step → Bool) where
    -- one more step that is kept
    pub kept_more : (before after : List Step) → before ≡ filter test (take i steps) → after ≡ before ++ x ∷ []
        → test x ≡ true → after ≡ filter test (take (i + 1) steps)
    kept_more before after so_far more is = more ∙ (ap (λ (xs : List Step). xs ++ x ∷ []) so_far
        ∙ sym (ap (filter test) with_next ∙ (filter-append test (take i steps) (x ∷ []) ∙ rw is refl)))

    -- and one that is left out
    pub left_out : (so_far : List Step) → so_far ≡ filter test (take i steps) → test x ≡ false
        → so_far ≡ filter test (take (i + 1) steps)
    left_out so_far are other = are ∙ sym (ap (filter test) with_next
        ∙ (filter-append test (take i steps) (x ∷ []) ∙ rw other (append-nil (filter test (take i steps)))))
