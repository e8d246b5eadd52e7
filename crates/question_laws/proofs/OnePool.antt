-- There is at most one answer to a search: a refusal, or one report.
use Rattle.std.proofs.Common.{◌≡◌, ℕ, List, [], ◌∷◌, ◌++◌, All, sym, subst, ap}
use Rattle.std.proofs.lemmas.List.Elements.{All-head, All-tail}
use Rattle.report.specs.Answers.{Answer, Refused, Reported}
use Rattle.question_model.specs.ScriptGraph.{HasBase}
use Rattle.crash_model.specs.Disk.{Disk}
use Rattle.crash_model.specs.declared.refusals.RunFault.{RunFault}
use Rattle.crash_model.specs.declared.refusals.RunFault.TheVariants.{GroupFault}
use Rattle.crash_model.specs.declared.settings.Settings.{Settings}
use Rattle.crash_model.specs.declared.steps.Step.{Step}
use Rattle.report.specs.OnPools.{IsReportedOfPool}
use Rattle.question_model.specs.SearchRefusal.{IsSearchRefusal, before_the_pool, no_operation}
use Rattle.question_model.specs.Workloads.{IsOfPool}
use Rattle.uniqueness_laws.proofs.OneGraph.{heads, tails}
use Rattle.question_laws.proofs.OneStart.{base_one, untraced_one}

-- the first thing of a list without a property is determined
first_without : {X : Type 0} (C : X → Type 0) (front other : List X) (x y : X) (rest last : List X)
    → front ++ x ∷ rest ≡ other ++ y ∷ last → All C front → ¬ (C x) → All C other → ¬ (C y) → x ≡ y
first_without C [] [] x y rest last e fronts none others un = heads e
first_without C [] (o ∷ other) x y rest last e fronts none others un =
    absurd (none (subst C (sym (heads e)) (All-head C o other others)))
first_without C (f ∷ front) [] x y rest last e fronts none others un =
    absurd (un (subst C (heads e) (All-head C f front fronts)))
first_without C (f ∷ front) (o ∷ other) x y rest last e fronts none others un =
    first_without C front other x y rest last (tails e) (All-tail C f front fronts) none (All-tail C o other others) un

none_without : {X : Type 0} (C : X → Type 0) (front : List X) (x : X) (rest : List X) → All C (front ++ x ∷ rest)
    → C x
none_without C [] x rest all = All-head C x rest all
none_without C (f ∷ front) x rest all = none_without C front x rest (All-tail C f (front ++ x ∷ rest) all)

-- an answer is a refusal of a search, or a report on its base and pool
abbrev pub IsSearched : (Disk → List Step → List ℕ → ℕ → Type 0) → List ℕ → Settings → Answer → Type 0
IsSearched IsOn bytes settings (Refused fault) = IsSearchRefusal bytes settings fault
IsSearched IsOn bytes settings (Reported text number) = IsReportedOfPool IsOn bytes settings text number

module _ (bytes : List ℕ) (settings : Settings) where
  pub search_refusal_one : (fault other : RunFault) → IsSearchRefusal bytes settings fault
      → IsSearchRefusal bytes settings other → fault ≡ other
  search_refusal_one fault other (before_the_pool _ is none) (before_the_pool _ also none_too) =
      untraced_one bytes settings fault other is also
  search_refusal_one fault _ (before_the_pool _ is none) (no_operation base front rest step has all not_one) =
      absurd (none base (front ++ step ∷ rest) has)
  search_refusal_one _ other (no_operation base front rest step has all not_one) (before_the_pool _ also none) =
      absurd (none base (front ++ step ∷ rest) has)
  search_refusal_one _ _ (no_operation base front rest step has all not_one)
      (no_operation base' front' rest' step' has' all' not_one') =
      let same = base_one bytes settings base base' (front ++ step ∷ rest) (front' ++ step' ∷ rest') has has' in
      ap (λ (x : Step). GroupFault x.line)
      (first_without IsOfPool front front' step step' rest rest' same.1 all not_one all' not_one')

  pub refused_or_searched : (fault : RunFault) (base : Disk) (pool : List Step) → IsSearchRefusal bytes settings fault
      → HasBase bytes settings base pool → All IsOfPool pool → ⊥
  refused_or_searched fault base pool (before_the_pool _ is none) start all = none base pool start
  refused_or_searched _ base pool (no_operation other front rest step has before not_one) start all =
      not_one (none_without IsOfPool front step rest
      (subst (All IsOfPool) (base_one bytes settings base other pool (front ++ step ∷ rest) start has).1 all))

  module _ (IsOn : Disk → List Step → List ℕ → ℕ → Type 0)
      (one : (base : Disk) (pool : List Step) (text other : List ℕ) (number more : ℕ)
      → IsOn base pool text number → IsOn base pool other more → (text ≡ other) × (number ≡ more)) where
    pub pool_reported_one : (text other : List ℕ) (number more : ℕ) → IsReportedOfPool IsOn bytes settings text number
        → IsReportedOfPool IsOn bytes settings other more → (text ≡ other) × (number ≡ more)
    pool_reported_one text other number more is also =
        let start = base_one bytes settings is.base also.base is.pool also.pool is.start also.start in
        one also.base also.pool text other number more
        (subst (λ d. IsOn d also.pool text number) start.0 (subst (λ p. IsOn is.base p text number) start.1 is.report))
        also.report

    pub pool_answered_one : (answer other : Answer) → IsSearched IsOn bytes settings answer
        → IsSearched IsOn bytes settings other → answer ≡ other
    pool_answered_one (Refused fault) (Refused more) is also = ap Refused (search_refusal_one fault more is also)
    pool_answered_one (Refused fault) (Reported text number) is also =
        absurd (refused_or_searched fault also.base also.pool is also.start also.operations)
    pool_answered_one (Reported text number) (Refused fault) is also =
        absurd (refused_or_searched fault is.base is.pool also is.start is.operations)
    pool_answered_one (Reported text number) (Reported other more) is also =
        let same = pool_reported_one text other number more is also in
        λ i. Reported (same.0 i) (same.1 i)
