-- The steps of a script as a pool, and what its steps are.
use Rattle.std.specs.Prelude.{◌≡◌, ℕ, List, ◌∷◌, ◌++◌, Bool, true, false, IsTrue}
use Rattle.std.specs.List.{All}
use Rattle.crash_model.specs.declared.steps.Act.{Act}
use Rattle.crash_model.specs.declared.steps.Act.TheVariants.{Sync, Fsync}
use Rattle.crash_model.specs.declared.steps.Step.{Step}
use Rattle.question_model.specs.Workloads.{is_place, is_keep, IsOfPool, places_of, keeps_of}
use Rattle.pool_judging.specs.declared.copying.PoolSteps.{PoolSteps}

-- the steps are those of a pool: what workloads are made of, and the promises in a list of their own
pub record IsPoolOf {A : Type 0} (steps : List Step) (pool : PoolSteps A) : Type 0 where
  pub all : All IsOfPool steps
  pub places : pool.places.items ≡ places_of steps
  pub keeps : pool.keeps.items ≡ keeps_of steps

-- the steps are no pool, and this is the line of the first that no pool has
pub record IsNoPool (steps : List Step) (line : ℕ) : Type 0 where
  pub front : List Step
  pub step : Step
  pub rest : List Step
  pub whole : steps ≡ front ++ step ∷ rest
  pub before : All IsOfPool front
  pub first : ¬ (IsOfPool step)
  pub of_it : line ≡ step.line

-- workloads are made of such steps
abbrev pub IsPlace : Step → Type 0
IsPlace step = IsTrue (is_place step.act)

-- each workload begins with such promises
abbrev pub IsKeep : Step → Type 0
IsKeep step = IsTrue (is_keep step.act)

-- a line that waits
abbrev pub is_waiting : Act → Bool
is_waiting Sync = true
is_waiting (Fsync _) = true
is_waiting _ = false
