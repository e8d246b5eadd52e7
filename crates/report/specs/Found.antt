-- What is reported of faults, of choices that are needed and of kinds of faults, each by a crash.
use Rattle.std.specs.Prelude.{ℕ, List}
use Rattle.report.specs.Parts.{Crash, Section}
use Rattle.report.specs.declared.found.FoundFault.{FoundFault}
use Rattle.crash_model.specs.declared.steps.Step.{Step}
use Rattle.question_model.specs.declared.found.ShownKind.{ShownKind}
use Rattle.report.specs.declared.choices.Choices.{Choices}

-- a fault, and the first crash that leaves it
pub record FirstCrash : Type 0 where
  pub fault : FoundFault
  pub crash : Crash

-- A group of choices of which one is needed: their places among all choices, the choices themselves, the steps of the
-- workload if one is searched for, and the first crash without them. The places are not written.
pub record Need : Type 0 where
  pub group : ℕ
  pub choices : Choices
  pub steps : List Step
  pub first : FirstCrash

-- a kind of fault that workloads show, the steps of the first that does, and the first crash of that one
pub record Kind : Type 0 where
  pub shown : ShownKind
  pub steps : List Step
  pub section : Section
