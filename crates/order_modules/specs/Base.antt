-- The steps before tracing, up to the first refused one.
use Rattle.std.specs.Prelude.{◌≡◌, ◌⊎◌, List, [], ◌∷◌, Ok, Err}
use Rattle.crash_model.specs.Disk.{Disk}
use Rattle.crash_model.specs.Plan.{plan_of, with_changes}
use Rattle.crash_model.specs.View.{view_of}
use Rattle.crash_model.specs.Meaning.{Means, IsRefused}
use Rattle.crash_model.specs.Refusals.{trace_fault}
use Rattle.crash_model.specs.declared.operations.Op.{Op}
use Rattle.crash_model.specs.declared.refusals.FsFault.{FsFault}
use Rattle.crash_model.specs.declared.refusals.TraceFault.{TraceFault}
use Rattle.crash_model.specs.declared.refusals.TraceFault.TheVariants.{GroupFault, OnlyAfterStart}
use Rattle.crash_model.specs.declared.steps.Act.TheVariants.{Do, Group, End, Depend}
use Rattle.crash_model.specs.declared.steps.Step.{Step}

-- the disk after the operations before the first refused step
abbrev pub disk_before_refusal : Disk → List Step → Disk
disk_before_refusal d [] = d
disk_before_refusal d (x ∷ xs) = elim x.act [
  | Do op ↦ elim (plan_of d op) [ Err e ↦ d | Ok changes ↦ disk_before_refusal (with_changes d changes) xs ]
  | _ ↦ d
]

-- a step's operation makes one disk of another, whose view has gained and lost what the operation means
abbrev pub StepMakes : Disk → Step → Disk → Type 0
StepMakes d x next = (op : Op) × (x.act ≡ Do op) × Means d.blocks d.journal (view_of d) (view_of next) op

-- from disk to disk, each by the operation of a step
abbrev pub StepsMake : Disk → List Step → Disk → Type 0
StepsMake d [] end = end ≡ d
StepsMake d (x ∷ xs) end = (next : Disk) × StepMakes d x next × StepsMake next xs end

-- how a step is refused that is no operation
abbrev pub base_refusal : Step → TraceFault
base_refusal x = elim x.act [
  | Group _ ↦ GroupFault x.line
  | End ↦ GroupFault x.line
  | Depend _ _ ↦ GroupFault x.line
  | _ ↦ OnlyAfterStart x.line
]

-- the step is refused, exactly as the contents of the disk require, or is no operation
abbrev pub IsStopped : Disk → Step → TraceFault → Type 0
IsStopped d x fault =
    ((op : Op) × (why : FsFault) × (x.act ≡ Do op) × IsRefused d.blocks d.journal (view_of d) op why
    × (fault ≡ trace_fault x.line why))
    ⊎ (((op : Op) → ¬ (x.act ≡ Do op)) × (fault ≡ base_refusal x))

-- the same up to a step that is refused, which changes nothing
abbrev pub StepsStop : Disk → List Step → Disk → TraceFault → Type 0
StepsStop d [] end fault = ⊥
StepsStop d (x ∷ xs) end fault =
    (IsStopped d x fault × (end ≡ d)) ⊎ ((next : Disk) × StepMakes d x next × StepsStop next xs end fault)
