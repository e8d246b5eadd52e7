-- The steps before tracing, one more at a time.
use Rattle.std.proofs.Common.{◌≡◌, ℕ, suc, ◌+◌, ◌<◌, List, ◌∷◌, length, drop, get_or, refl, sym, ap, ◌∙◌, subst, inr}
use Rattle.std.proofs.Common.{arith}
use Rattle.std.specs.Prelude.{Result, Ok, Err}
use Rattle.std.proofs.Math.Seq.{drop-cons}
use Rattle.crash_model.specs.Disk.{Disk}
use Rattle.crash_model.specs.Plan.{plan_of, with_changes}
use Rattle.crash_model.specs.Refusals.{trace_fault}
use Rattle.crash_model.specs.Trace.{base_from}
use Rattle.crash_model.specs.declared.operations.Op.{Op}
use Rattle.crash_model.specs.declared.refusals.TraceFault.{TraceFault}
use Rattle.crash_model.specs.declared.refusals.TraceFault.TheVariants as no
use Rattle.crash_model.specs.declared.steps.Act.{Act}
use Rattle.crash_model.specs.declared.steps.Act.TheVariants.{Do, Group, End, Depend, Sync, Fsync, Keep, Hold, Spare}
use Rattle.crash_model.specs.declared.steps.Step.{Step}
use Rattle.order_modules.specs.Base.{base_refusal, disk_before_refusal, StepMakes, StepsMake, StepsStop}

pub drop_step : (steps : List Step) (i : ℕ) (x : Step) → i < length steps → x ≡ get_or steps i x
    → drop i steps ≡ x ∷ drop (i + 1) steps
drop_step steps i x inside read = drop-cons steps i x inside ∙ ap (λ (y : Step). y ∷ drop (suc i) steps) (sym read)
    ∙ ap (λ (n : ℕ). x ∷ drop n steps) (let z : suc i ≡ i + 1 = omega arith in z)

module _ (start d next : Disk) (steps : List Step) (i : ℕ) (x : Step) (split : drop i steps ≡ x ∷ drop (i + 1) steps)
    (made : StepMakes d x next) where
  pub made_on : ((end : Disk) → StepsMake d (drop i steps) end → StepsMake start steps end) → (end : Disk)
      → StepsMake next (drop (i + 1) steps) end → StepsMake start steps end
  made_on before end rest = before end (subst (λ (l : List Step). StepsMake d l end) (sym split) (next, made, rest))

  pub stops_on : ((end : Disk) (fault : TraceFault) → StepsStop d (drop i steps) end fault
      → StepsStop start steps end fault) → (end : Disk) (fault : TraceFault)
      → StepsStop next (drop (i + 1) steps) end fault → StepsStop start steps end fault
  stops_on before end fault rest = before end fault (subst (λ (l : List Step). StepsStop d l end fault) (sym split)
      (inr (next, made, rest)))

-- ---- a step that is no operation

module _ (d : Disk) (x : Step) (xs : List Step) (none : (op : Op) → ¬ (x.act ≡ Do op)) where
  abbrev base_by : Act → Result Disk TraceFault
  base_by act = elim act [
    | Do op ↦ elim (plan_of d op) [
      | Err e ↦ Err (trace_fault x.line e)
      | Ok changes ↦ base_from (with_changes d changes) xs
    ]
    | Group _ ↦ Err (no.GroupFault x.line)
    | End ↦ Err (no.GroupFault x.line)
    | Depend _ _ ↦ Err (no.GroupFault x.line)
    | _ ↦ Err (no.OnlyAfterStart x.line)
  ]

  abbrev refusal_by : Act → TraceFault
  refusal_by act = elim act [
    | Group _ ↦ no.GroupFault x.line
    | End ↦ no.GroupFault x.line
    | Depend _ _ ↦ no.GroupFault x.line
    | _ ↦ no.OnlyAfterStart x.line
  ]

  abbrev disk_by : Act → Disk
  disk_by act = elim act [
    | Do op ↦ elim (plan_of d op) [ Err e ↦ d | Ok changes ↦ disk_before_refusal (with_changes d changes) xs ]
    | _ ↦ d
  ]

  same_refusal : (act : Act) → ((op : Op) → ¬ (act ≡ Do op)) → base_by act ≡ Err (refusal_by act)
  same_refusal (Do op) no_op = absurd (no_op op refl)
  same_refusal (Group a) no_op = refl
  same_refusal End no_op = refl
  same_refusal (Depend b a) no_op = refl
  same_refusal Sync no_op = refl
  same_refusal (Fsync t) no_op = refl
  same_refusal (Keep ps) no_op = refl
  same_refusal (Hold p) no_op = refl
  same_refusal (Spare p q) no_op = refl

  same_disk : (act : Act) → ((op : Op) → ¬ (act ≡ Do op)) → disk_by act ≡ d
  same_disk (Do op) no_op = absurd (no_op op refl)
  same_disk (Group a) no_op = refl
  same_disk End no_op = refl
  same_disk (Depend b a) no_op = refl
  same_disk Sync no_op = refl
  same_disk (Fsync t) no_op = refl
  same_disk (Keep ps) no_op = refl
  same_disk (Hold p) no_op = refl
  same_disk (Spare p q) no_op = refl

  pub stops_base : base_from d (x ∷ xs) ≡ Err (base_refusal x)
  stops_base = same_refusal x.act none

  pub stops_disk : disk_before_refusal d (x ∷ xs) ≡ d
  stops_disk = same_disk x.act none
