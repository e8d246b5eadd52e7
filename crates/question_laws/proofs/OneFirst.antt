-- There is at most one first crash, and one report of what is needed.
use Rattle.std.proofs.Common.{◌≡◌, ◌≢◌, ℕ, List, refl, sym, subst, ap, ◌∙◌, inl, inr}
use Rattle.std.specs.Prelude.{◌⊎◌, Option, Some, None}
use Rattle.crash_model.specs.Disk.{Disk}
use Rattle.crash_model.specs.FirstSets.{HasFault}
use Rattle.crash_model.specs.OtherRules.{HasGraphBy}
use Rattle.crash_model.specs.Tracing.{Tracing}
use Rattle.crash_model.specs.declared.fault.Fault.{Fault}
use Rattle.crash_model.specs.declared.patches.Patch.{Patch}
use Rattle.crash_model.specs.declared.rules.Rule.{Rule}
use Rattle.crash_model.specs.declared.steps.Step.{Step}
use Rattle.question_model.specs.Decided.{IsFirstDecided}
use Rattle.question_model.specs.Enough.{rules_but}
use Rattle.question_model.specs.declared.decided_fault.DecidedFault.{DecidedFault}
use Rattle.report.specs.Made.{Detail}
use Rattle.report.specs.FirstCrashes.{decided_of}
use Rattle.report.specs.FirstCrashes.{IsFirstIfAny, IsFirstOfAll}
use Rattle.report.specs.OnChoices.{IsNeedOfRules, rules_at}
use Rattle.report.specs.Found.{FirstCrash, Need}
use Rattle.uniqueness_laws.proofs.OneGraph.{graph_one}
use Rattle.question_laws.proofs.FaultsApart.{same_or_not}
use Rattle.question_laws.proofs.OneSections.{made_one, not_both}
use Rattle.question_laws.proofs.OneDecision.{shown_one}

pub first_fault_one : (has : Fault → ℕ → Type 0) (f g : DecidedFault) → IsFirstDecided has f → IsFirstDecided has g
    → f ≡ g
first_fault_one has f g is also = by (same_or_not f.fault g.fault)
  where
    by : (f.fault ≡ g.fault) ⊎ (f.fault ≢ g.fault) → f ≡ g
    by (inl same) = shown_one has f g is.first also.first same
    by (inr apart) = absurd (not_both f.fault g.fault
        (is.before g.fault g.first also.first.among (λ e. apart (sym e)))
        (also.before f.fault f.first is.first.among apart))

module _ (detail : Detail) (base : Disk) (patches : List Patch) where
  pub first_crash_one : (f g : FirstCrash) → IsFirstOfAll detail base patches f → IsFirstOfAll detail base patches g
      → f ≡ g
  first_crash_one f g is also =
      made_one detail base patches f g is.made also.made
      (first_fault_one (HasFault detail.demands base patches) (decided_of f) (decided_of g) is.decided also.decided)

  pub first_any_one : (first other : Option FirstCrash) → IsFirstIfAny detail base patches first
      → IsFirstIfAny detail base patches other → first ≡ other
  first_any_one None None is also = refl
  first_any_one None (Some g) is also = absurd (is g.fault.fault g.crash.set also.decided.first.among)
  first_any_one (Some f) None is also = absurd (also f.fault.fault f.crash.set is.decided.first.among)
  first_any_one (Some f) (Some g) is also = ap Some (first_crash_one f g is also)

-- the first crash of the patches of a trace by some rules
pub first_by_one : (detail : Detail) (rules : List Rule) (base : Disk) (s : Tracing) (f g : FirstCrash)
    → HasGraphBy rules base s (λ patches. IsFirstOfAll detail base patches f)
    → HasGraphBy rules base s (λ patches. IsFirstOfAll detail base patches g) → f ≡ g
first_by_one detail rules base s f g is also =
    let patches : is.0 ≡ also.0 = graph_one rules base s is.0 also.0 is.1 also.1 in
    first_crash_one detail base also.0 f g (subst (λ ps. IsFirstOfAll detail base ps f) patches is.2) also.2

pub same_need : (n o : Need) → n.group ≡ o.group → n.choices ≡ o.choices → n.steps ≡ o.steps → n.first ≡ o.first
    → n ≡ o
same_need n o group choices steps first = λ i. record {
  group = group i;
  choices = choices i;
  steps = steps i;
  first = first i;
}

pub need_of_rules_one : (detail : Detail) (rules : List Rule) (base : Disk) (s : Tracing) (n o : Need)
    → IsNeedOfRules detail rules base s n → IsNeedOfRules detail rules base s o → n.group ≡ o.group → n ≡ o
need_of_rules_one detail rules base s n o is also same =
    let here = subst (λ (group : ℕ). HasGraphBy (rules_but rules group) base s
    (λ patches. IsFirstOfAll detail base patches n.first)) same is.first in
    same_need n o same (is.choices ∙ (ap (rules_at rules) same ∙ sym also.choices)) (is.no_steps ∙ sym also.no_steps)
    (first_by_one detail (rules_but rules o.group) base s n.first o.first here also.first)
