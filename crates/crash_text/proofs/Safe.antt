-- Where no set fails, none is reported.
use Rattle.std.proofs.Common.{◌≡◌, ℕ, List, [], ◌∷◌, length, arith, refl, sym, subst, ap, ◌∙◌}
use Rattle.std.proofs.lemmas.List.Elements.{Contains-get_or}
use Rattle.patch_sets.specs.Sets.{AreAllInOrder}
use Rattle.question_model.specs.ScriptGraph.{ordering_rules}
use Rattle.crash_model.specs.Disk.{Disk}
use Rattle.crash_model.specs.RuleFacts.{AreAmong}
use Rattle.crash_model.specs.Rules.{rules_of}
use Rattle.crash_model.specs.ChosenRules.{rules_under}
use Rattle.crash_model.specs.Checker.{Demands, IsFailingUnder}
use Rattle.crash_model.specs.FirstSets.{HasFault}
use Rattle.crash_model.specs.declared.modules.Module.{Module}
use Rattle.crash_model.specs.declared.modules.Module.TheVariants.{Full}
use Rattle.crash_model.specs.declared.patches.Patch.{Patch}
use Rattle.crash_model.specs.declared.rules.Rule.{Rule}
use Rattle.crash_model.specs.declared.settings.Settings.{Settings}
use Rattle.crash_model.proofs.PutIn.{put_in_among}
use Rattle.question_model.specs.Decided.{AreDecided}
use Rattle.question_model.specs.declared.decided_fault.DecidedFault.{DecidedFault}

-- no set is listed
pub none_listed : (P : ℕ → Type 0) (sets : List ℕ) → ((set : ℕ) → ¬ (P set)) → AreAllInOrder P sets → length sets ≡ 0
none_listed P [] none are = refl
none_listed P (set ∷ sets) none are =
    absurd (none set ((are.exactly set).0 (Contains-get_or (set ∷ sets) 0 0 (omega arith))))

-- no fault is decided
pub none_decided : (demands : Demands) (base : Disk) (patches : List Patch) (faults : List DecidedFault)
    → ((set : ℕ) → ¬ (IsFailingUnder demands base patches set)) → AreDecided (HasFault demands base patches) faults
    → length faults ≡ 0
none_decided demands base patches [] none are = refl
none_decided demands base patches (f ∷ faults) none are =
    absurd (none f.first (are.each 0 f (omega arith)).among.failing)

-- under the full journal with no rule taken out, each of its rules is there
pub full_rules : (settings : Settings) (rules : List Rule) → settings.module ≡ Full → settings.without.items ≡ []
    → rules ≡ ordering_rules settings → AreAmong (rules_of Full) rules
full_rules settings rules full none are =
    subst (λ (rs : List Rule). AreAmong (rules_of Full) rs) (sym all) (put_in_among Full settings.with.items)
  where
    all : rules ≡ rules_under Full [] settings.with.items
    all = are ∙ (ap (λ (k : Module). rules_under k settings.without.items settings.with.items) full
        ∙ ap (λ (rs : List Rule). rules_under Full rs settings.with.items) none)
