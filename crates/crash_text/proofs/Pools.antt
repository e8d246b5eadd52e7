-- The steps of a script, and of a pool among them.
use Rattle.std.proofs.Common.{◌≡◌, ℕ, ◌+◌, List, [], ◌∷◌, length, inl, inr, refl, sym, subst, ap, ◌∙◌}
use Rattle.std.specs.Prelude.{All, ◌==◌, if◌then◌else◌}
use Rattle.std.proofs.lemmas.List.Elements.{All-cons, All-filter, All-nil}
use Rattle.crash_model.specs.Disk.{Disk, IsDisk}
use Rattle.crash_model.specs.Script.{IsAct, AreSteps, IsScript}
use Rattle.crash_model.specs.Sound.{IsSound, HasZeroJournal}
use Rattle.crash_model.specs.declared.modules.Module.TheVariants.{Full}
use Rattle.crash_model.specs.declared.settings.Settings.{Settings}
use Rattle.crash_model.specs.declared.steps.Step.{Step}
use Rattle.question_model.specs.ScriptGraph.{ordering_rules}
use Rattle.question_model.specs.SearchCounts.{AreSearchCounts}
use Rattle.report.specs.OnPools.{search_of}
use Rattle.question_model.specs.Workloads.{Search, is_place}
use Rattle.question_model.specs.declared.found.SearchCounts.{SearchCounts}
use Rattle.pool_judging.specs.Judging.{IsFullJournal}
use Rattle.pool_judging.proofs.Full.{nothing_fails, none_failing}
use Rattle.pool_judging.proofs.Pools.{all_keeps, all_places}
use Rattle.crash_text.proofs.Safe.{full_rules}

-- ---- acts

acts_of : (n : ℕ) (lines : List (List ℕ)) (steps : List Step) → AreSteps n lines steps
    → All (λ step. IsAct step.act) steps
acts_of n [] steps are = subst (λ (xs : List Step). All (λ step. IsAct step.act) xs) (sym are)
    (All-nil (λ (step : Step). IsAct step.act))
acts_of n (line ∷ lines) steps (inl skipped) = acts_of (n + 1) lines steps skipped.1
acts_of n (line ∷ lines) steps (inr (act, later, says, are, is)) =
    subst (λ (xs : List Step). All (λ step. IsAct step.act) xs) (sym is)
    (All-cons (λ (step : Step). IsAct step.act) (record { line = n; act = act }) later says.0
    (acts_of (n + 1) lines later are))

-- each step of a script has an act with the names that acts can have
pub are_acts : (bytes : List ℕ) (before steps : List Step) → IsScript bytes before steps
    → All (λ step. IsAct step.act) steps
are_acts bytes before steps script =
    acts_of (length script.before + 2) script.after steps script.traced_steps

-- under the full journal no workload of such a pool fails, so the number that a search reports is 0
pub none_reported : (settings : Settings) (most : ℕ) (base : Disk) (lines : List Step) (found : SearchCounts)
    (number : ℕ)
    → settings.module ≡ Full → settings.without.items ≡ [] → IsDisk base → IsSound base → HasZeroJournal base
    → All (λ step. IsAct step.act) lines
    → AreSearchCounts (search_of settings most base lines) found
    → number ≡ (if found.failing == 0 then 0 else 1) → number ≡ 0
none_reported settings most base lines found number full none disk sound zeros acts exactly is =
    is ∙ ap (λ (n : ℕ). if n == 0 then 0 else 1) (none_failing s found exactly (nothing_fails s is_full disk sound zeros
    (All-filter (λ (step : Step). is_place step.act) (λ step. IsAct step.act) lines acts) (all_places lines)
    (all_keeps lines)))
  where
    s : Search
    s = search_of settings most base lines

    is_full : IsFullJournal (search_of settings most base lines)
    is_full = record { full = full; all = full_rules settings (ordering_rules settings) full none refl; asked = full }
