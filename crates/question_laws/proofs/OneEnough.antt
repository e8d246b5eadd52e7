-- There is at most one report of the rules that a script needs.
use Rattle.std.proofs.Common.{◌≡◌, ℕ, List, length, map, sym, ap, ◌∙◌}
use Rattle.std.specs.Prelude.{Option, option_to_list}
use Rattle.state_space.proofs.Counting.{one_number}
use Rattle.patch_sets.specs.Closed.{IsClosed}
use Rattle.patch_sets.proofs.Canonical.{one_list}
use Rattle.crash_model.specs.Disk.{Disk}
use Rattle.crash_model.specs.Checker.{Demands}
use Rattle.crash_model.specs.Patches.{deps_of}
use Rattle.crash_model.specs.Trace.{IsGraphOf}
use Rattle.crash_model.specs.Tracing.{Tracing}
use Rattle.crash_model.specs.declared.patches.Patch.{Patch}
use Rattle.crash_model.specs.declared.settings.Settings.{Settings}
use Rattle.question_model.specs.Enough.{IsMinimalEnough, IsNeeded}
use Rattle.question_model.specs.ScriptGraph.{ordering_rules}
use Rattle.report.specs.OnChoices.{IsChoicesReport, IsEnoughReport, IsNeedOfRules, enough_bytes, rules_at}
use Rattle.report.specs.OnGraphs.{detail_of, head_on}
use Rattle.report.specs.Found.{FirstCrash, Need}
use Rattle.report.specs.declared.choices.Choices.{Choices}
use Rattle.question_laws.proofs.OneFirst.{first_any_one, need_of_rules_one}
use Rattle.question_laws.proofs.Orders.{same_keyed}

-- of the choices of a report, if there is at most one thing to say of a group
module _ (IsMinimal IsNeededGroup : ℕ → Type 0) (IsNeed : Need → Type 0)
    (one : (n o : Need) → IsNeed n → IsNeed o → n.group ≡ o.group → n ≡ o) (choices : ℕ → Choices)
    (settings : Settings) (demands : Demands) (base : Disk) (last : Tracing) (patches : List Patch)
  where
    pub choices_one : (text other : List ℕ) (number more : ℕ)
        → IsChoicesReport IsMinimal IsNeededGroup IsNeed choices settings demands base last patches text number
        → IsChoicesReport IsMinimal IsNeededGroup IsNeed choices settings demands base last patches other more
        → (text ≡ other) × (number ≡ more)
    choices_one text other number more is also =
        let total : is.shown.total ≡ also.shown.total =
        one_number (IsClosed (deps_of patches)) is.shown.total also.shown.total is.shown.counted also.shown.counted in
        let enough : is.enough ≡ also.enough = one_list IsMinimal is.enough also.enough is.exactly also.exactly in
        let groups : map (λ n. n.group) is.needs ≡ map (λ n. n.group) also.needs =
        one_list IsNeededGroup (map (λ n. n.group) is.needs) (map (λ n. n.group) also.needs) is.needed also.needed in
        let needs : is.needs ≡ also.needs =
        same_keyed (λ n. n.group) IsNeed one is.needs also.needs groups is.listed also.listed in
        let first : is.shown.first ≡ also.shown.first =
        first_any_one (detail_of settings demands) base patches is.shown.first also.shown.first is.shown.any
        also.shown.any in (
          is.shown.whole ∙ ((λ i. enough_bytes settings (record {
            head = head_on settings demands base last patches (total i);
            enough = map choices (enough i);
            needs = needs i;
            first = first i;
          })) ∙ sym also.shown.whole),
          is.shown.number_of
              ∙ (ap (λ (some : Option FirstCrash). length (option_to_list some)) first ∙ sym also.shown.number_of),
        )

pub enough_one : (settings : Settings) (demands : Demands) (base : Disk) (last : Tracing) (patches : List Patch)
    (text other : List ℕ) (number more : ℕ) → IsGraphOf (ordering_rules settings) base last patches
    → IsEnoughReport settings demands base last patches text number
    → IsEnoughReport settings demands base last patches other more → (text ≡ other) × (number ≡ more)
enough_one settings demands base last patches text other number more graph is also =
    let rules = ordering_rules settings in
    let detail = detail_of settings demands in
    choices_one (IsMinimalEnough demands base last rules) (IsNeeded demands base last rules)
    (IsNeedOfRules detail rules base last) (need_of_rules_one detail rules base last) (rules_at rules) settings demands
    base last patches text other number more is also
