-- There is at most one report of a search, and of the rules that its workloads need.
use Rattle.std.proofs.Common.{◌≡◌, ℕ, List, map, Bool, sym, subst, ap, ◌∙◌}
use Rattle.std.specs.Prelude.{if◌then◌else◌, ◌==◌}
use Rattle.patch_sets.proofs.Canonical.{one_list}
use Rattle.crash_model.specs.Checker.{Demands}
use Rattle.crash_model.specs.Disk.{Disk}
use Rattle.crash_model.specs.declared.patches.Patch.{Patch}
use Rattle.crash_model.specs.declared.settings.Settings.{Settings}
use Rattle.crash_model.specs.declared.steps.Step.{Step}
use Rattle.question_model.specs.Enough.{rules_but}
use Rattle.question_model.specs.EnoughFor.{FailsBy, IsMinimalInSearch, IsNeededInSearch}
use Rattle.report.specs.OnPools.{search_of}
use Rattle.question_model.specs.Sequences.{IsFirstSequence}
use Rattle.question_model.specs.Workloads.{Search, steps_at, HasPatches}
use Rattle.question_model.specs.declared.found.SearchCounts.{SearchCounts}
use Rattle.question_model.specs.declared.found.ShownKind.{ShownKind}
use Rattle.report.specs.Made.{Detail, IsSection}
use Rattle.report.specs.FirstCrashes.{IsFirstOfAll}
use Rattle.report.specs.OnChoices.{rules_at}
use Rattle.report.specs.OnPools.{IsFirstOfKind, IsNeedOfSearch, IsSearchReport, IsSearchRulesReport, head_of_search}
use Rattle.report.specs.OnPools.{kinds_bytes, rules_bytes, search_but}
use Rattle.report.specs.Found.{Kind, Need}
use Rattle.question_laws.proofs.OneSections.{section_one}
use Rattle.question_laws.proofs.OneFirst.{first_crash_one, same_need}
use Rattle.question_laws.proofs.OneFound.{patches_one, found_one}
use Rattle.question_laws.proofs.Orders.{same_keyed}
use Rattle.question_laws.proofs.Sequences.{first_sequence_one}

module _ (s : Search) (explain : Bool) where
  abbrev detail : Demands → Detail
  detail demands = record { explain = explain; demands = demands }

  kind_one : (k l : Kind) → IsFirstOfKind s explain k → IsFirstOfKind s explain l → k.shown ≡ l.shown → k ≡ l
  kind_one k l is also same =
      let steps : k.steps ≡ l.steps = is.steps
      ∙ (ap (λ (shown : ShownKind). steps_at s.pool shown.places.items) same ∙ sym also.steps) in
      let both = patches_one s l.shown.places.items is.demands also.demands is.patches also.patches
      (subst (λ (shown : ShownKind). HasPatches s shown.places.items is.demands is.patches) same is.traced)
      also.traced in
      let made : IsSection (detail also.demands) s.base also.patches k.section =
      subst (λ (d : Demands). IsSection (detail d) s.base also.patches k.section) both.0
      (subst (λ ps. IsSection (detail is.demands) s.base ps k.section) both.1 is.made) in
      let section : k.section ≡ l.section =
      section_one (detail also.demands) s.base also.patches k.section l.section made also.made
      (is.set ∙ (ap (λ (shown : ShownKind). shown.first) same ∙ sym also.set)) in
      λ i. record { shown = same i; steps = steps i; section = section i }

  need_one : (n o : Need) → IsNeedOfSearch s explain n → IsNeedOfSearch s explain o → n.group ≡ o.group → n ≡ o
  need_one n o is also same =
      let places : is.places ≡ also.places = first_sequence_one
      (FailsBy s (rules_but s.rules o.group)) is.places also.places
      (subst (λ (group : ℕ). IsFirstSequence (FailsBy s (rules_but s.rules group)) is.places) same is.earliest)
      also.earliest in
      let traced : HasPatches (search_but s o.group) also.places is.demands is.patches =
      subst (λ (ps : List ℕ). HasPatches (search_but s o.group) ps is.demands is.patches) places
      (subst (λ (group : ℕ). HasPatches (search_but s group) is.places is.demands is.patches) same is.traced) in
      let both = patches_one (search_but s o.group) also.places is.demands also.demands is.patches also.patches traced
      also.traced in
      let first : IsFirstOfAll (detail also.demands) s.base also.patches n.first =
      subst (λ (d : Demands). IsFirstOfAll (detail d) s.base also.patches n.first) both.0
      (subst (λ ps. IsFirstOfAll (detail is.demands) s.base ps n.first) both.1 is.first) in
      same_need n o same (is.choices ∙ (ap (rules_at s.rules) same ∙ sym also.choices))
      (is.steps ∙ (ap (λ (ps : List ℕ). steps_at s.pool ps) places ∙ sym also.steps))
      (first_crash_one (detail also.demands) s.base also.patches n.first o.first first also.first)

exit_of : SearchCounts → ℕ
exit_of found = if found.failing == 0 then 0 else 1

module _ (settings : Settings) (most : ℕ) (base : Disk) (pool : List Step) (text other : List ℕ)
    (number more : ℕ) where
  pub search_one : IsSearchReport settings most base pool text number
      → IsSearchReport settings most base pool other more
      → (text ≡ other) × (number ≡ more)
  unfolding exit_of
  search_one is also =
      let s = search_of settings most base pool in
      let found : is.found ≡ also.found = found_one s is.found also.found is.exactly also.exactly in
      let shown : map (λ k. k.shown) is.kinds ≡ map (λ k. k.shown) also.kinds = is.shown
      ∙ (ap (λ (f : SearchCounts). f.kinds.items) found ∙ sym also.shown) in
      let kinds : is.kinds ≡ also.kinds = same_keyed (λ k. k.shown) (IsFirstOfKind s settings.explain)
      (kind_one s settings.explain) is.kinds also.kinds shown is.listed also.listed in (
        is.whole ∙ ((λ i. kinds_bytes settings (record {
          head = head_of_search settings most pool (found i);
          kinds = kinds i;
        })) ∙ sym also.whole),
        is.number_of ∙ (ap exit_of found ∙ sym also.number_of),
      )

  pub search_rules_one : IsSearchRulesReport settings most base pool text number
      → IsSearchRulesReport settings most base pool other more → (text ≡ other) × (number ≡ more)
  unfolding exit_of
  search_rules_one is also =
      let s = search_of settings most base pool in
      let found : is.found ≡ also.found = found_one s is.found also.found is.exactly also.exactly in
      let enough : is.enough ≡ also.enough = one_list (IsMinimalInSearch s) is.enough also.enough is.minimal
      also.minimal in
      let groups : map (λ n. n.group) is.needs ≡ map (λ n. n.group) also.needs = one_list (IsNeededInSearch s)
      (map (λ n. n.group) is.needs) (map (λ n. n.group) also.needs) is.needed also.needed in
      let needs : is.needs ≡ also.needs = same_keyed (λ n. n.group) (IsNeedOfSearch s settings.explain)
      (need_one s settings.explain) is.needs also.needs groups is.listed also.listed in (
        is.whole ∙ ((λ i. rules_bytes settings (record {
          head = head_of_search settings most pool (found i);
          enough = map (rules_at s.rules) (enough i);
          needs = needs i;
        })) ∙ sym also.whole),
        is.number_of ∙ (ap exit_of found ∙ sym also.number_of),
      )
