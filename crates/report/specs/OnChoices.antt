-- What is reported of the rules that a script needs, or of its lines that have to wait.
use Rattle.std.specs.Prelude.{ℕ, List, length, Bool, ◌≡◌, [], map, Option, ◌≤◌, option_to_list}
use Rattle.std.specs.List.{All}
use Rattle.crash_model.specs.Waiting.{Wait}
use Rattle.crash_model.specs.declared.settings.Settings.{Settings}
use Rattle.report.specs.Found.{FirstCrash, Need}
use Rattle.report.specs.declared.choices.Choices.{Choices}
use Rattle.patch_sets.specs.Sets.{AreAllInOrder}
use Rattle.crash_model.specs.Checker.{Demands}
use Rattle.crash_model.specs.Disk.{Disk}
use Rattle.crash_model.specs.declared.patches.Patch.{Patch}
use Rattle.question_model.specs.Enough.{rules_but, rules_in, IsMinimalEnough, IsNeeded}
use Rattle.question_model.specs.ScriptGraph.{ordering_rules}
use Rattle.report.specs.Made.{Detail}
use Rattle.report.specs.OnGraphs.{detail_of, head_on, bytes_in}
use Rattle.report.specs.Choices.{Enough, enough_text, enough_json}
use Rattle.patch_sets.specs.Ends.{IsDifference}
use Rattle.crash_model.specs.Tracing.{Tracing}
use Rattle.question_model.specs.EnoughLines.{all_waits, waits_in, IsMinimalLines, IsNeededLines}
use Rattle.crash_model.specs.Patches.{CountsClosed}
use Rattle.crash_model.specs.declared.rules.Rule.{Rule}
use Rattle.report.specs.declared.choices.Choices.TheVariants.{Rules, Lines}
use Rattle.crash_model.specs.ChosenWaits.{tracing_waiting, demands_waiting}
use Rattle.crash_model.specs.OtherRules.{HasGraphBy}
use Rattle.question_model.specs.declared.question.TheConstants.{MAX_SYNCS}
use Rattle.report.specs.FirstCrashes.{IsFirstOfAll, IsFirstIfAny}

-- the rules of a set of places, and the lines of one
abbrev pub rules_at : List Rule → ℕ → Choices
rules_at rules places = Rules (record { items = rules_in rules places })

abbrev pub lines_at : List Wait → ℕ → Choices
lines_at waits places = Lines (record { items = map (λ wait. wait.line) (waits_in waits places) })

-- rules of which one is needed, with the first crash by all other rules
pub record IsNeedOfRules (detail : Detail) (rules : List Rule) (base : Disk) (s : Tracing) (n : Need) : Type 0 where
  pub choices : n.choices ≡ rules_at rules n.group
  pub no_steps : n.steps ≡ []
  pub first : HasGraphBy (rules_but rules n.group) base s (λ patches. IsFirstOfAll detail base patches n.first)

-- lines of which one is needed, with the first crash if all other lines wait
pub record IsNeedOfLines (explain : Bool) (rules : List Rule) (demands : Demands) (base : Disk) (s : Tracing) (n : Need)
    : Type 0 where
  pub choices : n.choices ≡ lines_at s.waits n.group
  pub no_steps : n.steps ≡ []
  pub first : (rest : ℕ) → IsDifference (all_waits s.waits) n.group rest
      → HasGraphBy rules base (tracing_waiting rest s)
      (λ patches. IsFirstOfAll (record { explain = explain; demands = demands_waiting s.waits rest demands }) base
      patches n.first)

abbrev pub enough_bytes : Settings → Enough → List ℕ
enough_bytes settings r = bytes_in settings (enough_text r) (enough_json settings.numbers r)

-- a report on a graph that shows these choices and needs; `number` is 1 if all choices together are not enough,
-- otherwise 0
pub record ShowsChoices (enough : List Choices) (needs : List Need) (settings : Settings) (demands : Demands)
    (base : Disk) (last : Tracing) (patches : List Patch) (text : List ℕ) (number : ℕ) : Type 0 where
  pub total : ℕ
  pub counted : CountsClosed patches total
  pub first : Option FirstCrash
  pub any : IsFirstIfAny (detail_of settings demands) base patches first
  pub number_of : number ≡ length (option_to_list first)
  pub whole : text ≡ enough_bytes settings (record {
    head = head_on settings demands base last patches total;
    enough = enough;
    needs = needs;
    first = first;
  })

-- the report shows exactly the minimal sets of places whose choices are enough, and exactly the minimal groups of which
-- one is needed
pub record IsChoicesReport (IsMinimal IsNeededGroup : ℕ → Type 0) (IsNeed : Need → Type 0) (choices : ℕ → Choices)
    (settings : Settings) (demands : Demands) (base : Disk) (last : Tracing) (patches : List Patch) (text : List ℕ)
    (number : ℕ) : Type 0 where
  pub enough : List ℕ
  pub exactly : AreAllInOrder IsMinimal enough
  pub needs : List Need
  pub needed : AreAllInOrder IsNeededGroup (map (λ n. n.group) needs)
  pub listed : All IsNeed needs
  pub shown : ShowsChoices (map choices enough) needs settings demands base last patches text number

-- where the choices are the rules of the ordering
abbrev pub IsEnoughReport : Settings → Demands → Disk → Tracing → List Patch → List ℕ → ℕ → Type 0
IsEnoughReport settings demands base last =
    IsChoicesReport (IsMinimalEnough demands base last (ordering_rules settings))
    (IsNeeded demands base last (ordering_rules settings))
    (IsNeedOfRules (detail_of settings demands) (ordering_rules settings) base last)
    (rules_at (ordering_rules settings)) settings demands base last

-- where the choices are the lines that wait, of which there are not too many
abbrev pub IsLinesReport : Settings → Demands → Disk → Tracing → List Patch → List ℕ → ℕ → Type 0
IsLinesReport settings demands base last patches text number =
    (length last.waits ≤ MAX_SYNCS)
    × IsChoicesReport (IsMinimalLines demands base (ordering_rules settings) last)
    (IsNeededLines demands base (ordering_rules settings) last)
    (IsNeedOfLines settings.explain (ordering_rules settings) demands base last)
    (lines_at last.waits) settings demands base last patches text number
