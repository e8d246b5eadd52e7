-- There is at most one report of a script's lines that have to wait.
use Rattle.std.proofs.Common.{◌≡◌, ℕ, List, sym, subst, ap, ◌∙◌}
use Rattle.std.specs.Prelude.{Bool}
use Rattle.enough_rules.proofs.Groups.{difference_of}
use Rattle.patch_sets.specs.Ends.{IsDifference}
use Rattle.crash_model.specs.ChosenWaits.{tracing_waiting, demands_waiting}
use Rattle.crash_model.specs.Disk.{Disk}
use Rattle.crash_model.specs.Checker.{Demands}
use Rattle.crash_model.specs.Trace.{IsGraphOf}
use Rattle.crash_model.specs.Tracing.{Tracing}
use Rattle.crash_model.specs.declared.patches.Patch.{Patch}
use Rattle.crash_model.specs.declared.rules.Rule.{Rule}
use Rattle.crash_model.specs.declared.settings.Settings.{Settings}
use Rattle.question_model.specs.EnoughLines.{all_waits, IsMinimalLines, IsNeededLines}
use Rattle.question_model.specs.ScriptGraph.{ordering_rules}
use Rattle.report.specs.Made.{Detail}
use Rattle.report.specs.OnChoices.{IsLinesReport, IsNeedOfLines, lines_at}
use Rattle.report.specs.Found.{Need}
use Rattle.question_laws.proofs.OneEnough.{choices_one}
use Rattle.question_laws.proofs.OneFirst.{first_by_one, same_need}

module _ (explain : Bool) (rules : List Rule) (demands : Demands) (base : Disk) (s : Tracing) where
  -- what is reported of a set if only the lines of a set of places wait
  abbrev detail_waiting : ℕ → Detail
  detail_waiting rest = record { explain = explain; demands = demands_waiting s.waits rest demands }

  need_of_lines_one : (n o : Need) → IsNeedOfLines explain rules demands base s n
      → IsNeedOfLines explain rules demands base s o → n.group ≡ o.group → n ≡ o
  need_of_lines_one n o is also same =
      let others = difference_of (all_waits s.waits) o.group in
      let apart = subst (λ (group : ℕ). IsDifference (all_waits s.waits) group others.0) (sym same) others.1 in
      same_need n o same (is.choices ∙ (ap (lines_at s.waits) same ∙ sym also.choices))
      (is.no_steps ∙ sym also.no_steps)
      (first_by_one (detail_waiting others.0) rules base (tracing_waiting others.0 s) n.first o.first
      (is.first others.0 apart) (also.first others.0 others.1))

module _ (settings : Settings) (demands : Demands) (base : Disk) (s : Tracing) where
  pub lines_one : (patches : List Patch) (text other : List ℕ) (number more : ℕ)
      → IsGraphOf (ordering_rules settings) base s patches
      → IsLinesReport settings demands base s patches text number
      → IsLinesReport settings demands base s patches other more → (text ≡ other) × (number ≡ more)
  lines_one patches text other number more graph is also =
      let rules = ordering_rules settings in
      choices_one (IsMinimalLines demands base rules s) (IsNeededLines demands base rules s)
      (IsNeedOfLines settings.explain rules demands base s)
      (need_of_lines_one settings.explain rules demands base s) (lines_at s.waits) settings demands base s patches text
      other number more is.1 also.1
