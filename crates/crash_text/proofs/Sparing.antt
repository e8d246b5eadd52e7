-- What is found of choices makes it the report that is asked for.
use Rattle.std.proofs.Common.{◌≡◌, ℕ, List, map, All, sym, subst}
use Rattle.patch_sets.specs.Sets.{AreAllInOrder}
use Rattle.crash_model.specs.Checker.{Demands}
use Rattle.crash_model.specs.Disk.{Disk}
use Rattle.crash_model.specs.Tracing.{Tracing}
use Rattle.crash_model.specs.declared.patches.Patch.{Patch}
use Rattle.crash_model.specs.declared.settings.Settings.{Settings}
use Rattle.report.specs.OnChoices.{IsChoicesReport, ShowsChoices}
use Rattle.report.specs.Found.{Need}
use Rattle.report.specs.declared.choices.Choices.{Choices}

-- the text is the report on these sets and groups, where it shows lists that are the same
pub is_report : (IsMinimal IsNeededGroup : ℕ → Type 0) (IsNeed : Need → Type 0) (choices : ℕ → Choices)
    (settings : Settings) (demands : Demands) (base : Disk) (last : Tracing) (patches : List Patch) (text : List ℕ)
    (number : ℕ) (enough groups : List ℕ) (sets : List Choices) (needs : List Need)
    → AreAllInOrder IsMinimal enough → AreAllInOrder IsNeededGroup groups → map (λ n. n.group) needs ≡ groups
    → All IsNeed needs → sets ≡ map choices enough
    → ShowsChoices sets needs settings demands base last patches text number
    → IsChoicesReport IsMinimal IsNeededGroup IsNeed choices settings demands base last patches text number
is_report IsMinimal IsNeededGroup IsNeed choices settings demands base last patches text number enough groups sets needs
    exactly needed of_groups listed same shown = record {
      enough = enough;
      exactly = exactly;
      needs = needs;
      needed = subst (AreAllInOrder IsNeededGroup) (sym of_groups) needed;
      listed = listed;
      shown = subst (λ (cs : List Choices). ShowsChoices cs needs settings demands base last patches text number) same
          shown;
    }
