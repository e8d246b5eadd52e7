-- The report on the faults that a crash can leave.
use Rattle.std.specs.Prelude.{ℕ, List, ◌++◌, length, Bool, codes, decimal, ◌≡◌, map}
use Rattle.std.specs.List.{flat_map, All}
use Rattle.serde_json.specs.Data.{Data, string}
use Rattle.crash_model.specs.declared.settings.Settings.{Settings}
use Rattle.report.specs.Fields.{list_of, object_of, field}
use Rattle.report.specs.Found.{FirstCrash}
use Rattle.report.specs.FirstCrashes.{first_text}
use Rattle.report.specs.declared.reports.Decision as reports_decision
use Rattle.crash_model.specs.Checker.{Demands}
use Rattle.crash_model.specs.Disk.{Disk}
use Rattle.crash_model.specs.declared.patches.Patch.{Patch}
use Rattle.report.specs.Made.{IsLed}
use Rattle.report.specs.OnGraphs.{detail_of, head_on, bytes_in}
use Rattle.crash_model.specs.Tracing.{Tracing}
use Rattle.crash_model.specs.Patches.{CountsClosed}
use Rattle.crash_model.specs.FirstSets.{HasFault}
use Rattle.question_model.specs.Decided.{AreDecided}
use Rattle.report.specs.Reports.{Head, head_text, explained_text}
use Rattle.report.specs.Structs.{head_of}
use Rattle.report.specs.CrashesJson.{first_json}
use Rattle.report.specs.FirstCrashes.{decided_of, IsFirstCrash}
use Rattle.report.specs.HeadJson.{checker_fields, disk_fields, module_field}
use Rattle.report.specs.ReportsJson.{first_fields, last_fields}

pub record Decision : Type 0 where
  pub head : Head
  pub faults : List FirstCrash

abbrev pub decision_of : {A : Type 0} → reports_decision.Decision A → Decision
decision_of r = record { head = head_of r.head; faults = r.faults.now }

abbrev pub decision_text : Decision → List ℕ
decision_text r = head_text r.head ++ explained_text r.head ++ flat_map first_text r.faults

-- `closed` is a text, since it can be more than many readers of JSON keep
abbrev pub decision_json : Bool → Decision → Data
decision_json numbers r =
    object_of (
    first_fields r.head
    ++ field (codes "closed") (string (decimal r.head.closed))
    ++ checker_fields r.head.settings
    ++ field (codes "faults") (list_of (first_json numbers) r.faults)
    ++ disk_fields numbers r.head.settings
    ++ module_field r.head.settings
    ++ last_fields numbers r.head)

abbrev pub decision_bytes : Settings → Decision → List ℕ
decision_bytes settings r = bytes_in settings (decision_text r) (decision_json settings.numbers r)

-- the report on a graph with this number of faults: each fault that a failing set has, with the first crash that leaves
-- it
pub record IsDecision (settings : Settings) (demands : Demands) (base : Disk) (last : Tracing) (patches : List Patch)
    (text : List ℕ) (number : ℕ) : Type 0 where
  pub total : ℕ
  pub counted : CountsClosed patches total
  pub faults : List FirstCrash
  pub decided : AreDecided (HasFault demands base patches) (map decided_of faults)
  pub made : All (IsFirstCrash (detail_of settings demands) base patches) faults
  pub led : All (λ f. IsLed patches f.crash) faults
  pub number_of : number ≡ length faults
  pub whole : text ≡ decision_bytes settings (record {
    head = head_on settings demands base last patches total;
    faults = faults;
  })
