-- Reports of searches.
use Rattle.std.specs.Prelude.{ℕ, List, ◌++◌, length, Bool, codes, decimal}
use Rattle.std.specs.List.{flat_map}
use Rattle.serde_json.specs.Data.{Data, string}
use Rattle.crash_model.specs.FaultKinds.{kind_number, kind_name}
use Rattle.crash_model.specs.Refused.{refusal_number, refusal_text}
use Rattle.crash_model.specs.declared.settings.Settings.{Settings}
use Rattle.question_model.specs.declared.found.RefusedCount.{RefusedCount}
use Rattle.question_model.specs.declared.found.SearchCounts.{SearchCounts}
use Rattle.crash_model.specs.declared.fault_kind.FaultKind.{FaultKind}
use Rattle.report.specs.Fields.{natural, list_of, words_if_any, object_of, field, flag}
use Rattle.report.specs.Texts.{count_line, line, lines_of}
use Rattle.report.specs.Choices.{choices_text, choices_json, need_text, need_json, step_text}
use Rattle.report.specs.CrashesJson.{faults_fields, replay_field, set_fields, writes_field}
use Rattle.report.specs.Crashes.{section_text}
use Rattle.report.specs.Head.{settings_text}
use Rattle.report.specs.HeadJson.{checker_fields, disk_fields, module_field, rules_fields}
use Rattle.report.specs.Found.{Kind, Need}
use Rattle.report.specs.declared.choices.Choices.{Choices}
use Rattle.report.specs.declared.search.FoundKinds as found_kinds
use Rattle.report.specs.declared.search.FoundRules as found_rules
use Rattle.report.specs.declared.search.SearchHead as search

-- ---- what each of them says

abbrev pub refused_text : RefusedCount → List ℕ
refused_text r =
    line (codes "refused " ++ decimal (refusal_number r.reason) ++ codes " " ++ refusal_text r.reason ++ codes ": "
    ++ decimal r.count)

abbrev pub refused_json : Bool → RefusedCount → Data
refused_json numbers r =
    object_of (
    field (codes "count") (natural r.count)
    ++ field (codes "number") (natural (refusal_number r.reason))
    ++ field (codes "text") (string (refusal_text r.reason)))

-- the settings, the most operations of a workload, how many lines the pool has, and what is counted
pub record SearchHead : Type 0 where
  pub settings : Settings
  pub most : ℕ
  pub pool : ℕ
  pub found : SearchCounts

abbrev pub search_of : search.SearchHead → SearchHead
search_of h = record { settings = h.settings.now; most = h.most; pool = h.pool; found = h.found.now }

unfoldable pub search_text : SearchHead → List ℕ
search_text h =
    settings_text h.settings
    ++ count_line (codes "search") h.most
    ++ count_line (codes "pool") h.pool
    ++ count_line (codes "workloads") h.found.workloads
    ++ count_line (codes "failing") h.found.failing
    ++ flat_map refused_text h.found.refused.items

unfoldable pub search_first : SearchHead → List (List ℕ × Data)
search_first h = flag (codes "atomic") h.settings.atomic ++ checker_fields h.settings

unfoldable pub search_last : Bool → SearchHead → List (List ℕ × Data)
search_last numbers h =
    field (codes "pool") (natural h.pool)
    ++ field (codes "refused") (list_of (refused_json numbers) h.found.refused.items)
    ++ field (codes "search") (natural h.most)
    ++ flag (codes "strict") h.settings.strict
    ++ rules_fields h.settings
    ++ field (codes "workloads") (natural h.found.workloads)

-- ---- the kinds of faults

unfoldable pub kind_line : FaultKind → List ℕ
kind_line kind = line (codes "kind " ++ decimal (kind_number kind) ++ codes " " ++ kind_name kind)

abbrev pub kind_text : Kind → List ℕ
kind_text k =
    kind_line k.shown.kind
    ++ count_line (codes "workloads") k.shown.workloads
    ++ lines_of (codes "step") step_text k.steps
    ++ section_text k.section

abbrev pub kind_json : Bool → Kind → Data
kind_json numbers k =
    object_of (
    faults_fields numbers k.section.faults
    ++ field (codes "kind") (natural (kind_number k.shown.kind))
    ++ field (codes "name") (string (kind_name k.shown.kind))
    ++ replay_field numbers k.section.crash
    ++ set_fields k.section.crash k.section.faults
    ++ words_if_any (codes "steps") step_text k.steps
    ++ field (codes "workloads") (natural k.shown.workloads)
    ++ writes_field numbers k.section.crash)

pub record FoundKinds : Type 0 where
  pub head : SearchHead
  pub kinds : List Kind

abbrev pub kinds_of : found_kinds.FoundKinds → FoundKinds
kinds_of r = record { head = search_of r.head; kinds = r.kinds.now }

abbrev pub kinds_text : FoundKinds → List ℕ
kinds_text r = search_text r.head ++ flat_map kind_text r.kinds

abbrev pub kinds_json : Bool → FoundKinds → Data
kinds_json numbers r =
    object_of (
    search_first r.head
    ++ field (codes "failing") (natural r.head.found.failing)
    ++ disk_fields numbers r.head.settings
    ++ field (codes "kinds") (list_of (kind_json numbers) r.kinds)
    ++ module_field r.head.settings
    ++ search_last numbers r.head)

-- ---- the rules that are enough for all workloads

pub record FoundRules : Type 0 where
  pub head : SearchHead
  pub enough : List Choices
  pub needs : List Need

abbrev pub rules_of : found_rules.FoundRules → FoundRules
rules_of r = record { head = search_of r.head; enough = r.enough.now; needs = r.needs.now }

abbrev pub rules_text : FoundRules → List ℕ
rules_text r =
    search_text r.head
    ++ count_line (codes "enough") (length r.enough)
    ++ flat_map choices_text r.enough
    ++ flat_map need_text r.needs

abbrev pub rules_json : Bool → FoundRules → Data
rules_json numbers r =
    object_of (
    search_first r.head
    ++ field (codes "enough") (list_of (choices_json numbers) r.enough)
    ++ field (codes "failing") (natural r.head.found.failing)
    ++ disk_fields numbers r.head.settings
    ++ module_field r.head.settings
    ++ field (codes "needs") (list_of (need_json numbers) r.needs)
    ++ search_last numbers r.head)
