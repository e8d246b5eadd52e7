-- The report on the failing sets of a script in JSON.
use Rattle.std.specs.Prelude.{ℕ, List, ◌++◌, Bool, codes}
use Rattle.serde_json.specs.Data.{Data}
use Rattle.report.specs.Fields.{natural, list_of, hex_json, object_of, field, flag, fields_if}
use Rattle.report.specs.Explained.{patch_json, wait_json, promise_json}
use Rattle.report.specs.Reports.{Head, FailingSets}
use Rattle.report.specs.CrashesJson.{section_json}
use Rattle.report.specs.HeadJson.{checker_fields, disk_fields, module_field, rules_fields}

unfoldable pub first_fields : Head → List (List ℕ × Data)
first_fields h =
    flag (codes "atomic") h.settings.atomic
    ++ fields_if h.settings.explain (field (codes "base") (list_of hex_json h.base))

unfoldable pub last_fields : Bool → Head → List (List ℕ × Data)
last_fields numbers h =
    field (codes "patches") (natural h.patches)
    ++ fields_if h.promising (field (codes "promises") (list_of (promise_json numbers) h.promises))
    ++ flag (codes "strict") h.settings.strict
    ++ fields_if h.settings.explain (field (codes "trace") (list_of (patch_json numbers) h.trace))
    ++ fields_if h.promising (field (codes "waits") (list_of (wait_json numbers) h.waits))
    ++ rules_fields h.settings

abbrev pub sets_json : Bool → FailingSets → Data
sets_json numbers r =
    object_of (
    first_fields r.head
    ++ field (codes "closed") (natural r.head.closed)
    ++ checker_fields r.head.settings
    ++ field (codes "failing") (list_of (section_json numbers) r.sections)
    ++ disk_fields numbers r.head.settings
    ++ module_field r.head.settings
    ++ last_fields numbers r.head)
