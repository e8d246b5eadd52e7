-- What a report says of the settings of its run in JSON.
use Rattle.std.specs.Prelude.{ℕ, List, ◌++◌, Bool, codes, ◌∷◌, [], Option, None, Some}
use Rattle.serde_json.specs.Data.{Data, string}
use Rattle.crash_model.specs.declared.settings.Settings.{Settings}
use Rattle.report.specs.Fields.{natural, ids_json, field, flag, words_if_any, fields_if, numbers_json}
use Rattle.report.specs.Head.{listed_without, listed_with}
use Rattle.crash_model.specs.Texts.{module_text}
use Rattle.crash_model.specs.RuleTexts.{rule_text}

abbrev pub counted_field : Option ℕ → List (List ℕ × Data)
counted_field None = []
counted_field (Some counted) = field (codes "counted") (ids_json counted)

-- which faults count, if not all do, and whether fsyncs promise
unfoldable pub checker_fields : Settings → List (List ℕ × Data)
checker_fields s = counted_field s.counted ++ flag (codes "durable") s.durable

-- the form of reports, the disk and the module
unfoldable pub disk_fields : Bool → Settings → List (List ℕ × Data)
disk_fields numbers s =
    fields_if numbers (field (codes "format") (natural 1))
    ++ flag (codes "generations") s.generations
    ++ fields_if numbers (field (codes "geometry") (numbers_json (
    (codes "block_size", 128) ∷ (codes "blocks", s.blocks) ∷ (codes "journal", s.journal) ∷ [])))

unfoldable pub module_field : Settings → List (List ℕ × Data)
module_field s = field (codes "module") (string (module_text s.module))

-- whether blocks are written whole, and the rules that are put in and taken out
unfoldable pub rules_fields : Settings → List (List ℕ × Data)
rules_fields s =
    flag (codes "whole_blocks") s.whole_blocks
    ++ words_if_any (codes "with") rule_text (listed_with s)
    ++ words_if_any (codes "without") rule_text (listed_without s)
