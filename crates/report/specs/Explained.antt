-- What is explained of replay, of broken promises, of patches, of lines that wait and of promises.
use Rattle.std.specs.Prelude.{ℕ, List, ◌++◌, length, Bool, codes, [], Option, None, Some, decimal, ◌==◌}
use Rattle.std.specs.Prelude.{if◌then◌else◌, not}
use Rattle.std.specs.Prelude.{map}
use Rattle.std.specs.List.{flat_map}
use Rattle.crash_model.specs.Promises.{Promise}
use Rattle.crash_model.specs.Reasons.{ExplainedPatch, Dependency}
use Rattle.crash_model.specs.Waiting.{Wait}
use Rattle.report.specs.Texts.{line, line_if, spaced, ids_text, joined, lines_of}
use Rattle.serde_json.specs.Data.{Data, string}
use Rattle.report.specs.Fields.{natural, list_of, ids_json, hex_json, object_of, field, words_json}
use Rattle.report.specs.declared.replayed.ReplayedBlock.{ReplayedBlock}
use Rattle.hex.specs.Hex.{encode_lower}
use Rattle.crash_model.specs.declared.showing.Shown.{Shown}
use Rattle.arrayvec.specs.ArrayVec.{ArrayVec}
use Rattle.crash_model.specs.PatchTexts.{act_text, part_text, op_text}
use Rattle.crash_model.specs.ShownTexts.{shown_text}
use Rattle.crash_model.specs.PathTexts.{path_text}
use Rattle.crash_model.specs.Trace.{Emitted}
use Rattle.crash_model.specs.declared.promises.Allowance.{Allowance}
use Rattle.crash_model.specs.declared.promises.Spare.{Spare}

-- what several paths show
abbrev pub together : List Shown → List ℕ
together shows = joined (codes " | ") (map shown_text shows)

abbrev pub shows_text : List Shown → List ℕ
shows_text shows = line (codes "shows " ++ together shows)

unfoldable pub shows_if : Option (ArrayVec Shown) → List ℕ
shows_if None = []
shows_if (Some shows) = shows_text shows.items

abbrev pub replayed_text : ReplayedBlock → List ℕ
replayed_text r = line (codes "replay block " ++ decimal r.block ++ codes ": " ++ encode_lower r.bytes)

abbrev pub dependency_text : Dependency → List ℕ
dependency_text w = line (codes "after " ++ decimal w.id ++ codes ": " ++ joined (codes ", ") w.reasons)

abbrev pub dependency_json : Bool → Dependency → Data
dependency_json numbers w =
    object_of (
    field (codes "patch") (natural w.id)
    ++ field (codes "why") (list_of string w.reasons))

unfoldable pub patch_line : ℕ → Emitted → List ℕ
patch_line id e =
    line (codes "patch " ++ decimal id ++ codes " line " ++ decimal e.origin.line ++ codes " " ++ op_text e.origin.op
    ++ codes ": " ++ part_text e.part ++ codes " block " ++ decimal e.place.block ++ codes " offset "
    ++ decimal e.place.offset ++ codes " length " ++ decimal (length e.place.new))

abbrev pub patch_text : ExplainedPatch → List ℕ
patch_text t = patch_line t.id t.emitted ++ flat_map dependency_text t.after

abbrev pub patch_json : Bool → ExplainedPatch → Data
patch_json numbers t =
    object_of (
    field (codes "after") (list_of (dependency_json numbers) t.after)
    ++ field (codes "block") (natural t.emitted.place.block)
    ++ field (codes "line") (natural t.emitted.origin.line)
    ++ field (codes "new") (hex_json t.emitted.place.new)
    ++ field (codes "offset") (natural t.emitted.place.offset)
    ++ field (codes "part") (string (part_text t.emitted.part))
    ++ field (codes "step") (string (op_text t.emitted.origin.op))
    ++ field (codes "undo") (hex_json t.undo))

abbrev pub wait_text : Wait → List ℕ
wait_text w =
    line (codes "wait line " ++ decimal w.line ++ codes " " ++ act_text w.act ++ codes ":" ++ ids_text w.ids)

abbrev pub wait_json : Bool → Wait → Data
wait_json numbers w =
    object_of (
    field (codes "ids") (ids_json w.ids)
    ++ field (codes "line") (natural w.line)
    ++ field (codes "step") (string (act_text w.act)))

abbrev pub promise_word : Promise → List ℕ
promise_word p = if p.keeps then codes "keep" else codes "hold"

abbrev pub allowed_text : Allowance → List ℕ
allowed_text a = together a.shows.items

abbrev pub spare_text : Spare → List ℕ
spare_text spare = path_text spare.path ++ codes " " ++ shown_text spare.shows

unfoldable pub promise_line : Promise → List ℕ
promise_line p =
    line (codes "promise line " ++ decimal p.line ++ codes " " ++ promise_word p ++ spaced path_text p.paths)

unfoldable pub after_text : ℕ → List ℕ
after_text set = line_if (not (set == 0)) (codes "after" ++ ids_text set)

abbrev pub promise_text : Promise → List ℕ
promise_text p =
    promise_line p
    ++ after_text p.after
    ++ lines_of (codes "shows") allowed_text p.allowed
    ++ lines_of (codes "spare") spare_text p.spares

abbrev pub promise_json : Bool → Promise → Data
promise_json numbers p =
    object_of (
    field (codes "after") (ids_json p.after)
    ++ field (promise_word p) (words_json path_text p.paths)
    ++ field (codes "line") (natural p.line)
    ++ field (codes "shows") (words_json allowed_text p.allowed)
    ++ field (codes "spares") (words_json spare_text p.spares))
