-- What a report says of a crash in JSON.
use Rattle.std.specs.Prelude.{ℕ, List, ◌++◌, Bool, codes, ◌∷◌, []}
use Rattle.serde_json.specs.Data.{Data}
use Rattle.report.specs.Fields.{natural, list_of, ids_json, hex_json, object_of, field, fields_if}
use Rattle.report.specs.Parts.{Crash, Section}
use Rattle.report.specs.Found.{FirstCrash}
use Rattle.patch_sets.specs.declared.write.BlockWrite.{BlockWrite}
use Rattle.report.specs.declared.replayed.ReplayedBlock.{ReplayedBlock}
use Rattle.report.specs.declared.found.FoundFault.{FoundFault}
use Rattle.report.specs.FaultsJson.{fault_json, found_json, all_numbers, all_shows}

abbrev pub write_json : Bool → BlockWrite → Data
write_json numbers w =
    object_of (
    field (codes "block") (natural w.block)
    ++ field (codes "patches") (ids_json w.ids))

abbrev pub replayed_json : Bool → ReplayedBlock → Data
replayed_json numbers r =
    object_of (
    field (codes "block") (natural r.block)
    ++ field (codes "bytes") (hex_json r.bytes))

abbrev pub replay_field : Bool → Crash → List (List ℕ × Data)
replay_field numbers c =
    fields_if c.explained (field (codes "replay") (list_of (replayed_json numbers) c.replay))

-- its set, and what is shown where these faults say that promises are broken, if that is explained
abbrev pub set_fields : Crash → List FoundFault → List (List ℕ × Data)
set_fields c found =
    field (codes "set") (ids_json c.set)
    ++ fields_if c.shows (field (codes "shows") (all_shows found))

abbrev pub writes_field : Bool → Crash → List (List ℕ × Data)
writes_field numbers c = field (codes "writes") (list_of (write_json numbers) c.writes)

abbrev pub faults_fields : Bool → List FoundFault → List (List ℕ × Data)
faults_fields numbers found =
    fields_if numbers (field (codes "fault_numbers") (all_numbers found))
    ++ field (codes "faults") (list_of (found_json numbers) found)

abbrev pub section_json : Bool → Section → Data
section_json numbers s =
    object_of (
    faults_fields numbers s.faults
    ++ replay_field numbers s.crash
    ++ set_fields s.crash s.faults
    ++ writes_field numbers s.crash)

abbrev pub fault_fields : Bool → FoundFault → List (List ℕ × Data)
fault_fields numbers f =
    field (codes "fault") (found_json numbers f)
    ++ fields_if numbers (field (codes "fault_numbers") (fault_json f.fault))

abbrev pub first_json : Bool → FirstCrash → Data
first_json numbers f =
    object_of (
    fault_fields numbers f.fault
    ++ replay_field numbers f.crash
    ++ set_fields f.crash (f.fault ∷ [])
    ++ writes_field numbers f.crash)
