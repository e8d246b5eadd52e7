-- What a report says of a fault in JSON.
use Rattle.std.specs.Prelude.{ℕ, List, Bool, codes, ◌∷◌, [], map, option_map, option_to_list}
use Rattle.std.specs.List.{flat_map}
use Rattle.serde_json.specs.Data.{Data, string, array}
use Rattle.report.specs.Fields.{numbers_json}
use Rattle.report.specs.Explained.{together}
use Rattle.report.specs.declared.found.FoundFault.{FoundFault}
use Rattle.crash_model.specs.declared.fault.Fault.{Fault}
use Rattle.crash_model.specs.declared.fault.Fault.TheVariants.{BrokenPromise, Dangling, Twice, Unwritten, LowLinks}
use Rattle.crash_model.specs.declared.fault.Fault.TheVariants.{MarkedFree, Wild, Lost, NoBlock, HalfDone}
use Rattle.crash_model.specs.Texts.{fault_text}
use Rattle.serde_json.specs.View.{items_of}

-- the numbers of an entry and of a pointer, and of the fault's kind
abbrev pub entry_numbers : ℕ → ℕ → ℕ → List (List ℕ × ℕ)
entry_numbers d k i = (codes "directory", d) ∷ (codes "entry", k) ∷ (codes "inode", i) ∷ (codes "kind", 1) ∷ []

abbrev pub pointer_numbers : ℕ → ℕ → ℕ → ℕ → List (List ℕ × ℕ)
pointer_numbers kind i s b = (codes "block", b) ∷ (codes "inode", i) ∷ (codes "kind", kind) ∷ (codes "slot", s) ∷ []

-- the number of a fault's kind, and those in its text by name
abbrev pub fault_numbers : Fault → List (List ℕ × ℕ)
fault_numbers (Dangling d k i) = entry_numbers d k i
fault_numbers (Twice b) = (codes "block", b) ∷ (codes "kind", 2) ∷ []
fault_numbers (Unwritten i s b) = pointer_numbers 3 i s b
fault_numbers (LowLinks i e l) = (codes "entries", e) ∷ (codes "inode", i) ∷ (codes "kind", 4) ∷ (codes "links", l) ∷ []
fault_numbers (MarkedFree i s b) = pointer_numbers 5 i s b
fault_numbers (Wild i s b) = pointer_numbers 6 i s b
fault_numbers (Lost i) = (codes "inode", i) ∷ (codes "kind", 7) ∷ []
fault_numbers (NoBlock i) = (codes "inode", i) ∷ (codes "kind", 8) ∷ []
fault_numbers HalfDone = (codes "kind", 9) ∷ []
fault_numbers (BrokenPromise line) = (codes "kind", 10) ∷ (codes "line", line) ∷ []

unfoldable pub fault_json : Fault → Data
fault_json fault = numbers_json (fault_numbers fault)

abbrev pub found_json : Bool → FoundFault → Data
found_json numbers f = string (fault_text f.fault)

-- the numbers of each
abbrev pub all_numbers : List FoundFault → Data
all_numbers found = array (items_of (map (λ f. fault_json f.fault) found))

-- what is shown of those of which that is explained
abbrev pub shows_json : FoundFault → List Data
shows_json f = option_to_list (option_map (λ shows. string (together shows.items)) f.shows)

abbrev pub all_shows : List FoundFault → Data
all_shows found = array (items_of (flat_map shows_json found))
