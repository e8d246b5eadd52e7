-- What the JSON of reports is made of. The fields of an object are listed in ascending order of their keys.
use Rattle.std.specs.Prelude.{ℕ, List, [], ◌∷◌, Bool, true, if◌then◌else◌, Option, Some, None, map}
use Rattle.std.specs.List.{flat_map}
use Rattle.hex.specs.Hex.{encode_lower}
use Rattle.patch_sets.specs.Sets.{ids_of}
use Rattle.patch_sets.specs.Iter.{most_ids}
use Rattle.serde_json.specs.Data.{Data, unsigned, boolean, number, string, array, object, Members, no_members, member}
use Rattle.serde_json.specs.View.{items_of}

abbrev pub natural : ℕ → Data
natural n = number (unsigned n)

abbrev pub list_of : {X : Type 0} → (X → Data) → List X → Data
list_of json xs = array (items_of (map json xs))

unfoldable pub ids_json : ℕ → Data
ids_json set = list_of natural (ids_of most_ids set)

abbrev pub hex_json : List ℕ → Data
hex_json bytes = string (encode_lower bytes)

-- ---- objects

abbrev pub members_of : List (List ℕ × Data) → Members
members_of [] = no_members
members_of (f ∷ fs) = member f.0 f.1 (members_of fs)

unfoldable pub object_of : List (List ℕ × Data) → Data
object_of fields = object (members_of fields)

unfoldable pub field : List ℕ → Data → List (List ℕ × Data)
field key d = (key, d) ∷ []

-- `true`, if something holds
abbrev pub flag : List ℕ → Bool → List (List ℕ × Data)
flag key holds = if holds then field key (boolean true) else []

-- an array of texts, and the same unless it is empty
abbrev pub words_json : {X : Type 0} → (X → List ℕ) → List X → Data
words_json word xs = list_of (λ x. string (word x)) xs

abbrev pub words_if_any : {X : Type 0} → List ℕ → (X → List ℕ) → List X → List (List ℕ × Data)
words_if_any key word [] = []
words_if_any key word (x ∷ xs) = field key (words_json word (x ∷ xs))

-- fields that are there only if something holds
abbrev pub fields_if : Bool → List (List ℕ × Data) → List (List ℕ × Data)
fields_if holds fields = if holds then fields else []

-- an object of numbers
abbrev pub numbers_json : List (List ℕ × ℕ) → Data
numbers_json ns = object_of (flat_map (λ n. field n.0 (natural n.1)) ns)

-- a field, if there is a value
abbrev pub field_if : {X : Type 0} → List ℕ → (X → Data) → Option X → List (List ℕ × Data)
field_if key json None = []
field_if key json (Some x) = field key (json x)
