-- How names and paths are read: by their length, and name by name. No answer of a run depends on these.
use Rattle.std.specs.Prelude.{◌≡◌, ℕ, ◌≤◌, ◌<◌, List, [], ◌∷◌, ◌++◌, length}
use Rattle.crash_model.specs.declared.separators.TheConstants.{SLASH}
use Rattle.crash_model.specs.declared.disk_bytes.TheConstants.{LONGEST_NAME}
use Rattle.crash_model.specs.Names.{IsName}

-- 1 to 10 bytes
abbrev pub IsShort : List ℕ → Type 0
IsShort word = (0 < length word) × (length word ≤ LONGEST_NAME)

abbrev pub IsNothingOrSlash : List ℕ → Type 0
IsNothingOrSlash [] = Unit {0}
IsNothingOrSlash (c ∷ _) = c ≡ SLASH

-- a slash and a name, and then nothing or another slash
pub record BeginsWith (text name rest : List ℕ) : Type 0 where
  pub is_name : IsName name
  pub whole : text ≡ SLASH ∷ (name ++ rest)
  pub ends : IsNothingOrSlash rest

abbrev pub HasFirstName : List ℕ → Type 0
HasFirstName text = (name : List ℕ) × (rest : List ℕ) × BeginsWith text name rest
