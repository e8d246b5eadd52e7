-- Paths as scripts write them.
use Rattle.std.specs.Prelude.{◌≡◌, ℕ, ◌≤◌, List, [], ◌∷◌, ◌++◌, length, flat_map, All}
use Rattle.crash_model.specs.declared.separators.TheConstants.{SLASH}
use Rattle.crash_model.specs.Names.{IsName}
use Rattle.crash_model.specs.declared.names.Path.{Path}

-- a slash before each name
abbrev pub path_text : Path → List ℕ
path_text path = flat_map (λ name. SLASH ∷ name) (path.through.items ++ path.last ∷ [])

-- one to four names
pub record IsPath (path : Path) : Type 0 where
  pub few : length path.through.items ≤ 3
  pub through : All IsName path.through.items
  pub last : IsName path.last

abbrev pub IsPathWord : List ℕ → Type 0
IsPathWord word = (path : Path) × IsPath path × (word ≡ path_text path)
