-- What an fsync names: a path, or the root directory.
use Rattle.std.specs.Prelude.{◌≡◌, ℕ, ◌⊎◌, List, [], ◌∷◌}
use Rattle.crash_model.specs.declared.separators.TheConstants.{SLASH}
use Rattle.crash_model.specs.declared.steps.Target.{Target}
use Rattle.crash_model.specs.declared.steps.Target.TheVariants.{Root, At}
use Rattle.crash_model.specs.PathTexts.{path_text, IsPath, IsPathWord}

-- a path, or a slash for the root directory
abbrev pub target_text : Target → List ℕ
target_text Root = SLASH ∷ []
target_text (At path) = path_text path

abbrev pub IsTarget : Target → Type 0
IsTarget Root = Unit {0}
IsTarget (At path) = IsPath path

abbrev pub IsTargetWord : List ℕ → Type 0
IsTargetWord word = (word ≡ SLASH ∷ []) ⊎ IsPathWord word
