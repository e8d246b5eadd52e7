-- Words with a space between two.
use Rattle.std.proofs.Common.{◌≡◌, ℕ, List, [], ◌∷◌, ◌++◌, sym, ap, ◌∙◌, append-nil, map, refl}
use Rattle.std.specs.List.{flat_map}
use Rattle.crash_model.specs.Lists.{join_of}
use Rattle.crash_model.specs.PathTexts.{path_text}
use Rattle.crash_model.specs.declared.names.Path.{Path}

-- a word and others, each of these after a space
pub join_words : (word : List ℕ) (words : List (List ℕ))
    → join_of 32 (word ∷ words) ≡ word ++ flat_map (λ (w : List ℕ). 32 ∷ w) words
join_words word [] = sym (append-nil word)
join_words word (w ∷ ws) = ap (λ (rest : List ℕ). word ++ (32 ∷ rest)) (join_words w ws)

flat_paths : (paths : List Path) → flat_map (λ (w : List ℕ). 32 ∷ w) (map path_text paths)
    ≡ flat_map (λ (path : Path). 32 ∷ path_text path) paths
flat_paths [] = refl
flat_paths (p ∷ ps) = ap (λ (rest : List ℕ). (32 ∷ path_text p) ++ rest) (flat_paths ps)

pub join_paths : (word : List ℕ) (paths : List Path)
    → word ++ flat_map (λ (path : Path). 32 ∷ path_text path) paths ≡ join_of 32 (word ∷ map path_text paths ++ [])
join_paths word paths =
    sym (ap (λ (ws : List (List ℕ)). join_of 32 (word ∷ ws)) (append-nil (map path_text paths))
    ∙ (join_words word (map path_text paths) ∙ ap (λ (rest : List ℕ). word ++ rest) (flat_paths paths)))
