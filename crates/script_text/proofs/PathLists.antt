-- Operands: lists of paths.
use Rattle.std.proofs.Common.{◌≡◌, ℕ, zero, suc, ◌+◌, ◌<◌, ◌≤◌, List, [], ◌∷◌, ◌++◌, length, map, take, get_or, ap}
use Rattle.std.proofs.Common.{sym, ◌∙◌, subst, arith}
use Rattle.std.specs.List.{All, Contains}
use Rattle.std.proofs.lemmas.List.{take_more, map_push, length-map}
use Rattle.std.proofs.lemmas.List.Elements.{All-head, All-tail, Contains-get_or}
use Rattle.crash_model.specs.Script.{PathsOperand}
use Rattle.crash_model.specs.PathTexts.{path_text, IsPathWord}
use Rattle.crash_model.specs.ScriptRefusals.{Fits, HasPaths}
use Rattle.crash_model.specs.declared.names.Path.{Path}
use Rattle.script_text.specs.declared.line.LineFault.TheVariants.{BadPath}
use Rattle.script_text.specs.Words.{IsOperandFault}
use denote.Ref.{Bor}

abbrev texts : List (Bor (List ℕ)) → List (List ℕ)
texts words = map (λ word. word.now) words

-- the words before one and that one are the texts of the paths with one more
pub texts_more : (words : List (Bor (List ℕ))) (i : ℕ) (d : Bor (List ℕ)) (paths more : List Path) (path : Path)
    → i < length words → texts (take i words) ≡ map path_text paths → (get_or words i d).now ≡ path_text path
    → more ≡ paths ++ path ∷ [] → texts (take (i + 1) words) ≡ map path_text more
texts_more words i d paths more path inside said spelt pushed =
    ap texts (take_more words i d inside)
    ∙ (map_push (λ (w : Bor (List ℕ)). w.now) (take i words) (get_or words i d)
    ∙ (ap (λ (ws : List (List ℕ)). ws ++ (get_or words i d).now ∷ []) said
    ∙ (ap (λ (w : List ℕ). map path_text paths ++ w ∷ []) spelt
    ∙ sym (ap (map path_text) pushed ∙ map_push path_text paths path))))

not_all_at : (P : List ℕ → Type 0) (words : List (Bor (List ℕ))) (i : ℕ) (d : Bor (List ℕ)) → i < length words
    → ¬ (P (get_or words i d).now) → ¬ (All P (texts words))
not_all_at P [] i d inside fails all = absurd (omega arith)
not_all_at P (w ∷ ws) zero d inside fails all = fails (All-head P w.now (texts ws) all)
not_all_at P (w ∷ ws) (suc i) d inside fails all =
    not_all_at P ws i d (omega arith) fails (All-tail P w.now (texts ws) all)

-- words of which one is no path
pub path_refused : (words : List (Bor (List ℕ))) (i : ℕ) (d : Bor (List ℕ)) → i < length words
    → ¬ (IsPathWord (get_or words i d).now) → length words ≤ 4 → ¬ (Contains (texts words) [])
    → IsOperandFault (PathsOperand [] ∷ []) (texts words) BadPath
path_refused words i d inside fails few none = (fits, no_paths)
  where
    long : length (texts words) ≡ length words
    long = length-map words (λ (w : Bor (List ℕ)). w.now)

    fits : Fits (PathsOperand [] ∷ []) (texts words)
    fits = (
      omega (arith, long, inside),
      omega (arith, long, few),
      λ k e within same. none (subst (Contains (texts words)) same (Contains-get_or (texts words) k e within)),
    )

    no_paths : ¬ (HasPaths (PathsOperand [] ∷ []) (texts words))
    no_paths all = not_all_at IsPathWord words i d inside fails all
