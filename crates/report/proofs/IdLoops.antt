-- Loops over the ids of a set.
use Rattle.std.proofs.Common.{◌≡◌, ℕ, List, [], ◌∷◌, ◌++◌, codes, decimal, refl, sym, ap, ◌∙◌, append_assoc, append-nil}
use Rattle.std.specs.List.{flat_map}
use Rattle.json.specs.Token.{Token, begin_array, end_array, number}
use Rattle.json.specs.Written.{Written}
use Rattle.patch_sets.specs.Sets.{ids_of}
use Rattle.patch_sets.specs.Iter.{most_ids}
use Rattle.report.specs.Fields.{ids_json, natural}
use Rattle.report.specs.Texts.{spaced}
use Rattle.report.specs.Written.{AddsJson, AddsTokens, tokens_of}
use Rattle.report.proofs.Adding.{array_written}

-- all ids of a set are left at first
pub all_left : (set : ℕ) → ids_of 128 set ≡ ids_of most_ids set
unfolding most_ids
all_left set = refl

-- ---- with the ids that are left the text is whole

pub text_more : (done spaced_one new all : List ℕ) (left rest : List ℕ) (id : ℕ) → left ≡ id ∷ rest
    → done ++ spaced decimal left ≡ all → spaced_one ≡ done ++ codes " " → new ≡ spaced_one ++ decimal id
    → new ++ spaced decimal rest ≡ all
text_more done one new all left rest id is whole space more =
    ap (λ t. t ++ spaced decimal rest) (more ∙ ap (λ t. t ++ decimal id) space)
    ∙ (regroup done (codes " ") (decimal id) (spaced decimal rest)
    ∙ (ap (λ ids. done ++ spaced decimal ids) (sym is) ∙ whole))
  where
    regroup : (p q r s : List ℕ) → ((p ++ q) ++ r) ++ s ≡ p ++ ((q ++ r) ++ s)
    regroup p q r s = simp append_assoc

pub text_done : (done all left : List ℕ) → left ≡ [] → done ++ spaced decimal left ≡ all → done ≡ all
text_done done all left none whole =
    sym (append-nil done) ∙ (ap (λ ids. done ++ spaced decimal ids) (sym none) ∙ whole)

-- ---- and the tokens are whole

abbrev pub each : List ℕ → List Token
each ids = flat_map (λ id. tokens_of (natural id)) ids

pub tokens_more : (done new all : List Token) (left rest : List ℕ) (id : ℕ) → left ≡ id ∷ rest → done ++ each left ≡ all
    → new ≡ done ++ number (decimal id) ∷ [] → new ++ each rest ≡ all
unfolding tokens_of
tokens_more done new all left rest id is whole pushed =
    ap (λ (t : List Token). t ++ each rest) pushed
    ∙ (append_assoc done (number (decimal id) ∷ []) (each rest)
    ∙ (ap (λ (ids : List ℕ). done ++ each ids) (sym is) ∙ whole))

pub ids_written : (set : ℕ) (left : List ℕ) {a b c d : Written} → left ≡ [] → AddsTokens a b (begin_array ∷ [])
    → c.tokens ++ each left ≡ b.tokens ++ each (ids_of most_ids set) → c.before ≡ b.before
    → AddsTokens c d (end_array ∷ []) → AddsJson a d (ids_json set)
unfolding ids_json
ids_written set left {c = c} none first whole same last =
    array_written natural (ids_of most_ids set) first
    (record {
      whole = sym (append-nil c.tokens) ∙ (ap (λ (ids : List ℕ). c.tokens ++ each ids) (sym none) ∙ whole);
      before = same;
    }) last
