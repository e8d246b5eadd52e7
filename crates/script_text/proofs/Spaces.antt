-- The words of a text are the parts between its spaces.
use Rattle.std.proofs.Common.{◌≡◌, ◌≢◌, ℕ, Bool, true, false, eqb, cond, List, [], ◌∷◌, ◌++◌, length, map, refl, sym}
use Rattle.std.proofs.Common.{ap, ◌∙◌, subst, arith}
use Rattle.std.specs.List.{All, Contains, slice_split, onto_first, join_with_byte}
use Rattle.std.proofs.lemmas.Bool.Decides.{nat_tests}
use Rattle.std.proofs.lemmas.List.Elements.{All-head, All-tail, All-nil, All-cons}
use Rattle.std.proofs.lemmas.List.{length-map}
use Rattle.std.proofs.lemmas.List.Splits.{slice_split_none, slice_split_at, join_with_byte-slice_split}
use denote.Ref.{Bor}
use Rattle.crash_model.specs.Lists.{join_of}
use Rattle.crash_model.specs.ScriptRefusals.{AreWords}
use Rattle.crash_model.proofs.Cuts.{Lacks}
use Rattle.script_text.proofs.Cuts.{lacks_none, none_lacks}

abbrev pub spaced : List ℕ → List (List ℕ)
spaced text = slice_split (λ b. eqb b 32) text

joined_same : (c : ℕ) (words : List (List ℕ)) → join_of c words ≡ join_with_byte c words
joined_same c [] = refl
joined_same c (w ∷ []) = refl
joined_same c (w ∷ v ∷ vs) = ap (λ (t : List ℕ). w ++ (c ∷ t)) (joined_same c (v ∷ vs))

differs : (s : ℕ) (x : ℕ) → x ≢ s → eqb x s ≡ false
differs s x other = grind (arith, nat_tests)

no_space : (word : List ℕ) → Lacks 32 word → All (λ x. eqb x 32 ≡ false) word
no_space [] lacks = All-nil (λ x. eqb x 32 ≡ false)
no_space (x ∷ xs) lacks = All-cons (λ x. eqb x 32 ≡ false) x xs (differs 32 x lacks.0) (no_space xs lacks.1)

split_joined : (words : List (List ℕ)) → words ≢ [] → All (λ word. ¬ (Contains word 32)) words
    → spaced (join_of 32 words) ≡ words
split_joined [] some plain = absurd (some refl)
split_joined (w ∷ []) some plain =
    slice_split_none (λ b. eqb b 32) w (no_space w (none_lacks 32 w
    (All-head (λ word. ¬ (Contains word 32)) w [] plain)))
split_joined (w ∷ v ∷ vs) some plain =
    slice_split_at (λ b. eqb b 32) w 32 (join_of 32 (v ∷ vs))
    (no_space w (none_lacks 32 w (All-head (λ word. ¬ (Contains word 32)) w (v ∷ vs) plain))) refl
    ∙ ap (λ (ws : List (List ℕ)). w ∷ ws) (split_joined (v ∷ vs) (λ e. cc)
    (All-tail (λ word. ¬ (Contains word 32)) w (v ∷ vs) plain))

pub words_are : (text : List ℕ) (words : List (List ℕ)) → AreWords text words → words ≡ spaced text
words_are text words are = sym (ap spaced are.whole ∙ split_joined words are.some are.plain)

onto_plain : (x : ℕ) (words : List (List ℕ)) → x ≢ 32 → All (λ word. ¬ (Contains word 32)) words
    → All (λ word. ¬ (Contains word 32)) (onto_first x words)
onto_plain x [] other plain =
    All-cons (λ word. ¬ (Contains word 32)) (x ∷ []) [] (lacks_none 32 (x ∷ []) (other, tt))
    (All-nil (λ word. ¬ (Contains word 32)))
onto_plain x (w ∷ ws) other plain =
    All-cons (λ word. ¬ (Contains word 32)) (x ∷ w) ws (lacks_none 32 (x ∷ w)
    (other, none_lacks 32 w (All-head (λ word. ¬ (Contains word 32)) w ws plain)))
    (All-tail (λ word. ¬ (Contains word 32)) w ws plain)

spaced_plain : (text : List ℕ) → All (λ word. ¬ (Contains word 32)) (spaced text)
spaced_plain [] = All-cons (λ word. ¬ (Contains word 32)) [] [] (lacks_none 32 [] tt)
    (All-nil (λ word. ¬ (Contains word 32)))
spaced_plain (x ∷ xs) = by_test (spaced_plain xs) (eqb x 32) (λ same. same_number x 32 same)
  where
    same_number : (a b : ℕ) → a ≡ b → eqb a b ≡ true
    same_number a b e = grind (arith, nat_tests)

    by_test : All (λ word. ¬ (Contains word 32)) (spaced xs) → (test : Bool) → (x ≡ 32 → test ≡ true)
        → All (λ word. ¬ (Contains word 32)) (cond test ([] ∷ spaced xs) (onto_first x (spaced xs)))
    by_test rest true says = All-cons (λ word. ¬ (Contains word 32)) [] (spaced xs) (lacks_none 32 [] tt) rest
    by_test rest false says = onto_plain x (spaced xs) (λ same. let e = says same in cc) rest

spaced_some : (text : List ℕ) → spaced text ≢ []
spaced_some [] e = cc
spaced_some (x ∷ xs) e = by_test (eqb x 32) (spaced xs) e
  where
    by_test : (test : Bool) (words : List (List ℕ)) → cond test ([] ∷ words) (onto_first x words) ≡ [] → ⊥
    by_test true words e = cc
    by_test false [] e = cc
    by_test false (w ∷ ws) e = cc

pub are_words : (text : List ℕ) (words : List (List ℕ)) → words ≡ spaced text → AreWords text words
are_words text words same = subst (AreWords text) (sym same) (record {
  plain = spaced_plain text;
  some = spaced_some text;
  whole = sym (joined_same 32 (spaced text) ∙ join_with_byte-slice_split 32 text);
})

pub words_once : (text : List ℕ) (words others : List (List ℕ)) → AreWords text words → AreWords text others
    → words ≡ others
words_once text words others are too = words_are text words are ∙ sym (words_are text others too)

pub same_lengths : (words others : List (Bor (List ℕ))) → map (λ word. word.now) words ≡ map (λ word. word.now) others
    → length words ≡ length others
same_lengths words others same = sym (length-map words (λ word. word.now))
    ∙ (ap length same ∙ length-map others (λ word. word.now))
