-- Text cut at a byte, and the lines, words and names that it was joined of.
use Rattle.std.proofs.Common.{◌≡◌, ◌≢◌, ℕ, zero, suc, Bool, true, false, List, [], ◌∷◌, ◌++◌, arith, refl, sym, subst}
use Rattle.std.proofs.Common.{ap, ◌∙◌, inl, inr, append_assoc, append-nil}
use Rattle.std.specs.Prelude.{◌⊎◌, ◌==◌, if◌then◌else◌, flat_map}
use Rattle.std.specs.List.{All, Contains}
use Rattle.std.proofs.lemmas.List.Elements.{All-head, All-tail}
use Rattle.patch_sets.proofs.Bits.{eq_or_not}
use Rattle.patch_sets.proofs.Ids.{eq_from_true, ne_from_false, true_from_eq, false_from_ne}
use Rattle.crash_model.proofs.Cuts.{Lacks}
use Rattle.crash_model.specs.Lists.{join_of}
use Rattle.crash_model.specs.Script.{AreLines, text_of_lines}

-- the byte ahead of the first piece
abbrev pub onto : ℕ → List (List ℕ) → List (List ℕ)
onto c [] = (c ∷ []) ∷ []
onto c (piece ∷ pieces) = (c ∷ piece) ∷ pieces

abbrev pub pieces : ℕ → List ℕ → List (List ℕ)
pieces s [] = [] ∷ []
pieces s (c ∷ cs) = if c == s then [] ∷ pieces s cs else onto c (pieces s cs)

pub lacks_from : (s : ℕ) (xs : List ℕ) → ¬ (Contains xs s) → Lacks s xs
lacks_from s [] none = tt
lacks_from s (x ∷ xs) none = (
  (λ e. none (zero, omega arith, e)),
  lacks_from s xs (λ is. none (suc is.0, omega (arith, is.1), is.2)),
)

-- no piece has the byte
abbrev pub AreLacking : ℕ → List (List ℕ) → Type 0
AreLacking s [] = Unit {0}
AreLacking s (word ∷ words) = Lacks s word × AreLacking s words

pub lacking_from : (s : ℕ) (words : List (List ℕ)) → All (λ word. ¬ (Contains word s)) words → AreLacking s words
lacking_from s [] all = tt
lacking_from s (word ∷ words) all = (
  lacks_from s word (All-head (λ word. ¬ (Contains word s)) word words all),
  lacking_from s words (All-tail (λ word. ¬ (Contains word s)) word words all),
)

pieces_alone : (s : ℕ) (word : List ℕ) → Lacks s word → pieces s word ≡ word ∷ []
pieces_alone s [] lacks = refl
pieces_alone s (c ∷ cs) lacks = rw (false_from_ne c s lacks.0) (ap (onto c) (pieces_alone s cs lacks.1))

pieces_first : (s : ℕ) (word rest : List ℕ) → Lacks s word → pieces s (word ++ s ∷ rest) ≡ word ∷ pieces s rest
pieces_first s [] rest lacks = rw (true_from_eq s s refl) refl
pieces_first s (c ∷ cs) rest lacks = rw (false_from_ne c s lacks.0) (ap (onto c) (pieces_first s cs rest lacks.1))

-- any text is the join of its pieces

pub pieces_lack : (s : ℕ) (xs : List ℕ) → AreLacking s (pieces s xs)
pieces_lack s [] = (tt, tt)
pieces_lack s (c ∷ cs) = by_test (c == s) refl (eq_or_not c s) (pieces s cs) (pieces_lack s cs)
  where
    by_test : (b : Bool) → (c == s) ≡ b → (c ≡ s) ⊎ (c ≢ s) → (ps : List (List ℕ)) → AreLacking s ps
        → AreLacking s (if b then [] ∷ ps else onto c ps)
    by_test true e which ps lacks = (tt, lacks)
    by_test false e (inl same) ps lacks = absurd (ne_from_false c s e same)
    by_test false e (inr other) [] lacks = ((other, tt), tt)
    by_test false e (inr other) (p ∷ ps) lacks = ((other, lacks.0), lacks.1)

pub some_pieces : (s : ℕ) (xs : List ℕ) → (p : List ℕ) × (ps : List (List ℕ)) × (pieces s xs ≡ p ∷ ps)
some_pieces s [] = ([], [], refl)
some_pieces s (c ∷ cs) = by_test (c == s) (pieces s cs)
  where
    by_test : (b : Bool) (ps : List (List ℕ)) → (p : List ℕ) × (qs : List (List ℕ))
        × ((if b then [] ∷ ps else onto c ps) ≡ p ∷ qs)
    by_test true ps = ([], ps, refl)
    by_test false [] = (c ∷ [], [], refl)
    by_test false (p ∷ ps) = (c ∷ p, ps, refl)

pub joined_pieces : (s : ℕ) (xs : List ℕ) → join_of s (pieces s xs) ≡ xs
joined_pieces s [] = refl
joined_pieces s (c ∷ cs) = by_test (c == s) refl (some_pieces s cs) (joined_pieces s cs)
  where
    by_test : (b : Bool) → (c == s) ≡ b → (p : List ℕ) × (ps : List (List ℕ)) × (pieces s cs ≡ p ∷ ps)
        → join_of s (pieces s cs) ≡ cs → join_of s (if b then [] ∷ pieces s cs else onto c (pieces s cs)) ≡ c ∷ cs
    by_test true e (p, ps, is) rest = ap (λ qs. join_of s ([] ∷ qs)) is
        ∙ (ap (λ qs. s ∷ join_of s qs) (sym is) ∙ (ap (λ xs. s ∷ xs) rest
        ∙ ap (λ d. d ∷ cs) (sym (eq_from_true c s e))))
    by_test false e (p, ps, is) rest = ap (λ qs. join_of s (onto c qs)) is
        ∙ (ahead p ps ∙ ap (λ xs. c ∷ xs) (ap (join_of s) (sym is) ∙ rest))
      where
        ahead : (p : List ℕ) (ps : List (List ℕ)) → join_of s ((c ∷ p) ∷ ps) ≡ c ∷ join_of s (p ∷ ps)
        ahead p [] = refl
        ahead p (q ∷ qs) = refl

-- words with the byte between two
pub pieces_joined : (s : ℕ) (words : List (List ℕ)) → AreLacking s words → words ≢ []
    → pieces s (join_of s words) ≡ words
pieces_joined s [] lacks some = absurd (some refl)
pieces_joined s (x ∷ []) lacks some = pieces_alone s x lacks.0
pieces_joined s (x ∷ y ∷ ys) lacks some =
    pieces_first s x (join_of s (y ∷ ys)) lacks.0 ∙ ap (λ ps. x ∷ ps) (pieces_joined s (y ∷ ys) lacks.1 (λ e. cc))

-- words with the byte ahead of each
pub pieces_slashed : (s : ℕ) (words : List (List ℕ)) → AreLacking s words
    → pieces s (flat_map (λ word. s ∷ word) words) ≡ [] ∷ words
pieces_slashed s [] lacks = refl
pieces_slashed s (x ∷ xs) lacks = rw (true_from_eq s s refl) (ap (λ ps. [] ∷ ps) (after x xs lacks))
  where
    after : (x : List ℕ) (xs : List (List ℕ)) → AreLacking s (x ∷ xs)
        → pieces s (x ++ flat_map (λ word. s ∷ word) xs) ≡ x ∷ xs
    after x [] lacks = ap (pieces s) (append-nil x) ∙ pieces_alone s x lacks.0
    after x (y ∷ ys) lacks = pieces_first s x (y ++ flat_map (λ word. s ∷ word) ys) lacks.0
        ∙ ap (λ ps. x ∷ ps) (after y ys lacks.1)

-- words with the byte after each, and one more
pieces_ended : (s : ℕ) (words : List (List ℕ)) (last : List ℕ) → AreLacking s words → Lacks s last
    → pieces s (flat_map (λ word. word ++ s ∷ []) words ++ last) ≡ words ++ last ∷ []
pieces_ended s [] last lacks lacks_last = pieces_alone s last lacks_last
pieces_ended s (x ∷ xs) last lacks lacks_last =
    ap (pieces s) (append_assoc (x ++ s ∷ []) (flat_map (λ word. word ++ s ∷ []) xs) last
    ∙ append_assoc x (s ∷ []) (flat_map (λ word. word ++ s ∷ []) xs ++ last))
    ∙ (pieces_first s x (flat_map (λ word. word ++ s ∷ []) xs ++ last) lacks.0
    ∙ ap (λ ps. x ∷ ps) (pieces_ended s xs last lacks.1 lacks_last))

-- ---- lines

-- an empty piece at the end is no line
abbrev pub full_pieces : List (List ℕ) → List (List ℕ)
full_pieces [] = []
full_pieces ([] ∷ []) = []
full_pieces ((c ∷ cs) ∷ []) = (c ∷ cs) ∷ []
full_pieces (x ∷ y ∷ ys) = x ∷ full_pieces (y ∷ ys)

full_ended : (lines : List (List ℕ)) → full_pieces (lines ++ [] ∷ []) ≡ lines
full_ended [] = refl
full_ended (x ∷ []) = refl
full_ended (x ∷ y ∷ ys) = ap (λ ls. x ∷ ls) (full_ended (y ∷ ys))

full_last : (front : List (List ℕ)) (last : List ℕ) → last ≢ [] → full_pieces (front ++ last ∷ []) ≡ front ++ last ∷ []
full_last [] [] some = absurd (some refl)
full_last [] (c ∷ cs) some = refl
full_last (x ∷ []) last some = ap (λ ls. x ∷ ls) (full_last [] last some)
full_last (x ∷ y ∷ ys) last some = ap (λ ls. x ∷ ls) (full_last (y ∷ ys) last some)

lacking_front : (s : ℕ) (xs ys : List (List ℕ)) → AreLacking s (xs ++ ys) → AreLacking s xs × AreLacking s ys
lacking_front s [] ys all = (tt, all)
lacking_front s (x ∷ xs) ys all = let rest = lacking_front s xs ys all.1 in ((all.0, rest.0), rest.1)

-- the lines of a script's bytes
pub lines_are : (bytes : List ℕ) (lines : List (List ℕ)) → AreLines bytes lines → lines ≡ full_pieces (pieces 10 bytes)
lines_are bytes lines are = by_end are.whole
  where
    by_end : (bytes ≡ text_of_lines lines) ⊎ ((front : List (List ℕ)) × (last : List ℕ) × (last ≢ [])
        × (lines ≡ front ++ last ∷ []) × (bytes ≡ text_of_lines front ++ last)) → lines ≡ full_pieces (pieces 10 bytes)
    by_end (inl ended) =
        sym (ap (λ bs. full_pieces (pieces 10 bs)) (ended ∙ sym (append-nil (text_of_lines lines)))
        ∙ (ap full_pieces (pieces_ended 10 lines [] (lacking_from 10 lines are.plain) tt) ∙ full_ended lines))
    by_end (inr (front, last, some, is, whole)) =
        let lacks = lacking_front 10 front (last ∷ []) (subst (AreLacking 10) is (lacking_from 10 lines are.plain)) in
        is ∙ sym (ap (λ bs. full_pieces (pieces 10 bs)) whole
        ∙ (ap full_pieces (pieces_ended 10 front last lacks.0 lacks.1.0) ∙ full_last front last some))

pub lines_one : (bytes : List ℕ) (lines others : List (List ℕ)) → AreLines bytes lines → AreLines bytes others
    → lines ≡ others
lines_one bytes lines others are are_others = lines_are bytes lines are ∙ sym (lines_are bytes others are_others)
