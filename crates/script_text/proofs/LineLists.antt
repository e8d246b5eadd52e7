-- The lines of bytes.
use Rattle.std.proofs.Common.{◌≡◌, ◌≢◌, ℕ, ◌<◌, ◌⊎◌, inl, inr, Bool, true, false, eqb, cond, List, [], ◌∷◌, ◌++◌}
use Rattle.std.proofs.Common.{length, refl, sym, ap, ◌∙◌, subst, arith, append_assoc, length-append}
use Rattle.std.specs.List.{Contains}
use Rattle.std.proofs.lemmas.Bool.Decides.{nat_tests}
use Rattle.std.proofs.lemmas.List.Elements.{All-head, All-tail, All-nil, All-cons}
use Rattle.crash_model.specs.Script.{AreLines, ArePlain, text_of_lines}
use Rattle.crash_model.proofs.Cuts.{Lacks}
use Rattle.script_text.specs.Lines.{IsFirstLine, lines_of, before_lines}
use Rattle.script_text.proofs.Cuts.{lacks_none, none_lacks}

differs : (c : ℕ) → c ≢ 10 → eqb c 10 ≡ false
differs c other = grind (arith, nat_tests)

lines_of-cons : (c : ℕ) (cs : List ℕ) → c ≢ 10 → lines_of (c ∷ cs) ≡ before_lines c (lines_of cs)
lines_of-cons c cs other = ap (λ (test : Bool). cond test ([] ∷ lines_of cs) (before_lines c (lines_of cs)))
    (differs c other)

-- a line with its line feed
lines_of-line : (line rest : List ℕ) → Lacks 10 line → lines_of (line ++ (10 ∷ rest)) ≡ line ∷ lines_of rest
lines_of-line [] rest lacks = refl
lines_of-line (c ∷ cs) rest lacks = lines_of-cons c (cs ++ (10 ∷ rest)) lacks.0
    ∙ ap (before_lines c) (lines_of-line cs rest lacks.1)

-- a last line without one
lines_of-last : (c : ℕ) (cs : List ℕ) → Lacks 10 (c ∷ cs) → lines_of (c ∷ cs) ≡ (c ∷ cs) ∷ []
lines_of-last c [] lacks = lines_of-cons c [] lacks.0
lines_of-last c (d ∷ ds) lacks = lines_of-cons c (d ∷ ds) lacks.0 ∙ ap (before_lines c) (lines_of-last d ds lacks.1)

pub lines_of-first : (bytes line rest : List ℕ) → bytes ≢ [] → IsFirstLine bytes line rest
    → lines_of bytes ≡ line ∷ lines_of rest
lines_of-first bytes line rest some first = by_end first.whole
  where
    last : (ls : List ℕ) → Lacks 10 ls → ls ≢ [] → lines_of ls ≡ ls ∷ []
    last [] lacks some' = absurd (some' refl)
    last (c ∷ cs) lacks some' = lines_of-last c cs lacks

    by_end : (bytes ≡ line ++ (10 ∷ rest)) ⊎ ((bytes ≡ line) × (rest ≡ [])) → lines_of bytes ≡ line ∷ lines_of rest
    by_end (inl fed) = ap lines_of fed ∙ lines_of-line line rest (none_lacks 10 line first.plain)
    by_end (inr ends) =
        ap lines_of ends.0 ∙ (last line (none_lacks 10 line first.plain) (λ e. some (ends.0 ∙ e))
        ∙ ap (λ (r : List ℕ). line ∷ lines_of r) (sym ends.1))

pub first_line_shorter : (bytes line rest : List ℕ) → bytes ≢ [] → IsFirstLine bytes line rest
    → length rest < length bytes
first_line_shorter bytes line rest some first = by_end first.whole
  where
    not_empty : (bs : List ℕ) → bs ≢ [] → length rest ≡ 0 → length rest < length bs
    not_empty [] some' none = absurd (some' refl)
    not_empty (b ∷ bs) some' none = omega arith

    by_end : (bytes ≡ line ++ (10 ∷ rest)) ⊎ ((bytes ≡ line) × (rest ≡ [])) → length rest < length bytes
    by_end (inl fed) = let lengths = ap length fed ∙ length-append line (10 ∷ rest) in omega arith
    by_end (inr ends) = not_empty bytes some (ap length ends.1)

-- ---- each list of bytes has one list of lines

spelt_lines : (lines : List (List ℕ)) → ArePlain lines → lines_of (text_of_lines lines) ≡ lines
spelt_lines [] plain = refl
spelt_lines (line ∷ lines) plain =
    ap lines_of (append_assoc line (10 ∷ []) (text_of_lines lines))
    ∙ (lines_of-line line (text_of_lines lines) (none_lacks 10 line
    (All-head (λ line. ¬ (Contains line 10)) line lines plain))
    ∙ ap (λ (ls : List (List ℕ)). line ∷ ls) (spelt_lines lines
    (All-tail (λ line. ¬ (Contains line 10)) line lines plain)))

spelt_last : (front : List (List ℕ)) (last : List ℕ) → last ≢ [] → ArePlain (front ++ last ∷ [])
    → lines_of (text_of_lines front ++ last) ≡ front ++ last ∷ []
spelt_last [] [] some plain = absurd (some refl)
spelt_last [] (c ∷ cs) some plain = lines_of-last c cs
    (none_lacks 10 (c ∷ cs) (All-head (λ line. ¬ (Contains line 10)) (c ∷ cs) [] plain))
spelt_last (line ∷ lines) last some plain =
    ap lines_of (append_assoc (line ++ 10 ∷ []) (text_of_lines lines) last
    ∙ append_assoc line (10 ∷ []) (text_of_lines lines ++ last))
    ∙ (lines_of-line line (text_of_lines lines ++ last) (none_lacks 10 line
    (All-head (λ line. ¬ (Contains line 10)) line (lines ++ last ∷ []) plain))
    ∙ ap (λ (ls : List (List ℕ)). line ∷ ls) (spelt_last lines last some
    (All-tail (λ line. ¬ (Contains line 10)) line (lines ++ last ∷ []) plain)))

pub lines_are : (bytes : List ℕ) (lines : List (List ℕ)) → AreLines bytes lines → lines ≡ lines_of bytes
lines_are bytes lines are = by_end are.whole
  where
    by_end : (bytes ≡ text_of_lines lines) ⊎ ((front : List (List ℕ)) × (last : List ℕ) × (last ≢ [])
        × (lines ≡ front ++ last ∷ []) × (bytes ≡ text_of_lines front ++ last)) → lines ≡ lines_of bytes
    by_end (inl all) = sym (ap lines_of all ∙ spelt_lines lines are.plain)
    by_end (inr (front, last, some, split, whole)) =
        split ∙ sym (ap lines_of whole ∙ spelt_last front last some (subst ArePlain split are.plain))

-- ---- they are its lines

are_lines-feed : (cs : List ℕ) (lines : List (List ℕ)) → AreLines cs lines → AreLines (10 ∷ cs) ([] ∷ lines)
are_lines-feed cs lines are = record {
  plain = All-cons (λ line. ¬ (Contains line 10)) [] lines (lacks_none 10 [] tt) are.plain;
  whole = by_end are.whole;
}
  where
    by_end : (cs ≡ text_of_lines lines) ⊎ ((front : List (List ℕ)) × (last : List ℕ) × (last ≢ [])
        × (lines ≡ front ++ last ∷ []) × (cs ≡ text_of_lines front ++ last))
        → (10 ∷ cs ≡ text_of_lines ([] ∷ lines)) ⊎ ((front : List (List ℕ)) × (last : List ℕ) × (last ≢ [])
        × ([] ∷ lines ≡ front ++ last ∷ []) × (10 ∷ cs ≡ text_of_lines front ++ last))
    by_end (inl all) = inl (ap (λ (t : List ℕ). 10 ∷ t) all)
    by_end (inr (front, last, some, split, whole)) = inr (
      [] ∷ front,
      last,
      some,
      ap (λ (ls : List (List ℕ)). [] ∷ ls) split,
      ap (λ (t : List ℕ). 10 ∷ t) whole,
    )

are_lines-byte : (c : ℕ) (cs : List ℕ) (lines : List (List ℕ)) → c ≢ 10 → AreLines cs lines
    → AreLines (c ∷ cs) (before_lines c lines)
are_lines-byte c cs [] other are = by_end are.whole
  where
    alone : cs ≡ [] → AreLines (c ∷ cs) ((c ∷ []) ∷ [])
    alone none = record {
      plain = All-cons (λ line. ¬ (Contains line 10)) (c ∷ []) [] (lacks_none 10 (c ∷ []) (other, tt))
          (All-nil (λ line. ¬ (Contains line 10)));
      whole = inr ([], c ∷ [], (λ e. cc), refl, ap (λ (t : List ℕ). c ∷ t) none);
    }

    by_end : (cs ≡ []) ⊎ ((front : List (List ℕ)) × (last : List ℕ) × (last ≢ []) × ([] ≡ front ++ last ∷ [])
        × (cs ≡ text_of_lines front ++ last)) → AreLines (c ∷ cs) ((c ∷ []) ∷ [])
    by_end (inl none) = alone none
    by_end (inr ([], last, some, split, whole)) = cc
    by_end (inr (f ∷ fs, last, some, split, whole)) = cc
are_lines-byte c cs (line ∷ lines) other are = record {
  plain = All-cons (λ line. ¬ (Contains line 10)) (c ∷ line) lines
      (lacks_none 10 (c ∷ line) (
        other,
        none_lacks 10 line
            (All-head (λ line. ¬ (Contains line 10)) line lines are.plain),
      ))
      (All-tail (λ line. ¬ (Contains line 10)) line lines are.plain);
  whole = by_end are.whole;
}
  where
    by_end : (cs ≡ text_of_lines (line ∷ lines)) ⊎ ((front : List (List ℕ)) × (last : List ℕ) × (last ≢ [])
        × (line ∷ lines ≡ front ++ last ∷ []) × (cs ≡ text_of_lines front ++ last))
        → (c ∷ cs ≡ text_of_lines ((c ∷ line) ∷ lines)) ⊎ ((front : List (List ℕ)) × (last : List ℕ) × (last ≢ [])
        × ((c ∷ line) ∷ lines ≡ front ++ last ∷ []) × (c ∷ cs ≡ text_of_lines front ++ last))
    by_end (inl all) = inl (ap (λ (t : List ℕ). c ∷ t) all)
    by_end (inr ([], last, some, split, whole)) =
        let heads : line ≡ last = cc in
        let tails : lines ≡ [] = cc in
        inr ([], c ∷ last, (λ e. cc), cc, ap (λ (t : List ℕ). c ∷ t) whole)
    by_end (inr (f ∷ fs, last, some, split, whole)) =
        let heads : line ≡ f = cc in
        let tails : lines ≡ fs ++ last ∷ [] = cc in
        inr ((c ∷ f) ∷ fs, last, some, cc, ap (λ (t : List ℕ). c ∷ t) whole)

pub are_lines : (bytes : List ℕ) → AreLines bytes (lines_of bytes)
are_lines [] = record { plain = All-nil (λ line. ¬ (Contains line 10)); whole = inl refl }
are_lines (c ∷ cs) = by_test (are_lines cs) (eqb c 10) refl
  where
    is_feed : (b : ℕ) → eqb b 10 ≡ true → b ≡ 10
    is_feed b e = grind (arith, nat_tests)

    no_feed : (b : ℕ) → eqb b 10 ≡ false → b ≢ 10
    no_feed b e same = grind (arith, nat_tests)

    by_test : AreLines cs (lines_of cs) → (test : Bool) → eqb c 10 ≡ test
        → AreLines (c ∷ cs) (cond test ([] ∷ lines_of cs) (before_lines c (lines_of cs)))
    by_test rest true is = subst (λ (b : ℕ). AreLines (b ∷ cs) ([] ∷ lines_of cs)) (sym (is_feed c is))
        (are_lines-feed cs (lines_of cs) rest)
    by_test rest false is = are_lines-byte c cs (lines_of cs) (no_feed c is) rest
