-- A script is read in one way, or refused in one way.
use Rattle.std.proofs.Common.{◌≡◌, ℕ, zero, suc, ◌+◌, ◌<◌, List, [], ◌∷◌, ◌++◌, length, arith, refl, sym, subst, ap}
use Rattle.std.proofs.Common.{◌∙◌, inl, inr, get_or}
use Rattle.std.specs.Prelude.{◌⊎◌, codes, Some, slice_get, IsUtf8}
use Rattle.std.specs.List.{All, Contains}
use Rattle.std.proofs.lemmas.List.Elements.{All-nil, All-cons, All-append, All-contains}
use Rattle.crash_model.specs.Script.{AreLines, Line, Skipped, Start, Says, Reads, AreSteps, IsScript}
use Rattle.crash_model.specs.ScriptRefusals.{AreAccepted, IsFirstRefused, IsBadLine, IsBadPath, IsScriptRefusal}
use Rattle.crash_model.specs.declared.refusals.ScriptFault.{ScriptFault}
use Rattle.crash_model.specs.declared.refusals.ScriptFault.TheVariants.{BadUtf8, BadLine, BadPath, NoStart, OutOfMemory}
use Rattle.crash_model.specs.declared.steps.Step.{Step}
use Rattle.uniqueness_laws.proofs.Pieces.{lines_one}
use Rattle.uniqueness_laws.proofs.Readings.{reads_form, reads_paths, reads_one, reads_utf8}

-- ---- a line that says something is not refused

not_bad_path : (line : List ℕ) (what : Line) → Reads line what → ¬ (IsBadPath line)
not_bad_path line what is (text, unskipped, (like, words, form, none)) =
    none (reads_paths line what like words is unskipped form)

-- ---- which of two refused lines comes first

-- the lists part at the same place, or one of the two earlier
data Parts {X : Type 0} (xs ys : List X) (x y : X) : Type 0 where
  Same : xs ≡ ys → x ≡ y → Parts xs ys x y
  Earlier : (more : List X) → ys ≡ xs ++ x ∷ more → Parts xs ys x y
  Later : (more : List X) → xs ≡ ys ++ y ∷ more → Parts xs ys x y

parts_at : {X : Type 0} (xs ys us vs : List X) (x y : X) → xs ++ x ∷ us ≡ ys ++ y ∷ vs → Parts xs ys x y
parts_at [] [] us vs x y e = Same refl cc
parts_at [] (b ∷ ys) us vs x y e = Earlier ys (let head : b ≡ x = cc in ap (λ z. z ∷ ys) head)
parts_at (a ∷ xs) [] us vs x y e = Later xs (let head : a ≡ y = cc in ap (λ z. z ∷ xs) head)
parts_at (a ∷ xs) (b ∷ ys) us vs x y e =
    let head : a ≡ b = cc in
    let tail : xs ++ x ∷ us ≡ ys ++ y ∷ vs = cc in
    elim (parts_at xs ys us vs x y tail) [
      | Same rest same ↦ Same (cc (head, rest)) same
      | Earlier more rest ↦ Earlier more (cc (head, rest))
      | Later more rest ↦ Later more (cc (head, rest))
    ]

tail_same : {X : Type 0} (x y : X) (xs ys us vs : List X) → xs ≡ ys → xs ++ x ∷ us ≡ ys ++ y ∷ vs → us ≡ vs
tail_same x y [] [] us vs same e = cc
tail_same x y [] (b ∷ ys) us vs same e = cc
tail_same x y (a ∷ xs) [] us vs same e = cc
tail_same x y (a ∷ xs) (b ∷ ys) us vs same e = tail_same x y xs ys us vs (tails same) (tails e)
  where
    tails : {X : Type 0} {p q : X} {ps qs : List X} → p ∷ ps ≡ q ∷ qs → ps ≡ qs
    tails h = cc

pub in_middle : {X : Type 0} (xs : List X) (x : X) (ys : List X) → Contains (xs ++ x ∷ ys) x
in_middle [] x ys = (zero, omega arith, refl)
in_middle (a ∷ xs) x ys = let it = in_middle xs x ys in (suc it.0, omega (arith, it.1), it.2)

pub get_middle : {X : Type 0} (xs : List X) (x : X) (ys : List X) → slice_get (xs ++ x ∷ ys) (length xs) ≡ Some x
get_middle [] x ys = refl
get_middle (a ∷ xs) x ys = get_middle xs x ys

pub get_front : {X : Type 0} (xs ys : List X) (k : ℕ) (x : X) → k < length xs → get_or xs k x ≡ x
    → slice_get (xs ++ ys) k ≡ Some x
get_front [] ys k x below e = absurd (omega arith)
get_front (a ∷ xs) ys zero x below e = ap Some e
get_front (a ∷ xs) ys (suc k) x below e = get_front xs ys k x (omega arith) e

-- refused, in one of three ways
abbrev pub IsRefusedLine : List (List ℕ) → List ℕ → Type 0
IsRefusedLine before line = (¬ (IsUtf8 line)) ⊎ (IsBadLine before line ⊎ IsBadPath line)

-- no line among accepted ones is refused
none_refused : (before : List (List ℕ)) (line : List ℕ) (more : List (List ℕ)) → AreAccepted (before ++ line ∷ more)
    → IsRefusedLine before line → ⊥
none_refused before line more accepted refused =
    let says = All-contains (λ line. (says : Line) × Reads line says) (before ++ line ∷ more) line accepted.each
    (in_middle before line more) in
    by_kind says.0 says.1 refused
  where
    by_kind : (what : Line) → Reads line what → IsRefusedLine before line → ⊥
    by_kind what is (inl not_text) = not_text (reads_utf8 line what is)
    by_kind what is (inr (inl (inl bad))) = let form = reads_form line what is bad.1 bad.2 in
        (bad.3 form.0 form.1 form.2).1 form.3
    by_kind what is (inr (inl (inr second))) =
        let first = second.1 in
        let at_line : slice_get (before ++ line ∷ more) (length before) ≡ Some (codes "start") =
        get_middle before line more ∙ ap Some second.0 in
        let at_first : slice_get (before ++ line ∷ more) first.0 ≡ Some (codes "start") =
        get_front before (line ∷ more) first.0 (codes "start") first.1 first.2 in
        let same : first.0 ≡ length before = accepted.one_start first.0 (length before) at_first at_line in
        omega (arith, first.1, same)
    by_kind what is (inr (inr bad)) = not_bad_path line what is bad

-- ---- one reading

-- no act and no comment is the start line
pub no_start : (n : ℕ) (lines : List (List ℕ)) (steps : List Step) → AreSteps n lines steps
    → Contains lines (codes "start") → ⊥
no_start n [] steps are is = omega (arith, is.1)
no_start n (line ∷ lines) steps (inl skipped) (zero, within, is) = let one : Skipped ≡ Start =
    reads_one line Skipped Start skipped.0 is in cc
no_start n (line ∷ lines) steps (inr act) (zero, within, is) = let one : Says act.0 ≡ Start =
    reads_one line (Says act.0) Start act.2 is in cc
no_start n (line ∷ lines) steps (inl skipped) (suc k, within, is) =
    no_start (n + 1) lines steps skipped.1 (k, omega arith, is)
no_start n (line ∷ lines) steps (inr act) (suc k, within, is) = no_start (n + 1) lines act.1 act.3 (k, omega arith, is)

steps_one : (n : ℕ) (lines : List (List ℕ)) (steps others : List Step) → AreSteps n lines steps
    → AreSteps n lines others → steps ≡ others
steps_one n [] steps others are are_others = are ∙ sym are_others
steps_one n (line ∷ lines) steps others (inl skipped) (inl also) = steps_one (n + 1) lines steps others skipped.1 also.1
steps_one n (line ∷ lines) steps others (inl skipped) (inr act) = let one : Skipped ≡ Says act.0 =
    reads_one line Skipped (Says act.0) skipped.0 act.2 in cc
steps_one n (line ∷ lines) steps others (inr act) (inl skipped) = let one : Skipped ≡ Says act.0 =
    reads_one line Skipped (Says act.0) skipped.0 act.2 in cc
steps_one n (line ∷ lines) steps others (inr act) (inr also) =
    let one : Says act.0 ≡ Says also.0 = reads_one line (Says act.0) (Says also.0) act.2 also.2 in
    let same : act.0 ≡ also.0 = cc in
    let rest : act.1 ≡ also.1 = steps_one (n + 1) lines act.1 also.1 act.3 also.3 in
    act.4 ∙ (ap (λ a. record { line = n; act = a } ∷ act.1) same
    ∙ (ap (λ r. record { line = n; act = also.0 } ∷ r) rest ∙ sym also.4))

-- the lines of a script are accepted
pub each_reads : (n : ℕ) (lines : List (List ℕ)) (steps : List Step) → AreSteps n lines steps
    → All (λ line. (says : Line) × Reads line says) lines
each_reads n [] steps are = All-nil (λ line. (says : Line) × Reads line says)
each_reads n (line ∷ lines) steps (inl skipped) = All-cons (λ line. (says : Line) × Reads line says) line lines
    (Skipped, skipped.0) (each_reads (n + 1) lines steps skipped.1)
each_reads n (line ∷ lines) steps (inr act) = All-cons (λ line. (says : Line) × Reads line says) line lines
    (Says act.0, act.2) (each_reads (n + 1) lines act.1 act.3)

pub get_contains : (xs : List (List ℕ)) (k : ℕ) (x : List ℕ) → slice_get xs k ≡ Some x → Contains xs x
get_contains [] k x e = cc
get_contains (y ∷ xs) zero x e = (zero, omega arith, (let same : y ≡ x = cc in same))
get_contains (y ∷ xs) (suc k) x e = let it = get_contains xs k x e in (suc it.0, omega (arith, it.1), it.2)

-- the one start line comes after the base
start_place : (n m : ℕ) (before after : List (List ℕ)) (base traced : List Step) → AreSteps n before base
    → AreSteps m after traced
    → (i : ℕ) → slice_get (before ++ codes "start" ∷ after) i ≡ Some (codes "start") → i ≡ length before
start_place n m [] after base traced first second zero e = refl
start_place n m [] after base traced first second (suc i) e =
    absurd (no_start m after traced second (get_contains after i (codes "start") e))
start_place n m (line ∷ before) after base traced first second zero e =
    absurd (no_start n (line ∷ before) base first (zero, omega arith, (let same : line ≡ codes "start" = cc in same)))
start_place n m (line ∷ before) after base traced (inl skipped) second (suc i) e =
    ap suc (start_place (n + 1) m before after base traced skipped.1 second i e)
start_place n m (line ∷ before) after base traced (inr act) second (suc i) e =
    ap suc (start_place (n + 1) m before after act.1 traced act.3 second i e)

pub steps_accepted : (n m : ℕ) (before after : List (List ℕ)) (base traced : List Step) → AreSteps n before base
    → AreSteps m after traced
    → AreAccepted (before ++ codes "start" ∷ after)
steps_accepted n m before after base traced first second = record {
  each = All-append (λ line. (says : Line) × Reads line says) before (codes "start" ∷ after)
      (each_reads n before base first)
      (All-cons (λ line. (says : Line) × Reads line says) (codes "start") after (Start, refl)
      (each_reads m after traced second));
  one_start = λ i j at_i at_j. start_place n m before after base traced first second i at_i
      ∙ sym (start_place n m before after base traced first second j at_j);
}

script_accepted : (bytes : List ℕ) (base traced : List Step) (script : IsScript bytes base traced)
    → AreAccepted (script.before ++ codes "start" ∷ script.after)
script_accepted bytes base traced script =
    steps_accepted 1 (length script.before + 2) script.before script.after base traced script.base_steps
    script.traced_steps

pub script_one : (bytes : List ℕ) (base traced others more : List Step) → IsScript bytes base traced
    → IsScript bytes others more → (base ≡ others) × (traced ≡ more)
script_one bytes base traced others more script other =
    by_parts (parts_at script.before other.before script.after other.after (codes "start") (codes "start") same)
  where
    same : script.before ++ codes "start" ∷ script.after ≡ other.before ++ codes "start" ∷ other.after
    same = lines_one bytes (script.before ++ codes "start" ∷ script.after)
        (other.before ++ codes "start" ∷ other.after) script.lines other.lines

    by_parts : Parts script.before other.before (codes "start") (codes "start") → (base ≡ others) × (traced ≡ more)
    by_parts (Same e s) =
        let tails : script.after ≡ other.after = tail_same (codes "start") (codes "start") script.before other.before
        script.after other.after e same in (
          steps_one 1 other.before base others (subst (λ ls. AreSteps 1 ls base) e script.base_steps) other.base_steps,
          steps_one (length other.before + 2) other.after traced more
              (subst (λ ls. AreSteps (length other.before + 2) ls traced) tails
              (subst (λ ls. AreSteps (length ls + 2) script.after traced) e script.traced_steps))
              other.traced_steps,
        )
    by_parts (Earlier ms e) = absurd (no_start 1 other.before others other.base_steps
        (subst (λ ls. Contains ls (codes "start")) (sym e) (in_middle script.before (codes "start") ms)))
    by_parts (Later ms e) = absurd (no_start 1 script.before base script.base_steps
        (subst (λ ls. Contains ls (codes "start")) (sym e) (in_middle other.before (codes "start") ms)))

-- ---- one refusal

-- the three ways exclude one another
way_one : (before : List (List ℕ)) (line : List ℕ) → ¬ (IsUtf8 line) → IsBadLine before line ⊎ IsBadPath line → ⊥
way_one before line not_text (inl (inl bad)) = not_text bad.0
way_one before line not_text (inl (inr second)) = not_text (reads_utf8 line Start second.0)
way_one before line not_text (inr bad) = not_text bad.0

line_or_path : (before : List (List ℕ)) (line : List ℕ) → IsBadLine before line → IsBadPath line → ⊥
line_or_path before line (inl bad) path = path.2.3 (bad.3 path.2.0 path.2.1 path.2.2).0
line_or_path before line (inr second) path = not_bad_path line Start second.0 path

-- two first refused lines are the same line
module _ (bytes : List ℕ) (n m : ℕ) (P Q : List (List ℕ) → List ℕ → Type 0)
    (bad : (before : List (List ℕ)) (line : List ℕ) → P before line → IsRefusedLine before line)
    (bad_too : (before : List (List ℕ)) (line : List ℕ) → Q before line → IsRefusedLine before line)
    (first : IsFirstRefused bytes n P) (other : IsFirstRefused bytes m Q) where
  same_line : (first.before ≡ other.before) × (first.line ≡ other.line)
  same_line = by_parts (parts_at first.before other.before first.after other.after first.line other.line
      (lines_one bytes (first.before ++ first.line ∷ first.after) (other.before ++ other.line ∷ other.after)
      first.lines other.lines))
    where
      by_parts : Parts first.before other.before first.line other.line → (first.before ≡ other.before)
          × (first.line ≡ other.line)
      by_parts (Same e s) = (e, s)
      by_parts (Earlier more e) = absurd (none_refused first.before first.line more (subst AreAccepted e other.accepted)
          (bad first.before first.line first.refused))
      by_parts (Later more e) = absurd (none_refused other.before other.line more (subst AreAccepted e first.accepted)
          (bad_too other.before other.line other.refused))

  same_number : n ≡ m
  same_number = first.number ∙ (ap (λ (ls : List (List ℕ)). length ls + 1) same_line.0 ∙ sym other.number)

  -- and it is refused in both ways
  both_ways : P other.before other.line
  both_ways = subst (λ l. P other.before l) same_line.1 (subst (λ ls. P ls first.line) same_line.0 first.refused)

bad_utf8 : (before : List (List ℕ)) (line : List ℕ) → ¬ (IsUtf8 line) → IsRefusedLine before line
bad_utf8 before line is = inl is

bad_line : (before : List (List ℕ)) (line : List ℕ) → IsBadLine before line → IsRefusedLine before line
bad_line before line is = inr (inl is)

bad_path : (before : List (List ℕ)) (line : List ℕ) → IsBadPath line → IsRefusedLine before line
bad_path before line is = inr (inr is)

-- accepted lines and a refused one are not of the same bytes
accepted_not_refused : (bytes : List ℕ) (n : ℕ) (P : List (List ℕ) → List ℕ → Type 0) (lines : List (List ℕ))
    → ((before : List (List ℕ)) (line : List ℕ) → P before line → IsRefusedLine before line)
    → AreLines bytes lines → AreAccepted lines → IsFirstRefused bytes n P → ⊥
accepted_not_refused bytes n P lines bad are accepted first =
    none_refused first.before first.line first.after
    (subst AreAccepted (lines_one bytes lines (first.before ++ first.line ∷ first.after) are first.lines) accepted)
    (bad first.before first.line first.refused)

pub refusal_one : (bytes : List ℕ) (fault other : ScriptFault) → IsScriptRefusal bytes fault
    → IsScriptRefusal bytes other → fault ≡ other
refusal_one bytes (BadUtf8 n) (BadUtf8 m) is also = ap BadUtf8 (same_number bytes n m _ _ bad_utf8 bad_utf8 is also)
refusal_one bytes (BadUtf8 n) (BadLine m) is also = absurd
    (way_one also.before also.line (both_ways bytes n m _ _ bad_utf8 bad_line is also) (inl also.refused))
refusal_one bytes (BadUtf8 n) (BadPath m) is also = absurd
    (way_one [] also.line (both_ways bytes n m _ _ bad_utf8 bad_path is also) (inr also.refused))
refusal_one bytes (BadUtf8 n) (NoStart m) is also = absurd
    (accepted_not_refused bytes n _ also.0 bad_utf8 also.1 also.2 is)
refusal_one bytes (BadUtf8 n) OutOfMemory is also = absurd also
refusal_one bytes (BadLine n) (BadUtf8 m) is also = absurd
    (way_one is.before is.line (both_ways bytes m n _ _ bad_utf8 bad_line also is) (inl is.refused))
refusal_one bytes (BadLine n) (BadLine m) is also = ap BadLine (same_number bytes n m _ _ bad_line bad_line is also)
refusal_one bytes (BadLine n) (BadPath m) is also = absurd
    (line_or_path _ _ (both_ways bytes n m _ _ bad_line bad_path is also) also.refused)
refusal_one bytes (BadLine n) (NoStart m) is also = absurd
    (accepted_not_refused bytes n _ also.0 bad_line also.1 also.2 is)
refusal_one bytes (BadLine n) OutOfMemory is also = absurd also
refusal_one bytes (BadPath n) (BadUtf8 m) is also = absurd
    (way_one [] is.line (both_ways bytes m n _ _ bad_utf8 bad_path also is) (inr is.refused))
refusal_one bytes (BadPath n) (BadLine m) is also = absurd
    (line_or_path _ _ (both_ways bytes m n _ _ bad_line bad_path also is) is.refused)
refusal_one bytes (BadPath n) (BadPath m) is also = ap BadPath (same_number bytes n m _ _ bad_path bad_path is also)
refusal_one bytes (BadPath n) (NoStart m) is also = absurd
    (accepted_not_refused bytes n _ also.0 bad_path also.1 also.2 is)
refusal_one bytes (BadPath n) OutOfMemory is also = absurd also
refusal_one bytes (NoStart n) (BadUtf8 m) is also = absurd (accepted_not_refused bytes m _ is.0 bad_utf8 is.1 is.2 also)
refusal_one bytes (NoStart n) (BadLine m) is also = absurd (accepted_not_refused bytes m _ is.0 bad_line is.1 is.2 also)
refusal_one bytes (NoStart n) (BadPath m) is also = absurd (accepted_not_refused bytes m _ is.0 bad_path is.1 is.2 also)
refusal_one bytes (NoStart n) (NoStart m) is also =
    ap NoStart (is.4 ∙ (ap (λ (ls : List (List ℕ)). length ls + 1) (lines_one bytes is.0 also.0 is.1 also.1)
    ∙ sym also.4))
refusal_one bytes (NoStart n) OutOfMemory is also = absurd also
refusal_one bytes OutOfMemory other is also = absurd is

pub read_or_refused : (bytes : List ℕ) (base traced : List Step) (fault : ScriptFault) → IsScript bytes base traced
    → IsScriptRefusal bytes fault → ⊥
read_or_refused bytes base traced (BadUtf8 n) script is =
    accepted_not_refused bytes n _ (script.before ++ codes "start" ∷ script.after) bad_utf8 script.lines
    (script_accepted bytes base traced script) is
read_or_refused bytes base traced (BadLine n) script is =
    accepted_not_refused bytes n _ (script.before ++ codes "start" ∷ script.after) bad_line script.lines
    (script_accepted bytes base traced script) is
read_or_refused bytes base traced (BadPath n) script is =
    accepted_not_refused bytes n _ (script.before ++ codes "start" ∷ script.after) bad_path script.lines
    (script_accepted bytes base traced script) is
read_or_refused bytes base traced (NoStart n) script is =
    is.3 (subst (λ ls. Contains ls (codes "start")) (lines_one bytes (script.before ++ codes "start" ∷ script.after)
    is.0 script.lines is.1) (in_middle script.before (codes "start") script.after))
read_or_refused bytes base traced OutOfMemory script is = is
