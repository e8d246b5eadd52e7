-- What a line says, computed from its words: a line says at most one thing.
use Rattle.std.proofs.Common.{◌≡◌, ◌≢◌, ℕ, zero, suc, ◌<◌, List, [], ◌∷◌, ◌++◌, length, map}
use Rattle.std.proofs.Common.{Bool, true, false, ◌&&◌, nat_lt, nat_le}
use Rattle.std.proofs.Common.{arith, refl, sym, subst, ap, ◌∙◌, inl, inr}
use Rattle.std.specs.Prelude.{◌==◌, if◌then◌else◌, flat_map, codes, Option, Some, None, bytes_eq, IsUtf8}
use Rattle.std.specs.Str.{IsAscii}
use Rattle.std.specs.List.{All, Contains, list_all}
use Rattle.std.proofs.lemmas.Bool.{and_parts, ltb-true, lt-ltb, le-leb}
use Rattle.std.proofs.lemmas.Bool.Decides.{nat_tests}
use Rattle.std.proofs.lemmas.List.Elements.{All-head, All-tail, All-nil, All-cons}
use Rattle.std.proofs.lemmas.Str.{IsUtf8-from_ascii}
use Rattle.crash_model.proofs.Cuts.{Lacks}
use Rattle.crash_model.specs.Lists.{join_of}
use Rattle.crash_model.specs.Names.{IsName, IsGroupName, is_name_byte, is_group_byte}
use Rattle.crash_model.specs.Script.{said, Operand, PathOperand, TargetOperand, PathsOperand, GroupOperand, SlotOperand}
use Rattle.crash_model.specs.Script.{operand_words, AreLawful, Line, Skipped, Start, Says, words_of, IsAct, IsSkipped}
use Rattle.crash_model.specs.Script.{Reads}
use Rattle.crash_model.specs.PathTexts.{IsPath, IsPathWord, path_text}
use Rattle.crash_model.specs.Targets.{target_text, IsTarget, IsTargetWord}
use Rattle.crash_model.specs.ScriptRefusals.{Fits, HasPaths, HasSlots, HasBadSlot, HasForm}
use Rattle.crash_model.specs.Slots.{slot_text}
use Rattle.crash_model.specs.declared.operations.Slot.{Slot}
use Rattle.crash_model.specs.declared.operations.Slot.TheVariants.{Zero, One, Two, Three}
use Rattle.crash_model.specs.declared.operations.Op.TheVariants.{Create, Write, Link, Unlink, Rename, Mkdir, Rmdir}
use Rattle.crash_model.specs.declared.operations.Op.TheVariants.{Overwrite, Truncate, Replace}
use Rattle.crash_model.specs.declared.names.Path.{Path}
use Rattle.crash_model.specs.declared.steps.Act.{Act}
use Rattle.crash_model.specs.declared.steps.Act.TheVariants.{Do, Group, End, Depend, Sync, Fsync, Keep, Hold, Spare}
use Rattle.crash_model.specs.declared.steps.Target.{Target}
use Rattle.crash_model.specs.declared.steps.Target.TheVariants.{Root, At}
use Rattle.uniqueness_laws.specs.Words.{is_word}
use Rattle.uniqueness_laws.proofs.Pieces.{onto, pieces, AreLacking, lacking_from, pieces_lack, joined_pieces}
use Rattle.uniqueness_laws.proofs.Pieces.{pieces_joined}
use Rattle.uniqueness_laws.proofs.Acts.{both, word_is, name_lacks, names_are, act_of, act_is, like_of, sampled}
use Rattle.uniqueness_laws.proofs.Acts.{paths_alike, slots_alike}

-- ---- words

path_lacks : (path : Path) → IsPath path → Lacks 32 (path_text path)
path_lacks path is = slashed_lacks (path.through.items ++ path.last ∷ []) (names_are path is)
  where
    append_lacks : (s : ℕ) (xs ys : List ℕ) → Lacks s xs → Lacks s ys → Lacks s (xs ++ ys)
    append_lacks s [] ys lacks more = more
    append_lacks s (x ∷ xs) ys lacks more = (lacks.0, append_lacks s xs ys lacks.1 more)

    slashed_lacks : (names : List (List ℕ)) → All IsName names → Lacks 32 (flat_map (λ name. 47 ∷ name) names)
    slashed_lacks [] all = tt
    slashed_lacks (name ∷ names) all = (
      (λ e. omega (arith, e)),
      append_lacks 32 name (flat_map (λ name. 47 ∷ name) names)
          (name_lacks 32 is_name_byte refl name (All-head IsName name names all).plain)
          (slashed_lacks names (All-tail IsName name names all)),
    )

group_lacks : (name : List ℕ) → IsGroupName name → Lacks 32 name
group_lacks name is = name_lacks 32 is_group_byte refl name is.plain

lacks_is : (s : ℕ) (xs : List ℕ) → Lacks s xs → ¬ (Contains xs s)
lacks_is s [] lacks (k, within, is) = omega arith
lacks_is s (x ∷ xs) lacks (zero, within, is) = lacks.0 is
lacks_is s (x ∷ xs) lacks (suc k, within, is) = lacks_is s xs lacks.1 (k, omega arith, is)

-- ---- text

-- each byte is ASCII
abbrev pub Low : List ℕ → Type 0
Low [] = Unit {0}
Low (c ∷ cs) = (c < 128) × Low cs

low_ascii : (xs : List ℕ) → Low xs → IsAscii xs
low_ascii [] low i = omega arith
low_ascii (x ∷ xs) low zero = low.0
low_ascii (x ∷ xs) low (suc i) = low_ascii xs low.1 i

low_append : (xs ys : List ℕ) → Low xs → Low ys → Low (xs ++ ys)
low_append [] ys low more = more
low_append (x ∷ xs) ys low more = (low.0, low_append xs ys low.1 more)

name_low : (c : ℕ) → is_name_byte c ≡ true → c < 128
name_low c e = grind (arith, nat_tests)

group_low : (c : ℕ) → is_group_byte c ≡ true → c < 128
group_low c e = grind (arith, nat_tests)

low_if : (passes : ℕ → Bool) → ((c : ℕ) → passes c ≡ true → c < 128) → (xs : List ℕ) → list_all passes xs ≡ true
    → Low xs
low_if passes below [] e = tt
low_if passes below (x ∷ xs) e = let parts = and_parts (passes x) (list_all passes xs) e in
    (below x parts.0, low_if passes below xs parts.1)

low_text : (xs : List ℕ) → list_all (λ c. nat_lt c 128) xs ≡ true → Low xs
low_text xs e = low_if (λ c. nat_lt c 128) (λ c is. ltb-true c 128 is) xs e

path_low : (path : Path) → IsPath path → Low (path_text path)
path_low path is = slashed_low (path.through.items ++ path.last ∷ []) (names_are path is)
  where
    slashed_low : (names : List (List ℕ)) → All IsName names → Low (flat_map (λ name. 47 ∷ name) names)
    slashed_low [] all = tt
    slashed_low (name ∷ names) all = (
      omega arith,
      low_append name (flat_map (λ name. 47 ∷ name) names)
          (low_if is_name_byte name_low name (All-head IsName name names all).plain)
          (slashed_low names (All-tail IsName name names all)),
    )

low_group : (name : List ℕ) → IsGroupName name → Low name
low_group name is = low_if is_group_byte group_low name is.plain

abbrev AreLow : List (List ℕ) → Type 0
AreLow [] = Unit {0}
AreLow (word ∷ words) = Low word × AreLow words

joined_low : (words : List (List ℕ)) → AreLow words → Low (join_of 32 words)
joined_low [] low = tt
joined_low (word ∷ []) low = low.0
joined_low (word ∷ more ∷ words) low =
    low_append word (32 ∷ join_of 32 (more ∷ words)) low.0 (omega arith, joined_low (more ∷ words) low.1)

-- ---- the words of an act

path_some : (path : Path) → path_text path ≢ []
path_some path e = by_names path.through.items e
  where
    by_names : (items : List (List ℕ)) → flat_map (λ name. 47 ∷ name) (items ++ path.last ∷ []) ≡ [] → ⊥
    by_names [] e = cc
    by_names (x ∷ xs) e = cc

abbrev pub texts : List Operand → List (List ℕ)
texts operands = flat_map operand_words operands

slot_lacks : (slot : Slot) → Lacks 32 (slot_text slot)
slot_lacks Zero = ((λ e. omega (arith, e)), tt)
slot_lacks One = ((λ e. omega (arith, e)), tt)
slot_lacks Two = ((λ e. omega (arith, e)), tt)
slot_lacks Three = ((λ e. omega (arith, e)), tt)

slot_low : (slot : Slot) → Low (slot_text slot)
slot_low Zero = (omega arith, tt)
slot_low One = (omega arith, tt)
slot_low Two = (omega arith, tt)
slot_low Three = (omega arith, tt)

slot_some : (slot : Slot) → slot_text slot ≢ []
slot_some Zero e = cc
slot_some One e = cc
slot_some Two e = cc
slot_some Three e = cc

target_lacks : (target : Target) → IsTarget target → Lacks 32 (target_text target)
target_lacks Root is = ((λ e. omega (arith, e)), tt)
target_lacks (At path) is = path_lacks path is

target_low : (target : Target) → IsTarget target → Low (target_text target)
target_low Root is = (omega arith, tt)
target_low (At path) is = path_low path is

target_some : (target : Target) → target_text target ≢ []
target_some Root e = cc
target_some (At path) e = path_some path e

target_word : (target : Target) → IsTarget target → IsTargetWord (target_text target)
target_word Root is = inl refl
target_word (At path) is = inr (path, is, refl)

-- several paths
paths_lack : (paths : List Path) → All IsPath paths → AreLacking 32 (map path_text paths ++ [])
paths_lack [] all = tt
paths_lack (path ∷ paths) all =
    (path_lacks path (All-head IsPath path paths all), paths_lack paths (All-tail IsPath path paths all))

paths_low : (paths : List Path) → All IsPath paths → AreLow (map path_text paths ++ [])
paths_low [] all = tt
paths_low (path ∷ paths) all =
    (path_low path (All-head IsPath path paths all), paths_low paths (All-tail IsPath path paths all))

paths_some : (paths : List Path) → All (λ word. word ≢ []) (map path_text paths ++ [])
paths_some [] = All-nil (λ word. word ≢ [])
paths_some (path ∷ paths) = All-cons (λ word. word ≢ []) (path_text path) (map path_text paths ++ []) (path_some path)
    (paths_some paths)

path_words : (paths : List Path) → All IsPath paths → All IsPathWord (map path_text paths ++ [])
path_words [] all = All-nil IsPathWord
path_words (path ∷ paths) all = All-cons IsPathWord (path_text path) (map path_text paths ++ [])
    (path, All-head IsPath path paths all, refl) (path_words paths (All-tail IsPath path paths all))

as_many : (paths : List Path) → length (map path_text paths ++ []) ≡ length paths
as_many [] = refl
as_many (path ∷ paths) = ap suc (as_many paths)

no_slots : (paths : List Path) (words : List (List ℕ)) → HasSlots (PathsOperand paths ∷ []) words
no_slots paths [] = tt
no_slots paths (word ∷ words) = tt

-- a slot, which may be left out, is the last operand, and so are several paths
abbrev SlotIsLast : List Operand → Type 0
SlotIsLast [] = Unit {0}
SlotIsLast (PathOperand p ∷ operands) = SlotIsLast operands
SlotIsLast (TargetOperand target ∷ operands) = SlotIsLast operands
SlotIsLast (PathsOperand paths ∷ operands) = operands ≡ []
SlotIsLast (GroupOperand a ∷ operands) = SlotIsLast operands
SlotIsLast (SlotOperand slot ∷ operands) = operands ≡ []

slot_is_last : (act : Act) → SlotIsLast (said act).1
slot_is_last (Do (Create p)) = tt
slot_is_last (Do (Write p)) = tt
slot_is_last (Do (Link p q)) = tt
slot_is_last (Do (Unlink p)) = tt
slot_is_last (Do (Rename p q)) = tt
slot_is_last (Do (Mkdir p)) = tt
slot_is_last (Do (Rmdir p)) = tt
slot_is_last (Do (Overwrite p slot)) = refl
slot_is_last (Do (Truncate p)) = tt
slot_is_last (Do (Replace p q)) = tt
slot_is_last (Group a) = tt
slot_is_last End = tt
slot_is_last (Depend b a) = tt
slot_is_last Sync = tt
slot_is_last (Fsync target) = tt
slot_is_last (Keep paths) = refl
slot_is_last (Hold p) = tt
slot_is_last (Spare p q) = tt

-- what lawful operands say are words of text, which fit and have paths and slots where they belong
record HasWords (operands : List Operand) : Type 0 where
  lacks : AreLacking 32 (texts operands)
  low : AreLow (texts operands)
  fits : Fits operands (texts operands)
  paths : HasPaths operands (texts operands)
  slots : HasSlots operands (texts operands)

has_words : (operands : List Operand) → SlotIsLast operands → AreLawful operands → HasWords operands
has_words [] last are = record { lacks = tt; low = tt; fits = tt; paths = tt; slots = tt }
has_words (SlotOperand None ∷ []) last are = record { lacks = tt; low = tt; fits = tt; paths = tt; slots = tt }
has_words (SlotOperand (Some slot) ∷ []) last are = record {
  lacks = (slot_lacks slot, tt);
  low = (slot_low slot, tt);
  fits = (slot_some slot, tt);
  paths = tt;
  slots = ((slot, refl), tt);
}
has_words (SlotOperand slot ∷ operand ∷ operands) last are = absurd (cc)
has_words (PathsOperand paths ∷ []) last are = record {
  lacks = paths_lack paths are.2;
  low = paths_low paths are.2;
  fits = (omega (arith, as_many paths, are.0), omega (arith, as_many paths, are.1), paths_some paths);
  paths = path_words paths are.2;
  slots = no_slots paths (map path_text paths ++ []);
}
has_words (PathsOperand paths ∷ operand ∷ operands) last are = absurd (cc)
has_words (TargetOperand target ∷ operands) last are =
    let more = has_words operands last are.1 in
    record {
      lacks = (target_lacks target are.0, more.lacks);
      low = (target_low target are.0, more.low);
      fits = (target_some target, more.fits);
      paths = (target_word target are.0, more.paths);
      slots = more.slots;
    }
has_words (PathOperand p ∷ operands) last are =
    let more = has_words operands last are.1 in
    record {
      lacks = (path_lacks p are.0, more.lacks);
      low = (path_low p are.0, more.low);
      fits = (path_some p, more.fits);
      paths = ((p, are.0, refl), more.paths);
      slots = more.slots;
    }
has_words (GroupOperand a ∷ operands) last are =
    let more = has_words operands last are.1 in
    record {
      lacks = (group_lacks a are.0, more.lacks);
      low = (low_group a are.0, more.low);
      fits = (are.0, more.fits);
      paths = more.paths;
      slots = more.slots;
    }

act_words : (act : Act) → IsAct act → HasWords (said act).1
act_words act is = has_words (said act).1 (slot_is_last act) is

words_lack : (act : Act) → IsAct act → AreLacking 32 (words_of act)
words_lack act is = (name_lacks 32 is_name_byte refl (said act).0 (sampled act).3, (act_words act is).lacks)

act_low : (act : Act) → IsAct act → Low (join_of 32 (words_of act))
act_low act is =
    let first = low_if is_name_byte name_low (said act).0 (sampled act).3 in
    joined_low (words_of act) (first, (act_words act is).low)

act_pieces : (act : Act) → IsAct act → pieces 32 (join_of 32 (words_of act)) ≡ words_of act
act_pieces act is = pieces_joined 32 (words_of act) (words_lack act is) (λ e. cc)

-- ---- lines

abbrev pub begins_comment : List ℕ → Bool
begins_comment [] = true
begins_comment (c ∷ cs) = c == 35

-- what the line says, by the act that its words are
abbrev pub says_by : List ℕ → Option Act → Option Line
says_by line (Some act) = Some (Says act)
says_by line None = if bytes_eq line (codes "start") then Some
    Start else (if begins_comment line then Some Skipped else None)

abbrev pub says : List ℕ → Option Line
says line = says_by line (act_of (pieces 32 line))

comment_no_act : (ps : List (List ℕ)) → act_of (onto 35 ps) ≡ None
comment_no_act [] = refl
comment_no_act (p ∷ ps) = refl

comment_says : (rest : List ℕ) → says (35 ∷ rest) ≡ Some Skipped
comment_says rest = ap (says_by (35 ∷ rest)) (comment_no_act (pieces 32 rest))

pub reads_says : (line : List ℕ) (what : Line) → Reads line what → says line ≡ Some what
reads_says line Skipped (inl empty) = ap says empty
reads_says line Skipped (inr (text, (rest, is))) = ap says is ∙ comment_says rest
reads_says line Start is = ap says is
reads_says line (Says act) (is, spelt) = ap says spelt
    ∙ ap (says_by (join_of 32 (words_of act))) (ap act_of (act_pieces act is) ∙ act_is act is)

pub reads_one : (line : List ℕ) (what other : Line) → Reads line what → Reads line other → what ≡ other
reads_one line what other is also = let one = reads_says line what is in let two = reads_says line other also in cc

low_utf8 : (xs : List ℕ) → Low xs → IsUtf8 xs
low_utf8 xs low = IsUtf8-from_ascii xs (low_ascii xs low)

pub reads_utf8 : (line : List ℕ) (what : Line) → Reads line what → IsUtf8 line
reads_utf8 line Skipped (inl empty) = subst IsUtf8 (sym empty) (low_utf8 [] tt)
reads_utf8 line Skipped (inr comment) = comment.0
reads_utf8 line Start is = subst IsUtf8 (sym is) (low_utf8 (codes "start") (low_text (codes "start") refl))
reads_utf8 line (Says act) (is, spelt) = subst IsUtf8 (sym spelt)
    (low_utf8 (join_of 32 (words_of act)) (act_low act is))

-- ---- forms of lines

abbrev pub is_some_word : List ℕ → Bool
is_some_word [] = false
is_some_word (c ∷ cs) = true

-- a word for each operand, no word empty, and names of groups where they belong
abbrev pub fit : List Operand → List (List ℕ) → Bool
fit [] [] = true
fit (PathOperand p ∷ operands) ([] ∷ words) = false
fit (PathOperand p ∷ operands) ((c ∷ cs) ∷ words) = fit operands words
fit (TargetOperand target ∷ operands) ([] ∷ words) = false
fit (TargetOperand target ∷ operands) ((c ∷ cs) ∷ words) = fit operands words
fit (PathsOperand paths ∷ []) words =
    nat_lt 0 (length words) && (nat_le (length words) 4 && list_all is_some_word words)
fit (GroupOperand a ∷ operands) (word ∷ words) = is_word is_group_byte word && fit operands words
fit (SlotOperand slot ∷ []) [] = true
fit (SlotOperand slot ∷ []) ([] ∷ words) = false
fit (SlotOperand slot ∷ []) ((c ∷ cs) ∷ words) = fit [] words
fit (SlotOperand slot ∷ operand ∷ operands) ((c ∷ cs) ∷ words) = fit (operand ∷ operands) words
fit _ _ = false

each_some : (words : List (List ℕ)) → All (λ word. word ≢ []) words → list_all is_some_word words ≡ true
each_some [] all = refl
each_some ([] ∷ words) all = absurd (All-head (λ word. word ≢ []) [] words all refl)
each_some ((c ∷ cs) ∷ words) all = each_some words (All-tail (λ word. word ≢ []) (c ∷ cs) words all)

fit_is : (operands : List Operand) (words : List (List ℕ)) → Fits operands words → fit operands words ≡ true
fit_is [] [] fits = refl
fit_is [] (word ∷ words) fits = absurd fits
fit_is (PathOperand p ∷ operands) [] fits = absurd fits
fit_is (PathOperand p ∷ operands) ([] ∷ words) fits = absurd (fits.0 refl)
fit_is (PathOperand p ∷ operands) ((c ∷ cs) ∷ words) fits = fit_is operands words fits.1
fit_is (TargetOperand target ∷ operands) [] fits = absurd fits
fit_is (TargetOperand target ∷ operands) ([] ∷ words) fits = absurd (fits.0 refl)
fit_is (TargetOperand target ∷ operands) ((c ∷ cs) ∷ words) fits = fit_is operands words fits.1
fit_is (PathsOperand paths ∷ []) words fits =
    both (nat_lt 0 (length words)) (nat_le (length words) 4 && list_all is_some_word words)
    (lt-ltb 0 (length words) fits.0)
    (both (nat_le (length words) 4) (list_all is_some_word words) (le-leb (length words) 4 fits.1)
    (each_some words fits.2))
fit_is (PathsOperand paths ∷ operand ∷ operands) words fits = absurd fits
fit_is (SlotOperand slot ∷ []) [] fits = refl
fit_is (SlotOperand slot ∷ []) ([] ∷ words) fits = absurd (fits.0 refl)
fit_is (SlotOperand slot ∷ []) ((c ∷ cs) ∷ words) fits = fit_is [] words fits.1
fit_is (SlotOperand slot ∷ operand ∷ operands) [] fits = absurd fits
fit_is (SlotOperand slot ∷ operand ∷ operands) ([] ∷ words) fits = absurd (fits.0 refl)
fit_is (SlotOperand slot ∷ operand ∷ operands) ((c ∷ cs) ∷ words) fits = fit_is (operand ∷ operands) words fits.1
fit_is (GroupOperand a ∷ operands) [] fits = absurd fits
fit_is (GroupOperand a ∷ operands) (word ∷ words) fits =
    both (is_word is_group_byte word) (fit operands words) (word_is is_group_byte word fits.0)
    (fit_is operands words fits.1)

abbrev pub fits_some : Option Act → List (List ℕ) → Bool
fits_some None words = false
fits_some (Some like) words = fit (said like).1 words

-- the words of a line have a form
abbrev pub are_formed : List (List ℕ) → Bool
are_formed [] = false
are_formed (first ∷ words) = fits_some (like_of first) words

form_pieces : (line : List ℕ) (like : Act) (words : List (List ℕ)) → HasForm line like words
    → pieces 32 line ≡ (said like).0 ∷ words
form_pieces line like words form =
    let all = (said like).0 ∷ words in
    ap (pieces 32) form.cut.whole ∙ pieces_joined 32 all (lacking_from 32 all form.cut.plain) form.cut.some

-- text of no form
pub no_form : (line : List ℕ) → are_formed (pieces 32 line) ≡ false → (like : Act) (words : List (List ℕ))
    → ¬ (HasForm line like words)
no_form line none like words form =
    let it = sampled like in
    let formed : are_formed (pieces 32 line) ≡ true =
    ap are_formed (form_pieces line like words form)
    ∙ (ap (λ (o : Option Act). fits_some o words) it.1 ∙ fit_is (said it.0).1 words ((it.2 words).0 form.fits)) in
    cc

pub plain_from : (s : ℕ) (words : List (List ℕ)) → AreLacking s words → All (λ word. ¬ (Contains word s)) words
plain_from s [] lacks = All-nil (λ word. ¬ (Contains word s))
plain_from s (word ∷ words) lacks = All-cons (λ word. ¬ (Contains word s)) word words (lacks_is s word lacks.0)
    (plain_from s words lacks.1)

-- the form of text that is cut into these words
pub form_at : (line : List ℕ) (like : Act) (words : List (List ℕ)) → pieces 32 line ≡ (said like).0 ∷ words
    → Fits (said like).1 words → HasForm line like words
form_at line like words cut fits =
    let lacks = subst (AreLacking 32) cut (pieces_lack 32 line) in
    let whole = sym (joined_pieces 32 line) ∙ ap (join_of 32) cut in
    record {
      cut = record { plain = plain_from 32 ((said like).0 ∷ words) lacks; some = λ e. cc; whole = whole };
      fits = fits;
    }

-- ---- a line that says something has a form, with paths and slots where they belong

pub reads_form : (line : List ℕ) (what : Line) → Reads line what → ¬ (IsSkipped line) → line ≢ codes "start"
    → (like : Act) × (words : List (List ℕ)) × HasForm line like words × HasSlots (said like).1 words
reads_form line Skipped is unskipped other = absurd (unskipped is)
reads_form line Start is unskipped other = absurd (other is)
reads_form line (Says act) is unskipped other =
    let words = texts (said act).1 in
    let it = act_words act is.0 in
    (act, words, form_at line act words (ap (pieces 32) is.1 ∙ act_pieces act is.0) it.fits, it.slots)

pub reads_paths : (line : List ℕ) (what : Line) (like : Act) (words : List (List ℕ)) → Reads line what
    → ¬ (IsSkipped line)
    → HasForm line like words → HasPaths (said like).1 words
reads_paths line Skipped like words is unskipped form = absurd (unskipped is)
reads_paths line Start like words is unskipped form =
    let same : codes "start" ∷ [] ≡ (said like).0 ∷ words = sym (ap (pieces 32) is)
    ∙ form_pieces line like words form in
    let heads : codes "start" ≡ (said like).0 = cc in
    let none : None ≡ Some (sampled like).0 = ap like_of heads ∙ (sampled like).1 in
    absurd (cc)
reads_paths line (Says act) like words is unskipped form =
    let same : words_of act ≡ (said like).0 ∷ words =
    sym (ap (pieces 32) is.1 ∙ act_pieces act is.0) ∙ form_pieces line like words form in
    let heads : (said act).0 ≡ (said like).0 = cc in
    let tails : texts (said act).1 ≡ words = cc in
    let paths = subst (λ (ws : List (List ℕ)). HasPaths (said act).1 ws) tails (act_words act is.0).paths in
    paths_alike act like heads words paths

-- a line with a slot that is none in one form has it in each form
pub bad_slot : (line : List ℕ) (like : Act) (words : List (List ℕ)) → HasForm line like words
    → HasBadSlot (said like).1 words → (other : Act) (others : List (List ℕ)) → HasForm line other others
    → HasBadSlot (said other).1 others
bad_slot line like words form bad other others form_too =
    let same : (said like).0 ∷ words ≡ (said other).0 ∷ others =
    sym (form_pieces line like words form) ∙ form_pieces line other others form_too in
    let heads : (said like).0 ≡ (said other).0 = cc in
    let tails : words ≡ others = cc in
    subst (λ (ws : List (List ℕ)). HasBadSlot (said other).1 ws) tails (
      paths_alike like other heads words bad.0,
      (λ slots. bad.1 (slots_alike other like (sym heads) words slots)),
    )

-- ---- what a line of a form says

abbrev pub Read : List ℕ → Type 0
Read line = (what : Line) × Reads line what

-- operands of the same kinds, one by one
abbrev HaveKinds : List Operand → List Operand → Type 0
HaveKinds [] [] = Unit {0}
HaveKinds (PathOperand _ ∷ likes) (PathOperand _ ∷ operands) = HaveKinds likes operands
HaveKinds (TargetOperand _ ∷ likes) (TargetOperand _ ∷ operands) = HaveKinds likes operands
HaveKinds (PathsOperand _ ∷ likes) (PathsOperand _ ∷ operands) = HaveKinds likes operands
HaveKinds (GroupOperand _ ∷ likes) (GroupOperand _ ∷ operands) = HaveKinds likes operands
HaveKinds (SlotOperand _ ∷ likes) (SlotOperand _ ∷ operands) = HaveKinds likes operands
HaveKinds _ _ = ⊥

-- the act with these operands in place of its own
with_operands : (like : Act) (operands : List Operand) → HaveKinds (said like).1 operands
    → (act : Act) × (said act ≡ ((said like).0, operands))
with_operands (Do (Create _)) (PathOperand p ∷ []) have = (Do (Create p), refl)
with_operands (Do (Write _)) (PathOperand p ∷ []) have = (Do (Write p), refl)
with_operands (Do (Link _ _)) (PathOperand p ∷ PathOperand q ∷ []) have = (Do (Link p q), refl)
with_operands (Do (Unlink _)) (PathOperand p ∷ []) have = (Do (Unlink p), refl)
with_operands (Do (Rename _ _)) (PathOperand p ∷ PathOperand q ∷ []) have = (Do (Rename p q), refl)
with_operands (Do (Mkdir _)) (PathOperand p ∷ []) have = (Do (Mkdir p), refl)
with_operands (Do (Rmdir _)) (PathOperand p ∷ []) have = (Do (Rmdir p), refl)
with_operands (Do (Overwrite _ _)) (PathOperand p ∷ SlotOperand slot ∷ []) have = (Do (Overwrite p slot), refl)
with_operands (Do (Truncate _)) (PathOperand p ∷ []) have = (Do (Truncate p), refl)
with_operands (Do (Replace _ _)) (PathOperand p ∷ PathOperand q ∷ []) have = (Do (Replace p q), refl)
with_operands (Group _) (GroupOperand a ∷ []) have = (Group a, refl)
with_operands End [] have = (End, refl)
with_operands (Depend _ _) (GroupOperand b ∷ GroupOperand a ∷ []) have = (Depend b a, refl)
with_operands Sync [] have = (Sync, refl)
with_operands (Fsync _) (TargetOperand target ∷ []) have = (Fsync target, refl)
with_operands (Keep _) (PathsOperand paths ∷ []) have = (Keep (record { items = paths }), refl)
with_operands (Hold _) (PathOperand p ∷ []) have = (Hold p, refl)
with_operands (Spare _ _) (PathOperand p ∷ PathOperand q ∷ []) have = (Spare p q, refl)
with_operands _ _ have = absurd have

-- the target that a word says, and the paths that words say
target_for : (word : List ℕ) → IsTargetWord word → (target : Target) × IsTarget target × (word ≡ target_text target)
target_for word (inl root) = (Root, tt, root)
target_for word (inr (path, is, spelt)) = (At path, is, spelt)

paths_for : (words : List (List ℕ)) → All IsPathWord words
    → (paths : List Path) × All IsPath paths × (words ≡ map path_text paths ++ [])
paths_for [] all = ([], All-nil IsPath, refl)
paths_for (word ∷ words) all =
    let first = All-head IsPathWord word words all in
    let more = paths_for words (All-tail IsPathWord word words all) in
    (first.0 ∷ more.0, All-cons IsPath first.0 more.0 first.1 more.1, cc (first.2, more.2))

-- the lawful operands that words say
operands_for : (likes : List Operand) (words : List (List ℕ)) → Fits likes words → HasPaths likes words
    → HasSlots likes words → (operands : List Operand) × HaveKinds likes operands × AreLawful operands
    × (words ≡ texts operands)
operands_for [] [] fits paths slots = ([], tt, tt, refl)
operands_for [] (word ∷ words) fits paths slots = absurd fits
operands_for (PathOperand _ ∷ likes) [] fits paths slots = absurd fits
operands_for (TargetOperand _ ∷ likes) [] fits paths slots = absurd fits
operands_for (GroupOperand _ ∷ likes) [] fits paths slots = absurd fits
operands_for (SlotOperand _ ∷ []) [] fits paths slots = (SlotOperand None ∷ [], tt, tt, refl)
operands_for (SlotOperand _ ∷ like ∷ likes) [] fits paths slots = absurd fits
operands_for (PathOperand _ ∷ likes) (word ∷ words) fits paths slots =
    let p = paths.0 in
    let more = operands_for likes words fits.1 paths.1 slots in
    (PathOperand p.0 ∷ more.0, more.1, (p.1, more.2), cc (p.2, more.3))
operands_for (TargetOperand _ ∷ likes) (word ∷ words) fits paths slots =
    let target = target_for word paths.0 in
    let more = operands_for likes words fits.1 paths.1 slots in
    (TargetOperand target.0 ∷ more.0, more.1, (target.1, more.2), cc (target.2, more.3))
operands_for (PathsOperand _ ∷ []) words fits paths slots =
    let all = paths_for words paths in
    let many : length words ≡ length all.0 = ap (λ (ws : List (List ℕ)). length ws) all.2 ∙ as_many all.0 in
    (PathsOperand all.0 ∷ [], tt, (omega (arith, many, fits.0), omega (arith, many, fits.1), all.1, tt), all.2)
operands_for (PathsOperand _ ∷ like ∷ likes) words fits paths slots = absurd fits
operands_for (GroupOperand _ ∷ likes) (word ∷ words) fits paths slots =
    let more = operands_for likes words fits.1 paths slots in
    (GroupOperand word ∷ more.0, more.1, (fits.0, more.2), cc (more.3))
operands_for (SlotOperand _ ∷ []) (word ∷ words) fits paths slots =
    let slot = slots.0 in
    let more = operands_for [] words fits.1 paths slots.1 in
    (SlotOperand (Some slot.0) ∷ more.0, more.1, more.2, cc (slot.1, more.3))
operands_for (SlotOperand _ ∷ like ∷ likes) (word ∷ words) fits paths slots =
    let slot = slots.0 in
    let more = operands_for (like ∷ likes) words fits.1 paths slots.1 in
    (SlotOperand (Some slot.0) ∷ more.0, more.1, more.2, cc (slot.1, more.3))

pub read_as : (line : List ℕ) (like : Act) (words : List (List ℕ)) → HasForm line like words
    → HasPaths (said like).1 words → HasSlots (said like).1 words → Read line
read_as line like words form paths slots =
    let it = operands_for (said like).1 words form.fits paths slots in
    let act = with_operands like it.0 it.1 in
    let text = λ (s : List ℕ × List Operand). join_of 32 (s.0 ∷ texts s.1) in
    let whole = form.cut.whole ∙ (ap (λ (ws : List (List ℕ)). join_of 32 ((said like).0 ∷ ws)) it.3
    ∙ ap text (sym act.1)) in
    (Says act.0, (subst (λ (s : List ℕ × List Operand). AreLawful s.1) (sym act.1) it.2, whole))
