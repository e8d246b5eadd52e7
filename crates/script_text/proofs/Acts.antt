-- Verbs and acts by their words.
use Rattle.std.proofs.Common.{◌≡◌, ◌≢◌, ℕ, inl, inr, Bool, true, cond, Option, Some, None, List, [], ◌∷◌, ◌++◌, map}
use Rattle.std.proofs.Common.{flat_map, codes, refl, sym, ap, ◌∙◌, subst, arith}
use Rattle.std.specs.List.{All, Contains, list_all}
use Rattle.std.specs.Str.{bytes_eq}
use Rattle.std.proofs.lemmas.Bool.{and_parts, false≢true}
use Rattle.std.proofs.lemmas.Bool.Decides.{nat_tests}
use Rattle.std.proofs.lemmas.List.Elements.{All-head, All-tail, All-nil, All-cons, All-append}
use Rattle.crash_model.specs.Names.{IsName, IsGroupName, is_name_byte, is_group_byte}
use Rattle.crash_model.specs.Script.{Operand, PathOperand, GroupOperand, SlotOperand, TargetOperand, PathsOperand, said}
use Rattle.crash_model.specs.Script.{operand_words, AreLawful, words_of, Reads}
use Rattle.crash_model.specs.ScriptRefusals.{AreWords, Fits, HasBadSlot}
use Rattle.crash_model.specs.PathTexts.{IsPath, path_text}
use Rattle.crash_model.specs.Targets.{IsTarget, target_text}
use Rattle.crash_model.specs.declared.steps.Target.{Target}
use Rattle.crash_model.specs.declared.steps.Target.TheVariants as target
use Rattle.crash_model.specs.Slots.{slot_text}
use Rattle.crash_model.specs.declared.operations.Slot.{Slot}
use Rattle.crash_model.specs.declared.operations.Slot.TheVariants as slot
use Rattle.crash_model.specs.Script as script
use Rattle.crash_model.specs.declared.names.Path.{Path}
use Rattle.crash_model.specs.declared.operations.Op.TheVariants as op
use Rattle.crash_model.specs.declared.steps.Act.{Act}
use Rattle.crash_model.specs.declared.steps.Act.TheVariants as act
use Rattle.crash_model.proofs.Cuts.{Lacks}
use Rattle.crash_model.proofs.Paths.{slash_text, names_of, names_are}
use Rattle.script_text.specs.declared.verb.Verb.{Verb}
use Rattle.script_text.specs.declared.verb.Verb.TheVariants.{Create, Write, Link, Unlink, Rename, Mkdir, Rmdir}
use Rattle.script_text.specs.declared.verb.Verb.TheVariants.{Overwrite, Truncate, Replace, Group, End, Depend, Start}
use Rattle.script_text.specs.declared.verb.Verb.TheVariants.{Sync, Fsync, Keep, Hold, Spare}
use Rattle.script_text.specs.Words.{spelling, operands_of}
use Rattle.script_text.proofs.Cuts.{lacks_none}
use Rattle.script_text.proofs.Spaces.{words_once}

-- ---- the words of an act have no space

plain_lacks : (passes : ℕ → Bool) → ((c : ℕ) → passes c ≡ true → c ≢ 32) → (word : List ℕ) → list_all passes word ≡ true
    → Lacks 32 word
plain_lacks passes no_space [] all = tt
plain_lacks passes no_space (c ∷ cs) all =
    let both = and_parts (passes c) (list_all passes cs) all in
    (no_space c both.0, plain_lacks passes no_space cs both.1)

name_no_space : (c : ℕ) → is_name_byte c ≡ true → c ≢ 32
name_no_space c e = grind (arith, nat_tests)

group_no_space : (c : ℕ) → is_group_byte c ≡ true → c ≢ 32
group_no_space c e = grind (arith, nat_tests)

lacks-append : (s : ℕ) (xs ys : List ℕ) → Lacks s xs → Lacks s ys → Lacks s (xs ++ ys)
lacks-append s [] ys one two = two
lacks-append s (x ∷ xs) ys one two = (one.0, lacks-append s xs ys one.1 two)

slashed_lacks : (names : List (List ℕ)) → All IsName names → Lacks 32 (slash_text names)
slashed_lacks [] are = tt
slashed_lacks (n ∷ ns) are =
    lacks-append 32 (47 ∷ n) (slash_text ns) (
      (λ e. false≢true (cc)),
      plain_lacks is_name_byte name_no_space n (All-head IsName n ns are).plain,
    )
    (slashed_lacks ns (All-tail IsName n ns are))

path_plain : (path : Path) → IsPath path → ¬ (Contains (path_text path) 32)
path_plain path is = lacks_none 32 (path_text path) (slashed_lacks (names_of path) (names_are path is))

group_plain : (name : List ℕ) → IsGroupName name → ¬ (Contains name 32)
group_plain name is = lacks_none 32 name (plain_lacks is_group_byte group_no_space name is.plain)

abbrev pub IsPlain : List ℕ → Type 0
IsPlain word = ¬ (Contains word 32)

slot_plain : (s : Slot) → IsPlain (slot_text s)
slot_plain slot.Zero = lacks_none 32 (codes "0") ((λ e. omega (arith, e)), tt)
slot_plain slot.One = lacks_none 32 (codes "1") ((λ e. omega (arith, e)), tt)
slot_plain slot.Two = lacks_none 32 (codes "2") ((λ e. omega (arith, e)), tt)
slot_plain slot.Three = lacks_none 32 (codes "3") ((λ e. omega (arith, e)), tt)

target_plain : (target : Target) → IsTarget target → IsPlain (target_text target)
target_plain target.Root is = lacks_none 32 (codes "/") ((λ e. omega (arith, e)), tt)
target_plain (target.At path) is = path_plain path is

paths_plain : (paths : List Path) → All IsPath paths → All IsPlain (map path_text paths)
paths_plain [] are = All-nil IsPlain
paths_plain (p ∷ ps) are =
    All-cons IsPlain (path_text p) (map path_text ps) (path_plain p (All-head IsPath p ps are))
    (paths_plain ps (All-tail IsPath p ps are))

operands_plain : (operands : List Operand) → AreLawful operands → All IsPlain (flat_map operand_words operands)
operands_plain [] are = All-nil IsPlain
operands_plain (PathOperand p ∷ os) are =
    All-cons IsPlain (path_text p) (flat_map operand_words os) (path_plain p are.0) (operands_plain os are.1)
operands_plain (TargetOperand t ∷ os) are =
    All-cons IsPlain (target_text t) (flat_map operand_words os) (target_plain t are.0) (operands_plain os are.1)
operands_plain (PathsOperand ps ∷ os) are =
    All-append IsPlain (map path_text ps) (flat_map operand_words os) (paths_plain ps are.2) (operands_plain os are.3)
operands_plain (GroupOperand a ∷ os) are =
    All-cons IsPlain a (flat_map operand_words os) (group_plain a are.0) (operands_plain os are.1)
operands_plain (SlotOperand None ∷ os) are = operands_plain os are
operands_plain (SlotOperand (Some s) ∷ os) are =
    All-cons IsPlain (slot_text s) (flat_map operand_words os) (slot_plain s) (operands_plain os are)

-- ---- verbs

-- the one of these verbs with this spelling
abbrev spelt_so : List Verb → List ℕ → Option Verb
spelt_so [] word = None
spelt_so (verb ∷ verbs) word = cond (bytes_eq word (spelling verb)) (Some verb) (spelt_so verbs word)

abbrev verb_of : List ℕ → Option Verb
verb_of word =
    spelt_so (Create ∷ Write ∷ Link ∷ Unlink ∷ Rename ∷ Mkdir ∷ Rmdir ∷ Overwrite ∷ Truncate ∷ Replace ∷ Group ∷ End
    ∷ Depend ∷ Sync ∷ Fsync ∷ Keep ∷ Hold ∷ Spare ∷ Start ∷ []) word

-- its spelling leads back to a verb, and has small letters alone
spelling_of : (verb : Verb) → (verb_of (spelling verb) ≡ Some verb) × (list_all is_name_byte (spelling verb) ≡ true)
spelling_of Create = (refl, refl)
spelling_of Write = (refl, refl)
spelling_of Link = (refl, refl)
spelling_of Unlink = (refl, refl)
spelling_of Rename = (refl, refl)
spelling_of Mkdir = (refl, refl)
spelling_of Rmdir = (refl, refl)
spelling_of Overwrite = (refl, refl)
spelling_of Truncate = (refl, refl)
spelling_of Replace = (refl, refl)
spelling_of Group = (refl, refl)
spelling_of End = (refl, refl)
spelling_of Depend = (refl, refl)
spelling_of Sync = (refl, refl)
spelling_of Fsync = (refl, refl)
spelling_of Keep = (refl, refl)
spelling_of Hold = (refl, refl)
spelling_of Spare = (refl, refl)
spelling_of Start = (refl, refl)

-- no two verbs have one spelling
pub verb_once : (verb other : Verb) → spelling verb ≡ spelling other → verb ≡ other
verb_once verb other same = let found = sym (spelling_of verb).0 ∙ (ap verb_of same ∙ (spelling_of other).0) in cc

verb_plain : (verb : Verb) → IsPlain (spelling verb)
verb_plain verb = lacks_none 32 (spelling verb) (plain_lacks is_name_byte name_no_space (spelling verb)
    (spelling_of verb).1)

-- the verb of an act has its first word and takes the same operands, and is not that of the start line
abbrev pub HasVerb : Act → Type 0
HasVerb a =
    (verb : Verb) × ((said a).0 ≡ spelling verb)
    × ((words : List (List ℕ)) → Fits (said a).1 words → Fits (operands_of verb) words)
    × ((words : List (List ℕ)) → HasBadSlot (operands_of verb) words → HasBadSlot (said a).1 words) × (verb ≢ Start)

pub verb_of_act : (a : Act) → HasVerb a
verb_of_act (act.Do (op.Create p)) = (Create, refl, (λ words fits. fits), (λ words bad. bad), (λ e. cc))
verb_of_act (act.Do (op.Write p)) = (Write, refl, (λ words fits. fits), (λ words bad. bad), (λ e. cc))
verb_of_act (act.Do (op.Link p q)) = (Link, refl, (λ words fits. fits), (λ words bad. bad), (λ e. cc))
verb_of_act (act.Do (op.Unlink p)) = (Unlink, refl, (λ words fits. fits), (λ words bad. bad), (λ e. cc))
verb_of_act (act.Do (op.Rename p q)) = (Rename, refl, (λ words fits. fits), (λ words bad. bad), (λ e. cc))
verb_of_act (act.Do (op.Mkdir p)) = (Mkdir, refl, (λ words fits. fits), (λ words bad. bad), (λ e. cc))
verb_of_act (act.Do (op.Rmdir p)) = (Rmdir, refl, (λ words fits. fits), (λ words bad. bad), (λ e. cc))
verb_of_act (act.Do (op.Overwrite p s)) = (Overwrite, refl, (λ words fits. fits), (λ words bad. bad), (λ e. cc))
verb_of_act (act.Do (op.Truncate p)) = (Truncate, refl, (λ words fits. fits), (λ words bad. bad), (λ e. cc))
verb_of_act (act.Do (op.Replace p q)) = (Replace, refl, (λ words fits. fits), (λ words bad. bad), (λ e. cc))
verb_of_act (act.Group a) = (Group, refl, (λ words fits. fits), (λ words bad. bad), (λ e. cc))
verb_of_act act.End = (End, refl, (λ words fits. fits), (λ words bad. bad), (λ e. cc))
verb_of_act (act.Depend b a) = (Depend, refl, (λ words fits. fits), (λ words bad. bad), (λ e. cc))
verb_of_act act.Sync = (Sync, refl, (λ words fits. fits), (λ words bad. bad), (λ e. cc))
verb_of_act (act.Fsync t) = (Fsync, refl, (λ words fits. fits), (λ words bad. bad), (λ e. cc))
verb_of_act (act.Keep ps) = (Keep, refl, (λ words fits. fits), (λ words bad. bad), (λ e. cc))
verb_of_act (act.Hold p) = (Hold, refl, (λ words fits. fits), (λ words bad. bad), (λ e. cc))
verb_of_act (act.Spare p q) = (Spare, refl, (λ words fits. fits), (λ words bad. bad), (λ e. cc))

-- ---- lines

act_words : (line : List ℕ) (a : Act) → Reads line (script.Says a) → AreWords line (words_of a)
act_words line a says =
    let verb = verb_of_act a in
    let first : IsPlain (said a).0 = subst IsPlain (sym verb.1) (verb_plain verb.0) in
    record {
      plain = All-cons IsPlain (said a).0 (flat_map operand_words (said a).1) first (operands_plain (said a).1 says.0);
      some = (λ e. cc);
      whole = says.1;
    }

pub start_words : AreWords (codes "start") (codes "start" ∷ [])
start_words = record {
  plain = All-cons IsPlain (codes "start") [] (verb_plain Start) (All-nil IsPlain);
  some = (λ e. cc);
  whole = refl;
}

-- the start line is no act
pub start_is_no_act : (a : Act) → ¬ (Reads (codes "start") (script.Says a))
start_is_no_act a says =
    let verb = verb_of_act a in
    let same = words_once (codes "start") _ _ (act_words (codes "start") a says) start_words in
    let heads : (said a).0 ≡ codes "start" = cc in
    verb.4 (verb_once verb.0 Start (sym verb.1 ∙ heads))

-- nor is it passed over
pub start_is_not_skipped : ¬ (Reads (codes "start") script.Skipped)
start_is_not_skipped (inl empty) = cc
start_is_not_skipped (inr (utf8, (rest, same))) = absurd (omega (arith, first_same _ _ _ _ same))
  where
    first_same : (a b : ℕ) (as' bs' : List ℕ) → a ∷ as' ≡ b ∷ bs' → a ≡ b
    first_same a b as' bs' e = cc
