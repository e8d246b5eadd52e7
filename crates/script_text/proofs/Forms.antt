-- Lines by their words: what they say, and why they are refused.
use Rattle.std.proofs.Common.{◌≡◌, ◌≢◌, ℕ, ◌≤◌, ◌<◌, ◌↔◌, IsTrue, Bool, false, Option, Some, None, suc, List, [], ◌∷◌}
use Rattle.std.proofs.Common.{length, codes, sym, ap, ◌∙◌, subst, arith}
use Rattle.std.specs.Str.{IsUtf8}
use Rattle.std.proofs.lemmas.Bool.{false≢true}
use Rattle.crash_model.specs.Lists.{join_of}
use Rattle.crash_model.specs.Script.{Operand, PathOperand, TargetOperand, PathsOperand, GroupOperand, SlotOperand, said}
use Rattle.crash_model.specs.Script.{IsSkipped}
use Rattle.crash_model.specs.ScriptRefusals.{Fits, HasPaths, HasBadSlot, HasForm, AreWords}
use Rattle.crash_model.specs.declared.steps.Act.{Act}
use Rattle.script_text.specs.declared.line.Line.{Line}
use Rattle.script_text.specs.declared.line.Line.TheVariants.{Skipped, Says}
use Rattle.script_text.specs.declared.line.Line.TheVariants as line
use Rattle.script_text.specs.declared.line.LineFault.{LineFault}
use Rattle.script_text.specs.declared.line.LineFault.TheVariants.{BadUtf8, BadLine, BadPath}
use Rattle.script_text.specs.declared.verb.Verb.{Verb}
use Rattle.script_text.specs.declared.verb.Verb.TheVariants.{Link, Rename, Overwrite, Replace, Depend, Keep, Spare}
use Rattle.script_text.specs.declared.verb.Verb.TheVariants.{Start}
use Rattle.script_text.specs.Words.{some_act, form, spelling, operands_of, IsNoVerb, SaysWords, SaysLine}
use Rattle.script_text.specs.Words.{IsOperandFault, IsLineFault}
use Rattle.script_text.proofs.Acts.{verb_once, verb_of_act, start_words}
use Rattle.script_text.proofs.Spaces.{words_once}

pub not_so : {P : Type 0} (test : Bool) → (IsTrue test ↔ P) → test ≡ false → ¬ P
not_so test decides failed holds = false≢true (sym failed ∙ decides.1 holds)

-- the most words that operands can be
abbrev most_words : List Operand → ℕ
most_words [] = 0
most_words (PathsOperand ps ∷ os) = 4
most_words (_ ∷ os) = suc (most_words os)

few_operands : (verb : Verb) → most_words (operands_of verb) ≤ 4
few_operands Link = omega arith
few_operands Rename = omega arith
few_operands Overwrite = omega arith
few_operands Replace = omega arith
few_operands Depend = omega arith
few_operands Keep = omega arith
few_operands Spare = omega arith
few_operands _ = omega arith

fits_length : (operands : List Operand) (words : List (List ℕ)) → Fits operands words
    → length words ≤ most_words operands
fits_length [] [] fits = omega arith
fits_length [] (w ∷ ws) fits = absurd fits
fits_length (PathOperand p ∷ os) [] fits = absurd fits
fits_length (TargetOperand t ∷ os) [] fits = absurd fits
fits_length (GroupOperand a ∷ os) [] fits = absurd fits
fits_length (PathsOperand ps ∷ []) words fits = fits.1
fits_length (PathsOperand ps ∷ o ∷ os) [] fits = absurd fits
fits_length (PathsOperand ps ∷ o ∷ os) (w ∷ ws) fits = absurd fits
fits_length (SlotOperand s ∷ os) [] fits = omega arith
fits_length (SlotOperand s ∷ []) (w ∷ ws) fits = let rest = fits_length [] ws fits.1 in omega arith
fits_length (PathOperand p ∷ os) (w ∷ ws) fits = let rest = fits_length os ws fits.1 in omega arith
fits_length (TargetOperand t ∷ os) (w ∷ ws) fits = let rest = fits_length os ws fits.1 in omega arith
fits_length (GroupOperand a ∷ os) (w ∷ ws) fits = let rest = fits_length os ws fits.1 in omega arith
fits_length (SlotOperand s ∷ o ∷ os) (w ∷ ws) fits = let rest = fits_length (o ∷ os) ws fits.1 in omega arith

-- ---- lines

-- text whose words fit no verb, or the one that they fit has a slot that is none
bad_line : (text : List ℕ) → IsUtf8 text → ¬ (IsSkipped text)
    → ((verb : Verb) (words : List (List ℕ)) → AreWords text (spelling verb ∷ words)
    → Fits (operands_of verb) words → HasBadSlot (operands_of verb) words)
    → IsLineFault text BadLine
bad_line text utf8 says none = (utf8, says, no_start, no_act)
  where
    no_start : text ≢ codes "start"
    no_start same = (none Start [] (subst (λ (t : List ℕ). AreWords t (codes "start" ∷ [])) (sym same) start_words)
        tt).1 tt

    no_act : (like : Act) (words : List (List ℕ)) → HasForm text like words → HasBadSlot (said like).1 words
    no_act like words form =
        let verb = verb_of_act like in
        let cut = subst (λ (first : List ℕ). AreWords text (first ∷ words)) verb.1 form.cut in
        verb.3 words (none verb.0 words cut (verb.2 words form.fits))

pub too_many_words : (text : List ℕ) → IsUtf8 text → ¬ (IsSkipped text)
    → ((words : List (List ℕ)) → AreWords text words → 5 < length words) → IsLineFault text BadLine
too_many_words text utf8 says many = bad_line text utf8 says none
  where
    none : (verb : Verb) (words : List (List ℕ)) → AreWords text (spelling verb ∷ words)
        → Fits (operands_of verb) words → HasBadSlot (operands_of verb) words
    none verb words cut fits =
        let more = many (spelling verb ∷ words) cut in
        let lengths = fits_length (operands_of verb) words fits in
        let few = few_operands verb in
        absurd (omega arith)

pub no_verb : (text first : List ℕ) (words : List (List ℕ)) → IsUtf8 text → ¬ (IsSkipped text)
    → AreWords text (first ∷ words) → IsNoVerb first → IsLineFault text BadLine
no_verb text first words utf8 says cut unknown = bad_line text utf8 says none
  where
    none : (verb : Verb) (others : List (List ℕ)) → AreWords text (spelling verb ∷ others)
        → Fits (operands_of verb) others → HasBadSlot (operands_of verb) others
    none verb others is fits =
        let same = words_once text (first ∷ words) (spelling verb ∷ others) cut is in
        absurd (unknown verb (cc))

pub refused_operands : (text first : List ℕ) (words : List (List ℕ)) (verb : Verb) (why : LineFault) → IsUtf8 text
    → ¬ (IsSkipped text) → AreWords text (first ∷ words) → first ≡ spelling verb
    → IsOperandFault (operands_of verb) words why → IsLineFault text why
refused_operands text first words verb BadUtf8 utf8 says cut spelt fault = absurd fault
refused_operands text first words verb BadLine utf8 says cut spelt fault = bad_line text utf8 says none
  where
    none : (other : Verb) (others : List (List ℕ)) → AreWords text (spelling other ∷ others)
        → Fits (operands_of other) others → HasBadSlot (operands_of other) others
    none other others is =
        let same = words_once text (first ∷ words) (spelling other ∷ others) cut is in
        let heads : first ≡ spelling other = cc in
        let tails : words ≡ others = cc in
        let verbs = sym (verb_once other verb (sym heads ∙ spelt)) in
        subst (λ (ws : List (List ℕ)). Fits (operands_of other) ws → HasBadSlot (operands_of other) ws) tails
        (subst (λ (v : Verb). Fits (operands_of v) words → HasBadSlot (operands_of v) words) verbs fault)
refused_operands text first words verb BadPath utf8 says cut spelt fault = by_act (some_act verb) spelt fault
  where
    no_paths : (ws : List (List ℕ)) → HasPaths [] ws
    no_paths [] = tt
    no_paths (w ∷ ws) = tt

    by_act : (o : Option Act) → first ≡ (form o).0 → IsOperandFault (form o).1 words BadPath → IsLineFault text BadPath
    by_act None spelt fault = absurd (fault.1 (no_paths words))
    by_act (Some act) spelt fault =
        let cut_here = subst (λ (word : List ℕ). AreWords text (word ∷ words)) spelt cut in
        (utf8, says, (act, words, record { cut = cut_here; fits = fault.0 }, fault.1))

pub says_line : (text : List ℕ) (words : List (List ℕ)) (l : Line) → AreWords text words → SaysWords words l
    → SaysLine text l
says_line text words Skipped cut says = absurd says
says_line text words line.Start cut says = cut.whole ∙ ap (join_of 32) says
says_line text words (Says act) cut says = (says.0, cut.whole ∙ ap (join_of 32) says.1)
