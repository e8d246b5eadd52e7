-- What the parts of a script make.
use Rattle.std.proofs.Common.{◌≡◌, ◌≢◌, ℕ, zero, suc, ◌+◌, inl, inr, Option, Some, None, is_some, true, false, List, []}
use Rattle.std.proofs.Common.{◌∷◌, ◌++◌, length, length-append, codes, refl, sym, ap, ◌∙◌, subst, arith, append_assoc}
use Rattle.std.specs.List.{All, Contains, slice_get}
use Rattle.std.proofs.lemmas.Bool.{false≢true}
use Rattle.std.proofs.lemmas.List.Elements.{All-nil, All-cons, All-append}
use denote.Ref.{Bor}
use Rattle.crash_model.specs.Script.{AreLines, AreSteps, IsScript, Line, Reads}
use Rattle.crash_model.specs.ScriptRefusals.{AreAccepted, IsScriptRefusal}
use Rattle.crash_model.specs.Script as script
use Rattle.crash_model.specs.declared.refusals.ScriptFault.{ScriptFault}
use Rattle.crash_model.specs.declared.refusals.ScriptFault.TheVariants as fault
use Rattle.crash_model.specs.declared.steps.Step.{Step}
use Rattle.script_text.specs.declared.line.LineFault.{LineFault}
use Rattle.script_text.specs.declared.line.LineFault.TheVariants.{BadUtf8, BadLine, BadPath}
use Rattle.script_text.specs.Lines.{lines_of}
use Rattle.script_text.specs.Parts.{IsPart, IsPartRefused}
use Rattle.script_text.specs.Words.{IsLineFault, line_fault}
use Rattle.script_text.proofs.Acts.{start_is_no_act, start_is_not_skipped}
use Rattle.script_text.proofs.LineLists.{are_lines}

abbrev pub start : List ℕ
start = codes "start"

abbrev pub IsAccepted : List ℕ → Type 0
IsAccepted line = (says : Line) × Reads line says

abbrev pub IsNoStart : List ℕ → Type 0
IsNoStart line = line ≢ start

-- ---- lines of steps are accepted, and none is the start line

steps_accepted : (n : ℕ) (before : List (List ℕ)) (steps : List Step) → AreSteps n before steps → All IsAccepted before
steps_accepted n [] steps says = All-nil IsAccepted
steps_accepted n (l ∷ ls) steps (inl more) = All-cons IsAccepted l ls (script.Skipped, more.0)
    (steps_accepted (n + 1) ls steps more.1)
steps_accepted n (l ∷ ls) steps (inr (act, rest, reads, more, whole)) =
    All-cons IsAccepted l ls (script.Says act, reads) (steps_accepted (n + 1) ls rest more)

pub steps_no_start : (n : ℕ) (before : List (List ℕ)) (steps : List Step) → AreSteps n before steps
    → All IsNoStart before
steps_no_start n [] steps says = All-nil IsNoStart
steps_no_start n (l ∷ ls) steps (inl more) =
    All-cons IsNoStart l ls (λ same. start_is_not_skipped (subst (λ (t : List ℕ). Reads t script.Skipped) same more.0))
    (steps_no_start (n + 1) ls steps more.1)
steps_no_start n (l ∷ ls) steps (inr (act, rest, reads, more, whole)) =
    All-cons IsNoStart l ls (λ same. start_is_no_act act (subst (λ (t : List ℕ). Reads t (script.Says act)) same reads))
    (steps_no_start (n + 1) ls rest more)

none_contained : (lines : List (List ℕ)) → All IsNoStart lines → ¬ (Contains lines start)
none_contained lines none (k, below, same) = none k start below same

no_place : (lines : List (List ℕ)) (i : ℕ) → All IsNoStart lines → slice_get lines i ≡ Some start → ⊥
no_place [] i none here = cc
no_place (l ∷ ls) zero none here = none 0 l (omega arith) (let e : l ≡ start = cc in e)
no_place (l ∷ ls) (suc i) none here = no_place ls i (λ k d below. none (suc k) d (omega arith)) here

pub one_place : (before after : List (List ℕ)) (i : ℕ) → All IsNoStart before → All IsNoStart after
    → slice_get (before ++ start ∷ after) i ≡ Some start → i ≡ length before
one_place [] after zero none too here = refl
one_place [] after (suc i) none too here = absurd (no_place after i too here)
one_place (l ∷ ls) after zero none too here = absurd (none 0 l (omega arith) (let e : l ≡ start = cc in e))
one_place (l ∷ ls) after (suc i) none too here = ap (λ (n : ℕ). suc n)
    (one_place ls after i (λ k d below. none (suc k) d (omega arith)) too here)

part_accepted : (n : ℕ) (before : List (List ℕ)) (steps : List Step) → AreSteps n before steps → AreAccepted before
part_accepted n before steps says = record {
  each = steps_accepted n before steps says;
  one_start = λ i j here there. absurd (no_place before i (steps_no_start n before steps says) here);
}

pub parts_accepted : (n m : ℕ) (before after : List (List ℕ)) (steps more : List Step) → AreSteps n before steps
    → AreSteps m after more → AreAccepted (before ++ start ∷ after)
parts_accepted n m before after steps more says too = record {
  each = All-append IsAccepted before (start ∷ after) (steps_accepted n before steps says)
      (All-cons IsAccepted start after (script.Start, refl) (steps_accepted m after more too));
  one_start = λ i j here there.
      (let none = steps_no_start n before steps says in
      let none_too = steps_no_start m after more too in
      one_place before after i none none_too here ∙ sym (one_place before after j none none_too there));
}

-- ---- the first refused line

line_refused : (bytes : List ℕ) (before : List (List ℕ)) (line : List ℕ) (after : List (List ℕ)) (n : ℕ)
    (why : LineFault) → lines_of bytes ≡ before ++ line ∷ after → AreAccepted before → n ≡ length before + 1
    → IsLineFault line why → IsScriptRefusal bytes (line_fault n why)
line_refused bytes before line after n BadUtf8 whole accepted number refused =
    record {
      before = before;
      line = line;
      after = after;
      lines = subst (AreLines bytes) whole (are_lines bytes);
      accepted = accepted;
      number = number;
      refused = refused;
    }
line_refused bytes before line after n BadLine whole accepted number refused =
    record {
      before = before;
      line = line;
      after = after;
      lines = subst (AreLines bytes) whole (are_lines bytes);
      accepted = accepted;
      number = number;
      refused = inl refused;
    }
line_refused bytes before line after n BadPath whole accepted number refused =
    record {
      before = before;
      line = line;
      after = after;
      lines = subst (AreLines bytes) whole (are_lines bytes);
      accepted = accepted;
      number = number;
      refused = refused;
    }

pub base_refused : (bytes : List ℕ) (fault : ScriptFault) → IsPartRefused bytes 1 fault → IsScriptRefusal bytes fault
base_refused bytes fault part =
    subst (IsScriptRefusal bytes) (sym part.number)
    (line_refused bytes part.before part.line part.after (1 + length part.before) part.why part.lines
    (part_accepted 1 part.before part.steps part.says) (omega arith) part.refused)

pub trace_refused : (bytes : List ℕ) (base : List Step) (n : ℕ) (after : Bor (List ℕ)) (fault : ScriptFault)
    → IsPart bytes 1 base n (Some after) → IsPartRefused after.now (n + 1) fault → IsScriptRefusal bytes fault
trace_refused bytes base n after fault part refused =
    let before = part.before ++ start ∷ refused.before in
    let whole : lines_of bytes ≡ before ++ refused.line ∷ refused.after =
    part.lines ∙ (ap (λ (ls : List (List ℕ)). part.before ++ start ∷ ls) refused.lines
    ∙ sym (append_assoc part.before (start ∷ refused.before) (refused.line ∷ refused.after))) in
    let lengths : length before ≡ length part.before + (length refused.before + 1) =
    length-append part.before (start ∷ refused.before) ∙ omega arith in
    let here = part.number in
    subst (IsScriptRefusal bytes) (sym refused.number)
    (line_refused bytes before refused.line refused.after (n + 1 + length refused.before) refused.why whole
    (parts_accepted 1 (n + 1) part.before refused.before base refused.steps part.says refused.says) (omega arith)
    refused.refused)

pub no_start_line : (bytes : List ℕ) (base : List Step) (n : ℕ) → IsPart bytes 1 base n None
    → IsScriptRefusal bytes (fault.NoStart n)
no_start_line bytes base n part =
    let here = part.number in (
      part.before,
      subst (AreLines bytes) part.lines (are_lines bytes),
      part_accepted 1 part.before base part.says,
      none_contained part.before (steps_no_start 1 part.before base part.says),
      omega arith,
    )

pub second_start : (bytes : List ℕ) (base : List Step) (n : ℕ) (after : Bor (List ℕ)) (traced : List Step) (m : ℕ)
    (rest : Bor (List ℕ)) → IsPart bytes 1 base n (Some after) → IsPart after.now (n + 1) traced m (Some rest)
    → IsScriptRefusal bytes (fault.BadLine m)
second_start bytes base n after traced m rest part more =
    let before = part.before ++ start ∷ more.before in
    let whole : lines_of bytes ≡ before ++ start ∷ lines_of rest.now =
    part.lines ∙ (ap (λ (ls : List (List ℕ)). part.before ++ start ∷ ls) more.lines
    ∙ sym (append_assoc part.before (start ∷ more.before) (start ∷ lines_of rest.now))) in
    let lengths : length before ≡ length part.before + (length more.before + 1) =
    length-append part.before (start ∷ more.before) ∙ omega arith in
    let here = part.number in
    let there = more.number in
    record {
      before = before;
      line = start;
      after = lines_of rest.now;
      lines = subst (AreLines bytes) whole (are_lines bytes);
      accepted = parts_accepted 1 (n + 1) part.before more.before base traced part.says more.says;
      number = omega arith;
      refused = inr (refl, has_start part.before more.before);
    }
  where
    has_start : (ls ms : List (List ℕ)) → Contains (ls ++ start ∷ ms) start
    has_start [] ms = (0, omega arith, refl)
    has_start (l ∷ ls) ms = let more' = has_start ls ms in (suc more'.0, (let below = more'.1 in omega arith), more'.2)

pub is_script : (bytes : List ℕ) (base : List Step) (n : ℕ) (after : Bor (List ℕ)) (traced : List Step) (m : ℕ)
    → IsPart bytes 1 base n (Some after) → IsPart after.now (n + 1) traced m None → IsScript bytes base traced
is_script bytes base n after traced m part more =
    let here = part.number in
    record {
      before = part.before;
      after = more.before;
      lines = subst (AreLines bytes) (part.lines ∙ ap (λ (ls : List (List ℕ)). part.before ++ start ∷ ls) more.lines)
          (are_lines bytes);
      base_steps = part.says;
      traced_steps = subst (λ (k : ℕ). AreSteps k more.before traced) (omega arith) more.says;
    }

pub stopped_at_start : (bytes : List ℕ) (base : List Step) (n : ℕ) (after : Bor (List ℕ)) (traced : List Step) (m : ℕ)
    (rest : Option (Bor (List ℕ))) → IsPart bytes 1 base n (Some after) → IsPart after.now (n + 1) traced m rest
    → true ≡ is_some rest → IsScriptRefusal bytes (fault.BadLine m)
stopped_at_start bytes base n after traced m None part more some = absurd (false≢true (sym some))
stopped_at_start bytes base n after traced m (Some rest) part more some =
    second_start bytes base n after traced m rest part more

pub stopped_at_end : (bytes : List ℕ) (base : List Step) (n : ℕ) (after : Bor (List ℕ)) (traced : List Step) (m : ℕ)
    (rest : Option (Bor (List ℕ))) → IsPart bytes 1 base n (Some after) → IsPart after.now (n + 1) traced m rest
    → false ≡ is_some rest → IsScript bytes base traced
stopped_at_end bytes base n after traced m None part more none = is_script bytes base n after traced m part more
stopped_at_end bytes base n after traced m (Some rest) part more none = absurd (false≢true none)
