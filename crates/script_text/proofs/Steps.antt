-- Steps of lines, read one line after another.
use Rattle.std.proofs.Common.{◌≡◌, ◌≢◌, ℕ, ◌+◌, ◌≤◌, inl, inr, Bool, false, eqb, List, [], ◌∷◌, ◌++◌, length, refl, sym}
use Rattle.std.proofs.Common.{ap, ◌∙◌, arith, append_assoc}
use Rattle.std.proofs.lemmas.Bool.{false≢true}
use Rattle.std.proofs.lemmas.List.{length_push}
use Rattle.crash_model.specs.Script.{AreSteps, Reads, Skipped, Says}
use Rattle.crash_model.specs.declared.steps.Act.{Act}
use Rattle.crash_model.specs.declared.steps.Step.{Step}
use Rattle.crash_model.specs.declared.refusals.ScriptFault.{ScriptFault}
use Rattle.script_text.specs.declared.line.LineFault.{LineFault}
use Rattle.script_text.specs.Words.{IsLineFault, line_fault}
use Rattle.script_text.specs.Parts.{IsPartRefused}
use Rattle.script_text.specs.Lines.{IsFirstLine, lines_of}
use Rattle.script_text.proofs.LineLists.{lines_of-first, first_line_shorter}

-- lines were read up to the one with number n, before which the rest begins
pub record HaveRead (bytes : List ℕ) (first : ℕ) (steps : List Step) (n : ℕ) (rest : List ℕ) : Type 0 where
  pub before : List (List ℕ)
  pub says : AreSteps first before steps
  pub number : n ≡ first + length before
  pub lines : lines_of bytes ≡ before ++ lines_of rest
  pub room : n + length rest ≤ first + length bytes

pub nothing_read : (bytes : List ℕ) (first : ℕ) (steps : List Step) → steps ≡ []
    → HaveRead bytes first steps first bytes
nothing_read bytes first steps none = record {
  before = [];
  says = none;
  number = omega arith;
  lines = refl;
  room = omega arith;
}

steps-skipped : (n : ℕ) (before : List (List ℕ)) (steps : List Step) (line : List ℕ) → AreSteps n before steps
    → Reads line Skipped → AreSteps n (before ++ line ∷ []) steps
steps-skipped n [] steps line says skipped = inl (skipped, says)
steps-skipped n (l ∷ ls) steps line (inl more) skipped =
    inl (more.0, steps-skipped (n + 1) ls steps line more.1 skipped)
steps-skipped n (l ∷ ls) steps line (inr (act, rest, reads, more, whole)) skipped =
    inr (act, rest, reads, steps-skipped (n + 1) ls rest line more skipped, whole)

steps-said : (n : ℕ) (before : List (List ℕ)) (steps : List Step) (line : List ℕ) (act : Act) (m : ℕ)
    → AreSteps n before steps → Reads line (Says act) → m ≡ n + length before
    → AreSteps n (before ++ line ∷ []) (steps ++ record { line = m; act = act } ∷ [])
steps-said n [] steps line act m says said number =
    let here : m ≡ n = omega arith in
    inr (
      act,
      [],
      said,
      refl,
      ap (λ (ss : List Step). ss ++ record { line = m; act = act } ∷ []) says
          ∙ ap (λ (k : ℕ). record { line = k; act = act } ∷ []) here,
    )
steps-said n (l ∷ ls) steps line act m (inl more) said number =
    inl (more.0, steps-said (n + 1) ls steps line act m more.1 said (omega arith))
steps-said n (l ∷ ls) steps line act m (inr (a, rest, reads, more, whole)) said number =
    inr (
      a,
      rest ++ record { line = m; act = act } ∷ [],
      reads,
      steps-said (n + 1) ls rest line act m more said (omega arith),
      ap (λ (ss : List Step). ss ++ record { line = m; act = act } ∷ []) whole,
    )

pub lines-more : (bytes : List ℕ) (before : List (List ℕ)) (rest line after : List ℕ)
    → lines_of bytes ≡ before ++ lines_of rest → rest ≢ [] → IsFirstLine rest line after
    → lines_of bytes ≡ before ++ (line ∷ lines_of after)
lines-more bytes before rest line after lines some first = lines
    ∙ ap (λ (ls : List (List ℕ)). before ++ ls) (lines_of-first rest line after some first)

pub read_skipped : (bytes : List ℕ) (first : ℕ) (steps : List Step) (n : ℕ) (rest line after : List ℕ)
    → HaveRead bytes first steps n rest → rest ≢ [] → IsFirstLine rest line after → Reads line Skipped
    → HaveRead bytes first steps (n + 1) after
read_skipped bytes first steps n rest line after read some cut skipped =
    let shorter = first_line_shorter rest line after some cut in
    let one_more = length_push read.before line in
    record {
      before = read.before ++ line ∷ [];
      says = steps-skipped first read.before steps line read.says skipped;
      number = let number = read.number in omega arith;
      lines = lines-more bytes read.before rest line after read.lines some cut
          ∙ sym (append_assoc read.before (line ∷ []) (lines_of after));
      room = let room = read.room in omega arith;
    }

pub read_said : (bytes : List ℕ) (first : ℕ) (steps : List Step) (n : ℕ) (rest line after : List ℕ) (act : Act)
    → HaveRead bytes first steps n rest → rest ≢ [] → IsFirstLine rest line after → Reads line (Says act)
    → HaveRead bytes first (steps ++ record { line = n; act = act } ∷ []) (n + 1) after
read_said bytes first steps n rest line after act read some cut said =
    let shorter = first_line_shorter rest line after some cut in
    let one_more = length_push read.before line in
    record {
      before = read.before ++ line ∷ [];
      says = steps-said first read.before steps line act n read.says said read.number;
      number = let number = read.number in omega arith;
      lines = lines-more bytes read.before rest line after read.lines some cut
          ∙ sym (append_assoc read.before (line ∷ []) (lines_of after));
      room = let room = read.room in omega arith;
    }

pub some_left : (xs : List ℕ) (empty : Bool) → empty ≡ eqb (length xs) 0 → empty ≡ false → xs ≢ []
some_left [] empty is false_is same = false≢true (sym false_is ∙ is)
some_left (x ∷ xs) empty is false_is same = cc

pub part_refused : (bytes : List ℕ) (first : ℕ) (steps : List Step) (n : ℕ) (rest line after : List ℕ)
    (why : LineFault) (fault : ScriptFault) → HaveRead bytes first steps n rest → rest ≢ []
    → IsFirstLine rest line after → IsLineFault line why → fault ≡ line_fault n why → IsPartRefused bytes first fault
part_refused bytes first steps n rest line after why fault read some cut refused is = record {
  before = read.before;
  line = line;
  after = lines_of after;
  steps = steps;
  why = why;
  lines = lines-more bytes read.before rest line after read.lines some cut;
  says = read.says;
  refused = refused;
  number = is ∙ ap (λ (k : ℕ). line_fault k why) read.number;
}
