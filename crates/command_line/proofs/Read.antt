-- What the getters of the matches read, by what `clap` promises of an option.
use Rattle.std.proofs.Common.{◌≡◌, ◌∙◌, ℕ, Bool, true, false, List, [], Option, Some, None, refl, sym, ap, arith, codes}
use Rattle.std.specs.Prelude.{Result, Ok, Err, option_map, unwrap_or}
use Rattle.std.specs.Borrow.{Bor}
use Rattle.std.specs.Str.Parse.{ParsesUnsigned}
use Rattle.clap.specs.Matches.{ReadsOne, first_value, one_text}
use Rattle.clap.specs.Values.{IsUnsignedIn}
use Rattle.clap.specs.Walk.{Row, Text, first_of, one_of, rows_of, texts}
use Rattle.clap.specs.declared.parser.matches.Found.{Found}
use Rattle.clap.proofs.WalkLemmas.{first_value-rows, one_text-rows}
use Rattle.command_line.specs.Ranges.{IsWithin}
use Rattle.command_line.specs.Said.{IsFlag, IsNumberWithin, number_in, number_said}

-- a text that passed a range reads as its number
number_read : (E : Type 0) (G : Text → Result ℕ E → Type 0) (low high : ℕ) (t : Text) (r : Option ℕ) → ReadsOne G t r
    → ((u : Text) (x : Result ℕ E) → G u x → ParsesUnsigned 64 10 u x) → IsUnsignedIn low high t
    → r ≡ Some (number_in t)
number_read E G low high t (Some n) read only passed = ap Some (only t (Ok n) read).1
number_read E G low high t None read only passed = absurd (only t (Err read.0) read.1 (passed.0, passed.1))

module _ (E : Type 0) (G : Text → Result ℕ E → Type 0)
    (only : (u : Text) (x : Result ℕ E) → G u x → ParsesUnsigned 64 10 u x) (f : Found) (name : Text) (r : Option ℕ)
    (value : (t : Text) → one_text f name ≡ Some t → ReadsOne G t r) where
  -- `get_one` of an option with a number
  pub number_got : (low high : ℕ) → IsNumberWithin low high name (rows_of f) → number_said name (rows_of f) ≡ r
  number_got low high within =
      let read = value within.0 (one_text-rows f name ∙ within.1) in
      ap (option_map number_in) within.1 ∙ sym (number_read E G low high within.0 r read only within.2)

  pub none_got : (low high : ℕ) → IsNumberWithin low high name (rows_of f) → r ≡ None → ⊥
  none_got low high within none =
      let read = value within.0 (one_text-rows f name ∙ within.1) in
      let some = number_read E G low high within.0 r read only within.2 in
      let apart : Some (number_in within.0) ≡ None = sym some ∙ none in
      cc

  -- and of one that may have none
  pub number_if_got : (one_text f name ≡ None → r ≡ None) → (low high : ℕ)
      → ((t : Text) → one_of name (rows_of f) ≡ Some t → IsUnsignedIn low high t) → number_said name (rows_of f) ≡ r
  number_if_got none low high within = go (one_of name (rows_of f)) refl
    where
      go : (o : Option Text) → one_of name (rows_of f) ≡ o → number_said name (rows_of f) ≡ r
      go None e = ap (option_map number_in) e ∙ sym (none (one_text-rows f name ∙ e))
      go (Some t) e = number_got low high (t, e, within t e)

-- a number that is said is in its range
pub number_in_range : (low high n : ℕ) (name : Text) (rows : List Row) → IsNumberWithin low high name rows
    → number_said name rows ≡ Some n → IsWithin low high n
number_in_range low high n name rows within said =
    let is : Some (number_in within.0) ≡ Some n = sym (ap (option_map number_in) within.1) ∙ said in
    let same : number_in within.0 ≡ n = cc in
    (omega (arith, within.2.2, same), omega (arith, within.2.3, same))

pub optional_in_range : (low high n : ℕ) (name : Text) (rows : List Row)
    → ((t : Text) → one_of name rows ≡ Some t → IsUnsignedIn low high t) → number_said name rows ≡ Some n
    → IsWithin low high n
optional_in_range low high n name rows within said = go (one_of name rows) refl
  where
    go : (o : Option Text) → one_of name rows ≡ o → IsWithin low high n
    go None e = let bad : None ≡ Some n = sym (ap (option_map number_in) e) ∙ said in cc
    go (Some t) e = number_in_range low high n name rows (t, e, within t e) said

-- `get_flag`
pub flag_got : (f : Found) (name : Text) (r : Bool) → (one_text f name ≡ Some (codes "true") → r ≡ true)
    → (one_text f name ≡ Some (codes "false") → r ≡ false) → IsFlag name (rows_of f) r
flag_got f name r on off = ((λ is. on (one_text-rows f name ∙ is)), (λ is. off (one_text-rows f name ∙ is)))

-- `get_strs`, with none where the option is not given
pub texts_got : (o : Option (Bor (List (Bor Text)))) (none got : Bor (List (Bor Text))) (all : Option (List Text))
    → got ≡ unwrap_or o none → none.now ≡ [] → option_map (λ s. texts s.now) o ≡ all → texts got.now ≡ unwrap_or all []
texts_got None none got all is empty found =
    ap (λ (s : Bor (List (Bor Text))). texts s.now) is
    ∙ (ap texts empty ∙ ap (λ (a : Option (List Text)). unwrap_or a []) found)
texts_got (Some s) none got all is empty found =
    ap (λ (s : Bor (List (Bor Text))). texts s.now) is ∙ ap (λ (a : Option (List Text)). unwrap_or a []) found

-- `get_str`
pub text_got : (f : Found) (name : Text) (o : Option (Bor Text)) (s : Bor Text)
    → option_map (λ s. s.now) o ≡ first_value f name → o ≡ Some s → (t : Text) → first_of name (rows_of f) ≡ Some t
    → t ≡ s.now
text_got f name o s got is t said =
    let same : Some s.now ≡ Some t =
    sym (ap (option_map (λ (s : Bor Text). s.now)) is) ∙ (got ∙ (first_value-rows f name ∙ said)) in
    cc

pub no_text_got : (f : Found) (name : Text) (o : Option (Bor Text)) → option_map (λ s. s.now) o ≡ first_value f name
    → o ≡ None → (t : Text) → first_of name (rows_of f) ≡ Some t → ⊥
no_text_got f name o got is t said =
    let apart : None ≡ Some t =
    sym (ap (option_map (λ (s : Bor Text). s.now)) is) ∙ (got ∙ (first_value-rows f name ∙ said)) in
    cc
