-- What the words of a command line say, by what `clap` finds in them.
use Rattle.std.specs.Prelude.{◌≡◌, ◌==◌, ◌^◌, ℕ, List, Option, Some, None, Bool, true, false, bit_or, codes, fold, map}
use Rattle.std.specs.Prelude.{option_map}
use Rattle.std.specs.List.{list_any, slice_split}
use Rattle.std.specs.Str.{bytes_eq}
use Rattle.std.specs.Str.Parse.{digits_value, without_leading_plus}
use Rattle.clap.specs.Values.{IsUnsignedIn}
use Rattle.clap.specs.Walk.{texts}
use Rattle.clap.specs.Words.{Row, Text, first_of, matches_of, one_of}
use Rattle.clap.specs.declared.builder.value_parser.ValueParser.{ValueParser}
use Rattle.crash_model.specs.RuleTexts.{rule_text}
use Rattle.crash_model.specs.Texts.{module_text}
use Rattle.crash_model.specs.declared.modules.Module.{Module}
use Rattle.crash_model.specs.declared.separators.TheConstants.{COMMA}
use Rattle.crash_model.specs.declared.settings.Settings.{Settings}
use Rattle.question_model.specs.declared.question.Question.{Question}
use Rattle.question_model.specs.declared.question.Question.TheVariants.{Decide, Enough, EnoughLines, FailingSets}
use Rattle.question_model.specs.declared.question.Question.TheVariants.{Search, SearchRules}
use Rattle.command_line.specs.Given.{words_said}
use Rattle.command_line.specs.Options.{TakesModules, module_words, program}
use Rattle.command_line.specs.declared.Call.{Call}

-- what is found in these words: each option's values, or its default
abbrev pub AreFound : List Text → List Row → Type 0
AreFound words rows = (modules : ValueParser) × TakesModules modules × (rows ≡ matches_of (program modules) words)

-- the number that a text writes
abbrev pub number_in : Text → ℕ
number_in text = digits_value 10 (without_leading_plus text)

-- the number that an option is given, or has by default
abbrev pub number_said : Text → List Row → Option ℕ
number_said option rows = option_map number_in (one_of option rows)

-- an option has a number between these two
abbrev pub IsNumberWithin : ℕ → ℕ → Text → List Row → Type 0
IsNumberWithin least most option rows =
    (text : Text) × (one_of option rows ≡ Some text) × IsUnsignedIn least most text

-- what holds of what is found, if `clap` takes the words
pub record IsParsed (rows : List Row) : Type 0 where
  pub blocks : IsNumberWithin 16 128 (codes "blocks") rows
  pub journal : IsNumberWithin 0 122 (codes "journal") rows
  pub limit : IsNumberWithin 1 32768 (codes "limit") rows
  pub workers : IsNumberWithin 1 16 (codes "workers") rows
  pub search : (text : Text) → one_of (codes "search") rows ≡ Some text → IsUnsignedIn 1 8 text
  pub kind : (text : Text) → first_of (codes "module") rows ≡ Some text
      → list_any (λ name. bytes_eq name text) module_words ≡ true

-- a flag is given, or is not
abbrev pub IsOn : Text → List Row → Type 0
IsOn flag rows = one_of flag rows ≡ Some (codes "true")

abbrev pub IsOff : Text → List Row → Type 0
IsOff flag rows = one_of flag rows ≡ Some (codes "false")

abbrev pub IsFlag : Text → List Row → Bool → Type 0
IsFlag flag rows is_set = (IsOn flag rows → is_set ≡ true) × (IsOff flag rows → is_set ≡ false)

abbrev pub IsModuleSaid : List Row → Module → Type 0
IsModuleSaid rows kind = (text : Text) → first_of (codes "module") rows ≡ Some text → text ≡ module_text kind

-- the set of the numbers that some texts write
abbrev pub set_of : List Text → ℕ
set_of texts = fold (λ set text. bit_or set (2 ^ number_in text)) 0 texts

-- the set of the numbers between the commas of a word
abbrev pub faults_in : Text → ℕ
faults_in word = set_of (slice_split (λ b. b == COMMA) word)

-- only the faults that the words name count, or all of them where they name none
abbrev pub AreFaultsSaid : List Row → Option ℕ → Type 0
AreFaultsSaid rows counted = option_map faults_in (first_of (codes "faults") rows) ≡ counted

-- the question that is asked
pub record IsQuestionSaid (rows : List Row) (question : Question) : Type 0 where
  pub decide : IsOn (codes "decide") rows → question ≡ Decide
  pub search : IsOff (codes "decide") rows → IsOff (codes "enough") rows → (n : ℕ)
      → number_said (codes "search") rows ≡ Some n → question ≡ Search n
  pub search_rules : IsOff (codes "decide") rows → IsOn (codes "enough") rows → (n : ℕ)
      → number_said (codes "search") rows ≡ Some n → question ≡ SearchRules n
  pub enough : IsOff (codes "decide") rows → number_said (codes "search") rows ≡ None → IsOn (codes "enough") rows
      → IsOff (codes "syncs") rows → question ≡ Enough
  pub lines : IsOff (codes "decide") rows → number_said (codes "search") rows ≡ None → IsOn (codes "enough") rows
      → IsOn (codes "syncs") rows → question ≡ EnoughLines
  pub sets : IsOff (codes "decide") rows → number_said (codes "search") rows ≡ None → IsOff (codes "enough") rows
      → (n : ℕ) → number_said (codes "limit") rows ≡ Some n → question ≡ FailingSets n

-- the settings that the words give
pub record AreSettingsSaid (rows : List Row) (settings : Settings) : Type 0 where
  pub kind : IsModuleSaid rows settings.«module»
  pub without : map rule_text settings.without.items ≡ words_said (codes "without") rows
  pub with : map rule_text settings.with.items ≡ words_said (codes "with") rows
  pub blocks : number_said (codes "blocks") rows ≡ Some settings.blocks
  pub journal : number_said (codes "journal") rows ≡ Some settings.journal
  pub json : IsFlag (codes "json") rows settings.json
  pub numbers : IsFlag (codes "numbers") rows settings.numbers
  pub explain : IsFlag (codes "explain") rows settings.explain
  pub whole_blocks : IsFlag (codes "whole-blocks") rows settings.whole_blocks
  pub generations : IsFlag (codes "generations") rows settings.generations
  pub strict : IsFlag (codes "strict") rows settings.strict
  pub atomic : IsFlag (codes "atomic") rows settings.atomic
  pub durable : IsFlag (codes "durable") rows settings.durable
  pub counted : AreFaultsSaid rows settings.counted

-- the call that the words give
pub record IsSaid (rows : List Row) (call : Call) : Type 0 where
  pub script : option_map (λ name. name.now) call.script ≡ first_of (codes "SCRIPT") rows
  pub settings : AreSettingsSaid rows call.request.settings
  pub question : IsQuestionSaid rows call.request.question
  pub workers : number_said (codes "workers") rows ≡ Some call.request.workers

abbrev pub IsCallSaid : List Text → Call → Type 0
IsCallSaid words call = (rows : List Row) × AreFound words rows × IsSaid rows call
