-- The options, as `clap` reads words by them. Their help is left out.
use Rattle.std.specs.Prelude.{◌≡◌, ℕ, List, [], ◌∷◌, Some, codes, false, true, fold}
use Rattle.std.specs.Borrow.{Bor}
use Rattle.clap.specs.Simple.{on_top}
use Rattle.clap.specs.Walk.{texts}
use Rattle.clap.specs.Words.{App, Rule, Text, app_of, new_app, new_rule, rule_of, with_rule}
use Rattle.clap.specs.declared.builder.action.ArgAction.TheVariants.{Append, Set, SetTrue}
use Rattle.clap.specs.declared.builder.arg.Arg.{Arg}
use Rattle.clap.specs.declared.builder.command.Command.{Command}
use Rattle.clap.specs.declared.builder.value_parser.ValueParser.{ValueParser}
use Rattle.clap.specs.declared.builder.value_parser.ValueParser.TheVariants.{Names, Unsigned}

-- an option that has no value, that has one, that has several, and whose value is a number
abbrev pub flag : Text → Rule
flag name = record (new_rule name) { long = Some name; action = Some SetTrue }

abbrev pub value : Text → Rule
value name = record (new_rule name) { long = Some name; action = Some Set; value_names = 1 }

abbrev pub values : Text → Rule
values name = record (value name) { action = Some Append }

abbrev pub number : Text → ℕ → ℕ → Rule
number name least most = record (value name) { parser = Some (Unsigned least most) }

-- an option whose value is this one where the words give none
abbrev pub usually : Text → Rule → Rule
usually text rule = record rule { defaults = text ∷ [] }

-- an option that asks for another, or does not go with one
abbrev pub bound : Rule → Rule
bound rule = record rule { is_free = false }

abbrev pub input : List Rule
input = new_rule (codes "SCRIPT")
    ∷ usually (codes "16") (number (codes "blocks") 16 128)
    ∷ usually (codes "0") (number (codes "journal") 0 122)
    ∷ flag (codes "generations") ∷ []

-- the words that `--module` takes are those of a parser
abbrev pub ordering : ValueParser → List Rule
ordering modules = usually (codes "soft") (record (value (codes "module")) { parser = Some modules })
    ∷ values (codes "without") ∷ values (codes "with") ∷ flag (codes "whole-blocks") ∷ flag (codes "rules") ∷ []

abbrev pub faults : List Rule
faults = flag (codes "strict") ∷ flag (codes "atomic") ∷ flag (codes "durable") ∷ value (codes "faults") ∷ []

abbrev pub limits : List Rule
limits = usually (codes "4096") (number (codes "limit") 1 32768)
    ∷ usually (codes "1") (number (codes "workers") 1 16) ∷ []

abbrev pub questions : List Rule
questions = bound (flag (codes "decide")) ∷ bound (flag (codes "enough")) ∷ bound (flag (codes "syncs"))
    ∷ bound (number (codes "search") 1 8) ∷ []

abbrev pub reports : List Rule
reports = flag (codes "explain") ∷ flag (codes "json") ∷ bound (flag (codes "numbers")) ∷ flag (codes "options") ∷ []

abbrev pub with_rules : App → List Rule → App
with_rules app rules = fold with_rule app rules

abbrev pub program_alone : App
program_alone = on_top (λ s. record s { no_binary_name = true; has_version = true }) (new_app (codes "crashmap"))

abbrev pub program : ValueParser → App
program modules =
    with_rules (with_rules (with_rules (with_rules (with_rules (with_rules program_alone input) (ordering modules))
    faults) limits) questions) reports

abbrev pub module_words : List Text
module_words = codes "async" ∷ codes "soft" ∷ codes "meta" ∷ codes "full" ∷ []

-- a parser that takes the names of the modules
abbrev pub TakesModules : ValueParser → Type 0
TakesModules parser = (names : Bor (List (Bor Text))) × (parser ≡ Names names) × (texts names.now ≡ module_words)

-- ---- what the builders make

-- the argument is this option, and no subcommand has it
abbrev pub Is : Arg → Rule → Type 0
Is a rule = (rule_of a ≡ rule) × (a.global ≡ false)

-- one command is another with the options of the ordering
abbrev pub IsOrdered : App → Command → Type 0
IsOrdered before c =
    (modules : ValueParser) × TakesModules modules × (app_of c ≡ with_rules before (ordering modules))

abbrev pub IsProgram : Command → Type 0
IsProgram c = (modules : ValueParser) × TakesModules modules × (app_of c ≡ program modules)
