-- What each step of a chain of `clap`'s builders makes of an option.
use Rattle.std.proofs.Common.{◌≡◌, ◌∙◌, ◌++◌, ℕ, List, [], ◌∷◌, Bool, true, false, Option, Some, length-append, ap, ap₂}
use Rattle.std.proofs.Common.{refl, arith}
use Rattle.std.specs.Prelude.{not, ◌&&◌}
use Rattle.std.specs.Borrow.{Bor}
use Rattle.clap.specs.Words.{AddsArg, AddsConflicts, AddsRequirements, App, Rule, app_of, rule_of, with_rule}
use Rattle.clap.specs.Walk.{is_empty}
use Rattle.clap.specs.declared.builder.arg.Arg.{Arg}
use Rattle.clap.specs.declared.builder.arg.ArgPredicate.{ArgPredicate}
use Rattle.clap.specs.declared.builder.command.Command.{Command}
use Rattle.clap.specs.declared.builder.value_parser.ValueParser.{ValueParser}
use Rattle.command_line.specs.Options.{Is, bound}

-- one more option of the program
pub added : (old new : Command) (a : Arg) (app : App) (rule : Rule) → app_of old ≡ app → Is a rule → AddsArg old a new
    → app_of new ≡ with_rule app rule
added old new a app rule before is adds = adds.shape is.1 ∙ ap₂ with_rule before is.0

-- a step that sets a field
pub set : (f : Rule → Rule) (a b d : Arg) (rule : Rule) → b ≡ d → rule_of d ≡ f (rule_of a) → d.global ≡ a.global
    → Is a rule → Is b (f rule)
set f a b d rule step made local is =
    (ap rule_of step ∙ (made ∙ ap f is.0), ap (λ (x : Arg). x.global) step ∙ (local ∙ is.1))

pub parsing : (a b : Arg) (rule : Rule) (parser : ValueParser) → Is a rule
    → b ≡ record a { value_parser = b.value_parser } → b.value_parser ≡ Some parser
    → Is b (record rule { parser = Some parser })
parsing a b rule parser is step given = (
  ap rule_of step ∙ ap₂ (λ (r : Rule) (p : Option ValueParser). record r { parser = p }) is.0 given,
  ap (λ (x : Arg). x.global) step ∙ is.1,
)

none_left : {X : Type 0} (xs : List X) (x : X) → is_empty (xs ++ x ∷ []) ≡ false
none_left xs x = grind (arith, length-append xs (x ∷ []))

no_free : (exclusive conflicts needs rest : Bool) → conflicts ≡ false
    → (not exclusive && (conflicts && (needs && rest))) ≡ false
no_free true conflicts needs rest none = refl
no_free false conflicts needs rest none = ap (λ (b : Bool). b && (needs && rest)) none

no_free_needs : (exclusive conflicts needs rest : Bool) → needs ≡ false
    → (not exclusive && (conflicts && (needs && rest))) ≡ false
no_free_needs true conflicts needs rest none = refl
no_free_needs false true needs rest none = ap (λ (b : Bool). b && rest) none
no_free_needs false false needs rest none = refl

abbrev unconditional : Arg → Bool
unconditional a = is_empty a.r_ifs.items
    && (is_empty a.r_ifs_all.items && (is_empty a.r_unless.items && is_empty a.r_unless_all.items))

pub conflicts_with : (a b : Arg) (rule : Rule) (id : Bor (List ℕ)) → Is a rule → AddsConflicts a b (id ∷ [])
    → Is b (bound rule)
conflicts_with a b rule id is step =
    let some : is_empty b.conflicts.items ≡ false = ap is_empty step.1 ∙ none_left a.conflicts.items id in
    let free = no_free a.exclusive (is_empty b.conflicts.items) (is_empty a.needs.items) (unconditional a) some in (
      ap rule_of step.0 ∙ ap₂ (λ (r : Rule) (f : Bool). record r { is_free = f }) is.0 free,
      ap (λ (x : Arg). x.global) step.0 ∙ is.1,
    )

pub requires_arg : (a b : Arg) (rule : Rule) (need : ArgPredicate × Bor (List ℕ)) → Is a rule
    → AddsRequirements a b (need ∷ []) → Is b (bound rule)
requires_arg a b rule need is step =
    let some : is_empty b.needs.items ≡ false = ap is_empty step.1 ∙ none_left a.needs.items need in
    let free =
    no_free_needs a.exclusive (is_empty a.conflicts.items) (is_empty b.needs.items) (unconditional a) some in (
      ap rule_of step.0 ∙ ap₂ (λ (r : Rule) (f : Bool). record r { is_free = f }) is.0 free,
      ap (λ (x : Arg). x.global) step.0 ∙ is.1,
    )
