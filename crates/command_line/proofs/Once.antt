-- One more rule of an option.
use Rattle.std.proofs.Common.{◌≡◌, ◌∙◌, ap₂, map, sym, take, ◌+◌, ℕ, zero, suc, ◌<◌, List, [], ◌∷◌, ◌++◌, Bool, true}
use Rattle.std.proofs.Common.{false, length, get_or, arith}
use Rattle.std.proofs.Common.{refl}
use mathlib.Core.Bool.{true≢false}
use Rattle.std.specs.Prelude.{◌||◌}
use Rattle.std.specs.Borrow.{Bor}
use Rattle.std.proofs.lemmas.List.{map-append, map_more}
use Rattle.std.proofs.lemmas.List.Quantifiers.{all_pairs_push}
use Rattle.clap.specs.Walk.{Text, texts}
use Rattle.crash_model.specs.RuleTexts.{rule_text}
use Rattle.crash_model.specs.ChosenRules.{has_rule, is_same_rule}
use Rattle.crash_model.specs.declared.rules.Rule.{Rule}
use Rattle.command_line.specs.Given.{AreOnce}

neither : (one other : Bool) → (one || other) ≡ false → (one ≡ false) × (other ≡ false)
neither true other none = absurd (true≢false none)
neither false other none = (refl, none)

-- a rule that a list lacks is none of its rules
none_same : (rules : List Rule) (rule : Rule) → has_rule rules rule ≡ false → (k : ℕ) (d : Rule) → k < length rules
    → is_same_rule rule (get_or rules k d) ≡ false
none_same [] rule none k d below = absurd (omega arith)
none_same (other ∷ rules) rule none zero d below =
    (neither (is_same_rule rule other) (has_rule rules rule) none).0
none_same (other ∷ rules) rule none (suc k) d below =
    none_same rules rule (neither (is_same_rule rule other) (has_rule rules rule) none).1 k d (omega arith)

pub once_more : (rules : List Rule) (rule : Rule) → AreOnce rules → has_rule rules rule ≡ false
    → AreOnce (rules ++ rule ∷ [])
once_more rules rule once new = all_pairs_push (λ (one other : Rule). is_same_rule other one ≡ false) rules rule once
    (none_same rules rule new)

-- the rules that are read of some words, and that of the next word
pub one_more_word : (rules : List Rule) (rule : Rule) (words : List (Bor Text)) (i : ℕ) (d : Bor Text)
    → i < length words → map rule_text rules ≡ texts (take i words) → (get_or words i d).now ≡ rule_text rule
    → map rule_text (rules ++ rule ∷ []) ≡ texts (take (i + 1) words)
one_more_word rules rule words i d below so_far is =
    map-append rule_text rules (rule ∷ [])
    ∙ (ap₂ (λ (xs : List Text) (t : Text). xs ++ t ∷ []) so_far (sym is)
    ∙ sym (map_more (λ (w : Bor Text). w.now) words i d below))
