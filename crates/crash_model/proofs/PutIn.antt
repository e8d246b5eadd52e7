-- Orderings from which no rule is taken out.
use Rattle.std.proofs.Common.{◌≡◌, List, [], ◌∷◌, ◌++◌, refl, sym, ap, ◌∙◌, subst}
use Rattle.std.proofs.lemmas.List.{append-nil}
use Rattle.std.proofs.lemmas.List.Elements.{Contains-append_left, All-contains_itself}
use Rattle.crash_model.specs.Rules.{rules_of}
use Rattle.crash_model.specs.ChosenRules.{rules_in_first, kept_rules, rules_put_in, rules_under}
use Rattle.crash_model.specs.RuleFacts.{AreAmong}
use Rattle.crash_model.specs.declared.rules.Rule.{Rule}
use Rattle.crash_model.specs.declared.modules.Module.{Module}

all_stay : (rules : List Rule) → rules_in_first rules [] ≡ rules
all_stay [] = refl
all_stay (rule ∷ rules) = ap (λ (rest : List Rule). rule ∷ rest) (all_stay rules)

pub put_in_among : (kind : Module) (with : List Rule) → AreAmong (rules_of kind) (rules_under kind [] with)
put_in_among kind with =
    subst (λ (kept : List Rule). AreAmong (rules_of kind) (kept ++ rules_put_in kind [] with))
    (sym (all_stay (rules_of kind)))
    (λ k d within. Contains-append_left (rules_of kind) (rules_put_in kind [] with)
    _ (All-contains_itself (rules_of kind) k d within))

pub none_put_in : (kind : Module) → rules_under kind [] [] ≡ rules_of kind
none_put_in kind = append-nil (kept_rules kind []) ∙ all_stay (rules_of kind)
