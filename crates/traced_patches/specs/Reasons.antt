-- Why a patch depends on an earlier one.
use Rattle.std.specs.Prelude.{ℕ, List, [], ◌∷◌, ◌++◌, Bool, if◌then◌else◌, codes}
use Rattle.crash_model.specs.RuleTexts.{rule_text}
use Rattle.traced_patches.specs.declared.reasons.Reason.{Reason}
use Rattle.traced_patches.specs.declared.reasons.Reason.TheVariants.{Overlap, Block, Group, Wait, Rule}

abbrev pub reason_text : Reason → List ℕ
reason_text Overlap = codes "overlap"
reason_text Block = codes "block"
reason_text Group = codes "group"
reason_text Wait = codes "wait"
reason_text (Rule rule) = rule_text rule

-- the reasons that are no rule
abbrev pub first_reasons : Bool → Bool → Bool → Bool → List Reason
first_reasons overlap block group wait =
    (if overlap then Overlap ∷ [] else []) ++ (if block then Block ∷ [] else []) ++ (if group then Group ∷ [] else [])
    ++ (if wait then Wait ∷ [] else [])
