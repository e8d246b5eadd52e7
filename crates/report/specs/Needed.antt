-- Rules and lines that a script cannot do without, and what is reported of them.
use Rattle.std.specs.Prelude.{ℕ, Bool}
use Rattle.patch_sets.specs.Ends.{IsDifference}
use Rattle.crash_model.specs.Tracing.{Tracing}
use Rattle.question_model.specs.Enough.{AreEnough, rules_but}
use Rattle.question_model.specs.EnoughLines.{all_waits, AreEnoughLines}
use Rattle.enough_deciding.specs.Lines.{waits_of}
use Rattle.enough_deciding.specs.Rules.{tracing_of}
use Rattle.enough_deciding.specs.declared.lines.LineOracle.{LineOracle}
use Rattle.enough_deciding.specs.declared.oracle.RuleOracle.{RuleOracle}
use Rattle.report.specs.OnChoices.{IsNeedOfLines, IsNeedOfRules}
use Rattle.report.specs.Found.{Need}

-- all rules but those of the group are not enough
abbrev pub CannotSpareRules : {A : Type 0} → RuleOracle A → ℕ → Type 0
CannotSpareRules o group =
    ¬ (AreEnough o.demands.now o.base.now (tracing_of o.base.now o.traced.now) (rules_but o.traced.now.rules group))

-- all lines but those of the group are not enough
abbrev pub CannotSpareLines : {A : Type 0} → LineOracle A → ℕ → Type 0
CannotSpareLines o group =
    (rest : ℕ) → IsDifference (all_waits o.traced.now.waits) group rest
    → ¬ (AreEnoughLines o.demands.now o.base.now o.traced.now.rules (waits_of o.base.now o.traced.now) rest)

-- what is reported of rules and of lines that an oracle cannot spare, in a state of tracing
abbrev pub IsNeedByRules : {A : Type 0} → Bool → RuleOracle A → Tracing → Need → Type 0
IsNeedByRules explain o s need =
    IsNeedOfRules (record { explain = explain; demands = o.demands.now }) o.traced.now.rules o.base.now s need

abbrev pub IsNeedByLines : {A : Type 0} → Bool → LineOracle A → Tracing → Need → Type 0
IsNeedByLines explain o s need = IsNeedOfLines explain o.traced.now.rules o.demands.now o.base.now s need
