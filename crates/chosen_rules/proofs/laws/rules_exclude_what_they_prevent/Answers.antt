use Rattle.std.proofs.Common.{[]}
use Rattle.patch_sets.proofs.Lists.{in_none}
use Rattle.chosen_rules.proofs.Excluded.{not_excluded, closed_too, failing_too}
use Rattle.chosen_rules.proofs.laws.rules_exclude_what_they_prevent.Goals as goal

pub returns-clause-closed : goal.returns-clause-closed
returns-clause-closed c = λ rules base s bare ruled set without by. (
  λ closed. (
    closed_too rules base s ruled by set [] bare without (λ rule is out. in_none rule is) closed,
    not_excluded rules base s ruled by set closed,
  ),
  λ it. closed_too [] base s bare without set rules ruled by it.1 it.0,
)

pub returns-clause-failing : goal.returns-clause-failing
returns-clause-failing c = λ demands rules base s bare ruled set without by. (
  λ failing. (
    failing_too rules base s ruled by set [] bare without (λ rule is out. in_none rule is) demands failing,
    not_excluded rules base s ruled by set failing.closed,
  ),
  λ it. failing_too [] base s bare without set rules ruled by it.1 demands it.0,
)
