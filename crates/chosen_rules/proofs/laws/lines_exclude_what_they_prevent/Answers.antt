use Rattle.chosen_rules.proofs.Prevented.{not_excluded, fault_stays}
use Rattle.chosen_rules.proofs.laws.lines_exclude_what_they_prevent.Goals as goal

pub returns : goal.returns
returns c = λ demands rules base s some others patches changed fault set graph other has. (
  λ too. not_excluded demands rules base s others changed other fault set too,
  λ none. fault_stays demands rules base s some patches graph fault set has others changed other none,
)
