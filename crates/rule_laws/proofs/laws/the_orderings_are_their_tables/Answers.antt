use Rattle.rule_laws.proofs.Tables.{rules_are_rows}
use Rattle.rule_laws.proofs.laws.the_orderings_are_their_tables.Goals as goal

pub returns : goal.returns
returns c = rules_are_rows
