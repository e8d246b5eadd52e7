use Rattle.full_journal_laws.proofs.Final.{recovered}
use Rattle.full_journal_laws.proofs.Kept.{strictly_clean}
use Rattle.full_journal_laws.proofs.laws.nothing_that_the_script_keeps_is_lost.Goals as goal

pub returns : goal.returns
returns c rules whole base steps s patches set kept disk sound zeros names is_traced among graph closed keeps =
    strictly_clean base steps s patches set kept disk keeps
    (recovered rules whole base steps s patches set disk sound zeros names is_traced among graph closed)
