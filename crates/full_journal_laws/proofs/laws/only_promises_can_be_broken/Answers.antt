use Rattle.full_journal_laws.proofs.Final.{recovered}
use Rattle.full_journal_laws.proofs.Failing.{only_broken}
use Rattle.full_journal_laws.proofs.laws.only_promises_can_be_broken.Goals as goal

pub returns : goal.returns
returns c rules whole asked base steps s patches set demands disk sound zeros names is_traced among graph closed are =
    only_broken asked base steps s patches set disk
    (recovered rules whole base steps s patches set disk sound zeros names is_traced among graph closed) demands are
