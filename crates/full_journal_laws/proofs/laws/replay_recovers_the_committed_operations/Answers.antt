use Rattle.full_journal_laws.proofs.Final.{recovered}
use Rattle.full_journal_laws.proofs.laws.replay_recovers_the_committed_operations.Goals as goal

pub returns : goal.returns
returns c = recovered
