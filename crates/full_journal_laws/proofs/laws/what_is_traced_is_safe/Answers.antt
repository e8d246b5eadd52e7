use Rattle.full_journal_laws.proofs.Safe.{traced_is_safe}
use Rattle.full_journal_laws.proofs.laws.what_is_traced_is_safe.Goals as goal

pub returns : goal.returns
returns c = traced_is_safe
