use Rattle.workload_search.proofs.Batches.{batch_none}
use Rattle.workload_search.proofs.batch.Batch.new.Goals as goal

pub returns : goal.returns
returns g c = λ s keeps. batch_none s keeps _ c.in_ok-new.ensures c.new-2.ensures.items
