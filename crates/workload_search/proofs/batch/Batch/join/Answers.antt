use Rattle.workload_search.proofs.Batches.{batch_joined, tallies_room}
use Rattle.workload_search.proofs.batch.Batch.join.Goals as goal

pub join-requires : goal.join-requires
join-requires g c = tallies_room c.args.self.now c.args.later c.requires

pub returns : goal.returns
returns g c = λ s keeps sequences others is after.
    batch_joined s keeps sequences others c.args.self.now c.args.later _ is after
    (c.join.ensures is.tried after.tried is.tally after.tally) c.in_ok-append.ensures.items
