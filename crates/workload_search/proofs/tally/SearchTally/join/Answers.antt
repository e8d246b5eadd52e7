use Rattle.std.proofs.Common.{refl, ◌∙◌}
use Rattle.std.proofs.lemmas.List.{with_items_is}
use Rattle.workload_search.proofs.Added.{kinds_joined}
use Rattle.workload_search.proofs.Tallied.{tally_joined}
use Rattle.workload_search.proofs.tally.SearchTally.join.Goals as goal

pub returns : goal.returns
returns g c = λ tried others is after.
    tally_joined tried others c.args.later.now c.args.self.now _ is after (record {
      workloads = refl;
      failing = refl;
      refused = c.join_counts.ensures;
      kinds = kinds_joined _ _ _ _ _ _ c.deref.ensures.value c.deref_mut.ensures.value
          (with_items_is c.args.self.now.kinds c.join_kinds.new.kinds
          (c.join_kinds.ensures.long ∙ c.deref_mut.ensures.len)) c.join_kinds.ensures;
    })
