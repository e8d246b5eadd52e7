use Rattle.std.proofs.Common.{sym, ◌∙◌, ◌++◌, ◌∷◌, [], inl, inr, refl}
use Rattle.workload_search.proofs.Batches.{tally_room, batch_kept, batch_left}
use Rattle.workload_search.proofs.trials.Trials.try_one.Goals as goal
use Rattle.workload_search.proofs.trials.Trials.try_one.Goals.{else-self-via-then-self+else-passes}
use Rattle.workload_search.proofs.trials.Trials.try_one.Goals.{else-self-via-else-self}

pub judge_longer-requires-clause-prefix : goal.judge_longer-requires-clause-prefix
judge_longer-requires-clause-prefix g c = (c.args.beginning.now.items, c.requires.prefix)

pub add-requires : goal.add-requires
add-requires g c = tally_room (g.J.Judge.search c.args.self.now.judge.now) c.args.self.now.keeps 1 c.args.batch.now
    c.requires.room

pub returns-in_ok-push : goal.returns-in_ok-push
returns-in_ok-push g c = λ sequences is.
    batch_kept (g.J.Judge.search c.args.self.now.judge.now) c.args.self.now.keeps sequences c.extended-places.result
    (c.args.beginning.now.items ++ c.args.place ∷ []) c.in_ok-verdict.verdict c.args.batch.now _ is
    c.extended-places.ensures (c.in_ok-verdict.ensures c.args.beginning.now.items c.requires.prefix)
    (c.add.ensures is.tried is.tally) c.if-self.true (sym c.passes.ensures ∙ c.if-passes.true)
    c.in_ok-push.ensures.items

pub returns-else-self : goal.returns-else-self
returns-else-self g c = λ sequences is.
    batch_left (g.J.Judge.search c.args.self.now.judge.now) c.args.self.now.keeps sequences
    c.extended-places.result.items (c.args.beginning.now.items ++ c.args.place ∷ []) c.in_ok-verdict.verdict
    c.args.batch.now _ is c.extended-places.ensures
    (c.in_ok-verdict.ensures c.args.beginning.now.items c.requires.prefix) (c.add.ensures is.tried is.tally)
    (elim c.else-self.branch [
      | else-self-via-then-self+else-passes w ↦ inr (sym w.passes.ensures ∙ w.if-passes.false)
      | else-self-via-else-self w ↦ inl w.if-self.false
    ]) refl
