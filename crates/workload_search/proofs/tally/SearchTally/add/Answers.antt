use Rattle.std.proofs.Common.{refl, ◌∙◌}
use Rattle.std.proofs.lemmas.List.{with_items_is}
use Rattle.workload_search.proofs.Added.{added_refused, added_passing, added_failing, kinds_added}
use Rattle.workload_search.proofs.tally.SearchTally.add.Goals as goal

pub returns-in-Refused : goal.returns-in-Refused
returns-in-Refused g c = λ tried is.
    added_refused tried c.args.places.now.items c.args.verdict.now c.args.self.now _ is _ c.place_of.result
    c.in-Refused.is c.place_of.ensures.exact refl refl refl refl

pub returns-in-Passes : goal.returns-in-Passes
returns-in-Passes g c = λ tried is.
    added_passing tried c.args.places.now.items c.args.verdict.now c.args.self.now _ is c.in-Passes.is refl refl refl
    refl

pub returns-in-Fails : goal.returns-in-Fails
returns-in-Fails g c = λ tried is.
    added_failing tried c.args.places.now.items c.args.verdict.now c.args.self.now _ is _ c.in-Fails.is refl refl refl
    (kinds_added _ _ _ _ _ _ c.deref_mut.ensures.value
    (with_items_is c.args.self.now.kinds c.add_kinds.new.kinds
    (c.add_kinds.ensures.long ∙ c.deref_mut.ensures.len)) c.add_kinds.ensures)
