use Rattle.std.proofs.Common.{◌≡◌, ◌+◌, true, false, sym, subst, ◌∙◌}
use Rattle.set_families.proofs.Links.{IsWidening, widen_more, widen_skip}
use Rattle.set_families.proofs.closed_sets.ClosedSets.widened.Goals as goal
use Rattle.set_families.proofs.closed_sets.ClosedSets.widened.Goals.{then-has, else-has}

pub loop-id-preserved : goal.loop-id-preserved
loop-id-preserved c =
    let graph = c.args.self.now in
    let id = c.loop-id.id in
    let so_far = c.loop-id.invariant.so_far in
    record {
      so_far = elim c.if-has.branch [
        | then-has w ↦ subst (IsWidening graph.deps.now c.args.undecided c.args.part (id + 1)) (sym w.wider-is)
            (widen_more graph.deps.now c.args.undecided c.args.part id c.loop-id.wider so_far graph.closures
            graph.standings graph.closed graph.standing c.loop-id-test.true)
        | else-has w ↦ subst (IsWidening graph.deps.now c.args.undecided c.args.part (id + 1)) (sym w.wider-is)
            (widen_skip graph.deps.now c.args.undecided c.args.part id c.loop-id.wider so_far
            (λ is. let clash : false ≡ true = sym w.if-has.false ∙ c.has.ensures.1 is in cc))
      ];
    }
