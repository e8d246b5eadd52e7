use Rattle.std.proofs.Common.{◌≡◌, ◌<◌, false, true, length, arith, sym, subst, ◌∙◌}
use Rattle.patch_graph.specs.Independent.{StandsOn}
use Rattle.patch_graph.proofs.Independent.{mask_stays, mask_without, mask_own}
use Rattle.patch_graph.proofs.graph.take_out.Goals as goal
use Rattle.patch_graph.proofs.graph.take_out.Goals.{then-not-is_subset, else-not-is_subset}

pub loop-p-preserved : goal.loop-p-preserved
loop-p-preserved c =
    let so_far = c.loop-p.invariant in
    let inside : c.loop-p.p < length c.loop-p.independent = omega
    (arith, c.loop-p-test.true, c.loop-p.auto.p-end, c.requires, so_far.sized) in
    elim c.if-not-is_subset.branch [
      | then-not-is_subset w ↦ rw w.independent-is (mask_without c.args.id c.args.deps c.loop-p.p c.args.independent.now
          c.loop-p.independent so_far w.without.result inside
          (λ sub. let same : false ≡ true = sym w.if-not-is_subset.true ∙ c.is_subset.ensures.1 sub in cc)
          w.without.ensures.others)
      | else-not-is_subset w ↦ rw w.independent-is (mask_stays c.args.id c.args.deps c.loop-p.p c.args.independent.now
          c.loop-p.independent so_far (c.is_subset.ensures.0 w.if-not-is_subset.false))
    ]

pub returns : goal.returns
returns c =
    let all : c.loop-p.p ≡ c.args.id = omega (arith, c.loop-p-test.false, c.loop-p.auto.p-end) in
    let inside : c.args.id < length c.loop-p.independent = omega (arith, c.requires, c.loop-p.invariant.sized) in
    let so_far = subst (λ n. StandsOn c.args.id c.args.deps n c.args.independent.now c.loop-p.independent) all
    c.loop-p.invariant in
    mask_own c.args.id c.args.deps c.args.independent.now c.loop-p.independent so_far c.without-2.result inside
    c.without-2.ensures.others
