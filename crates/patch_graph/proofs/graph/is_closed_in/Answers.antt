use Rattle.std.proofs.Common.{◌≡◌, ◌<◌, true, false, length, get_or, arith, refl, sym, subst, ◌∙◌, below_more}
use Rattle.std.proofs.lemmas.List.{length-map}
use Rattle.patch_sets.specs.Sets.{Has, IsSubset}
use Rattle.crash_model.specs.Patches.{deps_of}
use Rattle.patch_graph.proofs.Patches.{deps_read}
use Rattle.patch_graph.proofs.graph.is_closed_in.Goals as goal
use Rattle.patch_graph.proofs.graph.is_closed_in.Goals.{else-has-via-then-has+else-not-is_subset, else-has-via-else-has}

pub returns-then-not-is_below : goal.returns-then-not-is_below
returns-then-not-is_below c =
    let patches = c.args.patches.now in (
      λ no. cc,
      λ closed. c.if-not-is_below.ensures.1 (λ id is. subst (λ n. id < n) (length-map patches (λ p. p.deps))
          (closed.known id is)),
    )

pub returns-then-not-is_subset : goal.returns-then-not-is_subset
returns-then-not-is_subset c =
    let patches = c.args.patches.now in
    let read = deps_read patches c.loop-id.id c.index-patches-id.result c.loop-id-test.true c.index-patches-id.is in (
      λ no. cc,
      λ closed. c.if-not-is_subset.ensures.1 (λ p dep. closed.whole c.loop-id.id p (c.if-has.ensures.0 refl)
          (subst (λ d. Has d p) (sym read) dep)),
    )

pub loop-id-preserved : goal.loop-id-preserved
loop-id-preserved c =
    let patches = c.args.patches.now in
    let read = deps_read patches c.loop-id.id c.index-patches-id.result c.loop-id-test.true c.index-patches-id.is in
    record {
      known = c.loop-id.invariant.known;
      whole = below_more (λ id. Has c.args.set id → IsSubset (get_or (deps_of patches) id 0) c.args.set) c.loop-id.id
          c.loop-id.invariant.whole
          (λ is. elim c.else-has.branch [
            | else-has-via-then-has+else-not-is_subset w ↦ subst (λ d. IsSubset d c.args.set) (sym read)
                (w.is_subset.ensures.0 w.if-not-is_subset.false)
            | else-has-via-else-has w ↦ let no : false ≡ true = sym w.if-has.false ∙ c.has.ensures.1 is in cc
          ]);
    }

pub returns : goal.returns
returns c =
    let patches = c.args.patches.now in (
      λ yes. record {
        known = λ id is. subst (λ n. id < n) (sym (length-map patches (λ p. p.deps))) (c.loop-id.invariant.known id is);
        whole = λ q p is dep. let inside : q < length patches = c.loop-id.invariant.known q is in
            c.loop-id.invariant.whole q (omega (arith, inside, c.loop-id-test.false)) is p dep;
      },
      λ closed. refl,
    )
