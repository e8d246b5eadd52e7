use Rattle.std.proofs.Common.{◌≡◌, ◌+◌, ◌<◌, true, false, length, arith, sym, subst, ◌∙◌}
use Rattle.std.proofs.lemmas.Option.{slice_get_within}
use Rattle.patch_graph.specs.Graph.{Overlaps, OverlapsAt}
use Rattle.patch_graph.proofs.Patches.{at_read, same_at}
use Rattle.patch_graph.proofs.Steps.{Collects, collects_none, collects_one, collects_skip}
use Rattle.patch_graph.proofs.graph.overlapped_by.Goals as goal
use Rattle.patch_graph.proofs.graph.overlapped_by.Goals.{then-overlaps, else-overlaps}

pub loop-id-init : goal.loop-id-init
loop-id-init c = collects_none (OverlapsAt c.args.patches.now c.args.later.now)

pub loop-id-preserved : goal.loop-id-preserved
loop-id-preserved c =
    let patches = c.args.patches.now in
    let later = c.args.later.now in
    let id = c.loop-id.id in
    let x = c.index-patches-id.result in
    elim c.if-overlaps.branch [
      | then-overlaps w ↦
          let is : OverlapsAt patches later id = (
            x,
            at_read patches id x c.loop-id-test.true c.index-patches-id.is,
            c.overlaps.ensures.0 w.if-overlaps.true,
          ) in
          subst (Collects (OverlapsAt patches later) (id + 1)) (sym (w.ids-is ∙ w.with-ids.ensures))
          (collects_one (OverlapsAt patches later) id c.loop-id.ids c.loop-id.invariant is)
      | else-overlaps w ↦
          subst (Collects (OverlapsAt patches later) (id + 1)) (sym w.ids-is)
          (collects_skip (OverlapsAt patches later) id c.loop-id.ids c.loop-id.invariant
          (λ is. let no : false ≡ true = sym w.if-overlaps.false
          ∙ c.overlaps.ensures.1 (subst (λ y. Overlaps y later)
          (same_at patches id x c.loop-id-test.true c.index-patches-id.is is.0 is.1) is.2) in cc))
    ]

pub returns : goal.returns
returns c = λ id. (
  λ is. ((c.loop-id.invariant id).0 is).1,
  λ over. let inside : id < length c.args.patches.now = slice_get_within c.args.patches.now id over.0 over.1 in
      (c.loop-id.invariant id).1 (omega (arith, inside, c.loop-id-test.false), over),
)
