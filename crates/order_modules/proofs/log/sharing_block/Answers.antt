use Rattle.std.proofs.Common.{◌≡◌, ◌+◌, ◌<◌, true, false, length, arith, sym, subst, ◌∙◌}
use Rattle.std.specs.Prelude.{IsTrue, ◌&&◌, ◌==◌}
use Rattle.std.proofs.lemmas.Option.{slice_get_within}
use Rattle.crash_model.specs.declared.patches.Patch.{Patch}
use Rattle.patch_graph.proofs.Steps.{Collects, collects_none, collects_one, collects_skip}
use Rattle.order_modules.specs.Log.{SharesAt}
use Rattle.order_modules.proofs.Emitting.{one_at}
use Rattle.order_modules.proofs.log.sharing_block.Goals as goal
use Rattle.order_modules.proofs.log.sharing_block.Goals.{then-is_shared, else-is_shared}

pub loop-id-init : goal.loop-id-init
loop-id-init g c = collects_none (SharesAt c.args.whole c.args.graph.now c.args.block)

pub loop-id-preserved : goal.loop-id-preserved
loop-id-preserved g c =
    let graph = c.args.graph.now in
    let whole = c.args.whole in
    let block = c.args.block in
    let id = c.loop-id.id in
    let x = c.patch.result.now in
    let P = SharesAt whole graph block in
    elim c.if-is_shared.branch [
      | then-is_shared w ↦
          let is : P id = (x, c.patch.ensures.at, sym c.is_shared.ensures ∙ w.if-is_shared.true) in
          subst (Collects P (id + 1)) (sym (w.ids-is ∙ w.with-ids.ensures))
          (collects_one P id c.loop-id.ids c.loop-id.invariant is)
      | else-is_shared w ↦
          subst (Collects P (id + 1)) (sym w.ids-is) (collects_skip P id c.loop-id.ids c.loop-id.invariant
          (λ is. let same = one_at graph id is.0 x is.1 c.patch.ensures.at in
          let no : false ≡ true = sym w.if-is_shared.false ∙ c.is_shared.ensures
          ∙ subst (λ (y : Patch). IsTrue (whole && block == y.block)) same is.2 in cc))
    ]

pub returns : goal.returns
returns g c = λ id. (
  λ is. ((c.loop-id.invariant id).0 is).1,
  λ it.
      let inside : id < length c.args.graph.now = slice_get_within c.args.graph.now id it.0 it.1 in
      (c.loop-id.invariant id).1
      (omega (arith, inside, c.loop-id-test.false, c.len-id-end.ensures.number), it),
)
