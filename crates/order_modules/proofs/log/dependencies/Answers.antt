use Rattle.std.proofs.Common.{◌≡◌, ◌+◌, ◌<◌, true, false, length, arith, refl, sym, subst, ◌∙◌}
use Rattle.std.specs.Prelude.{IsTrue, ◌||◌}
use Rattle.std.specs.List.{list_any}
use Rattle.std.proofs.lemmas.Option.{slice_get_within, slice_get_read, get_or_from_slice_get}
use Rattle.crash_model.specs.Trace.{groups_depend, waits_for, applies}
use Rattle.patch_graph.proofs.Steps.{Collects, collects_none, collects_one, collects_skip}
use Rattle.traced_patches.specs.Labels.{emitted_of, links_by}
use Rattle.order_modules.specs.Log.{WaitsAt}
use Rattle.order_modules.proofs.log.dependencies.Goals as goal
use Rattle.order_modules.proofs.log.dependencies.Goals.{then-waits, else-waits}

pub loop-id-init : goal.loop-id-init
loop-id-init c = collects_none (WaitsAt c.args.rules.now (links_by c.args.links.now) c.args.labels.now c.args.later.now)

pub loop-id-preserved : goal.loop-id-preserved
loop-id-preserved c =
    let labels = c.args.labels.now in
    let links = links_by c.args.links.now in
    let later = c.args.later.now in
    let id = c.loop-id.id in
    let x = c.index-labels-id.result in
    let rules = c.args.rules.now in
    let P = WaitsAt rules links labels later in
    elim c.if-waits.branch [
      | then-waits w ↦
          let is : P id = (
            x,
            slice_get_read labels (length labels) id x refl c.loop-id-test.true c.index-labels-id.is,
            sym c.waits.ensures ∙ w.if-waits.true,
          ) in
          subst (Collects P (id + 1)) (sym (w.ids-is ∙ w.with-ids.ensures))
          (collects_one P id c.loop-id.ids c.loop-id.invariant is)
      | else-waits w ↦
          subst (Collects P (id + 1)) (sym w.ids-is) (collects_skip P id c.loop-id.ids c.loop-id.invariant
          (λ is. let same : is.0 ≡ x = sym (get_or_from_slice_get labels id is.0 x is.1) ∙ sym c.index-labels-id.is in
          let no : false ≡ true = sym w.if-waits.false ∙ c.waits.ensures
          ∙ subst (λ y. IsTrue (groups_depend links (emitted_of later) (emitted_of y) || waits_for (emitted_of later) id
          || list_any (λ rule. applies rule (emitted_of later) (emitted_of y)) rules)) same is.2 in cc))
    ]

pub returns : goal.returns
returns c = λ id. (
  λ is. ((c.loop-id.invariant id).0 is).1,
  λ it. let inside : id < length c.args.labels.now = slice_get_within c.args.labels.now id it.0 it.1 in
      (c.loop-id.invariant id).1 (omega (arith, inside, c.loop-id-test.false), it),
)
