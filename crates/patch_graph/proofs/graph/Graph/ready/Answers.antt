use Rattle.std.proofs.Common.{◌≡◌, ◌+◌, ◌<◌, true, false, List, length, get_or, arith, sym, subst, ap, ◌∙◌}
use Rattle.std.proofs.lemmas.List.{length-map}
use Rattle.patch_sets.specs.Ready.{IsReady}
use Rattle.crash_model.specs.declared.patches.Patch.{Patch}
use Rattle.crash_model.specs.Patches.{deps_of}
use Rattle.patch_graph.proofs.Patches.{deps_read}
use Rattle.patch_graph.proofs.Steps.{Collects, collects_none, collects_one, collects_skip, ready_of, of_ready}
use Rattle.patch_graph.proofs.graph.Graph.ready.Goals as goal
use Rattle.patch_graph.proofs.graph.Graph.ready.Goals.{then-is_ready, else-is_ready}

pub loop-id-init : goal.loop-id-init
loop-id-init g c = record {
  patches = c.deref-patch-items.ensures.value ∙ c.self.view_is;
  collected = collects_none (IsReady (deps_of c.args.self.now) c.args.set);
}

pub loop-id-preserved : goal.loop-id-preserved
loop-id-preserved g c =
    let patches = c.args.self.now in
    let set = c.args.set in
    let id = c.loop-id.id in
    let x = c.patch-item.result in
    let same : c.deref-patch-items.result.now ≡ patches = c.loop-id.invariant.patches in
    let inside : id < length patches = subst (λ (xs : List Patch). id < length xs) same c.loop-id-test.true in
    let known : id < length (deps_of patches) = subst (λ n. id < n) (sym (length-map patches (λ p. p.deps))) inside in
    let read = deps_read patches id x inside (subst (λ (xs : List Patch). x ≡ get_or xs id x) same c.patch-item.is) in
    let P = IsReady (deps_of patches) set in
    record {
      patches = same;
      collected = elim c.if-is_ready.branch [
        | then-is_ready w ↦
            subst (Collects P (id + 1)) (sym (w.ready-is ∙ w.with-ready.ensures))
            (collects_one P id c.loop-id.ready c.loop-id.invariant.collected
            (ready_of (deps_of patches) set id x.deps known read (c.is_ready.ensures.0 w.if-is_ready.true)))
        | else-is_ready w ↦
            subst (Collects P (id + 1)) (sym w.ready-is)
            (collects_skip P id c.loop-id.ready c.loop-id.invariant.collected
            (λ is. let no : false ≡ true = sym w.if-is_ready.false
            ∙ c.is_ready.ensures.1 (of_ready (deps_of patches) set id x.deps known read is) in cc))
      ];
    }

pub returns : goal.returns
returns g c = λ id. (
  λ is. ((c.loop-id.invariant.collected id).0 is).1,
  λ ready. let inside : id < length c.args.self.now = subst (λ n. id < n) (length-map c.args.self.now (λ p. p.deps))
      ready.known in
      let all : length c.deref-patch-items.result.now ≡ length c.args.self.now =
      ap length c.loop-id.invariant.patches in
      (c.loop-id.invariant.collected id).1 (omega (arith, inside, all, c.loop-id-test.false), ready),
)
