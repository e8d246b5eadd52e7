use Rattle.std.proofs.Common.{◌≡◌, ◌<◌, [], ◌∷◌, ◌++◌, length, get_or, take, arith, sym, subst, ap, ◌∙◌}
use Rattle.std.proofs.lemmas.List.{get_or-map, length-map, take_more, take_all}
use Rattle.std.proofs.lemmas.Option.{get_or_from_slice_get}
use Rattle.patch_sets.specs.Closed.{AreEarlier}
use Rattle.crash_model.specs.Patches.{deps_of}
use Rattle.fault_deciding.proofs.dependencies.dependencies.Goals as goal

pub loop-id-preserved : goal.loop-id-preserved
loop-id-preserved g c =
    let graph = c.args.graph.now in
    let id = c.loop-id.id in
    let x = c.patch.result.now in
    let inside : id < length graph = omega (arith, c.loop-id-test.true, c.len-id-end.ensures.number) in
    let at : get_or graph id x ≡ x = get_or_from_slice_get graph id x x c.patch.ensures.at in
    let read : get_or (deps_of graph) id 0 ≡ x.deps = get_or-map (λ p. p.deps) graph id x 0 inside
    ∙ ap (λ p. p.deps) at in
    let many : id < length (deps_of graph) = omega (arith, inside, length-map graph (λ p. p.deps)) in
    c.push.ensures.items ∙ (ap (λ xs. xs ++ x.deps ∷ []) c.loop-id.invariant
    ∙ (ap (λ d. take id (deps_of graph) ++ d ∷ []) (sym read) ∙ sym (take_more (deps_of graph) id 0 many)))

pub returns-clause-exact : goal.returns-clause-exact
returns-clause-exact g c =
    let graph = c.args.graph.now in
    c.loop-id.invariant ∙ take_all c.loop-id.id (deps_of graph)
    (omega (arith, length-map graph (λ p. p.deps), c.loop-id-test.false, c.len-id-end.ensures.number))

pub returns-clause-few : goal.returns-clause-few
returns-clause-few g c =
    let graph = c.args.graph.now in
    omega (arith, ap length (returns-clause-exact g c), length-map graph (λ p. p.deps), c.len-id-end.ensures.kept.few)

pub returns-clause-earlier : goal.returns-clause-earlier
returns-clause-earlier g c = subst AreEarlier (sym (returns-clause-exact g c)) c.len-id-end.ensures.kept.earlier
