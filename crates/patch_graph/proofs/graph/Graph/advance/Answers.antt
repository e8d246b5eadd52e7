use Rattle.std.proofs.Common.{List, subst, sym, ◌∙◌}
use Rattle.patch_sets.specs.Closed.{AreEarlier}
use Rattle.crash_model.specs.declared.patches.Patch.{Patch}
use Rattle.crash_model.specs.Patches.{deps_of}
use Rattle.patch_graph.specs.Independent.{AreIndependent}
use Rattle.patch_graph.proofs.Fronts.{leaves_next, leaves_all, lowest_comes, lowest_fewer, lowest_successor}
use Rattle.patch_graph.proofs.graph.Graph.advance.Goals as goal

pub returns-in_default-clause-next : goal.returns-in_default-clause-next
returns-in_default-clause-next g c =
    let earlier = subst (λ (xs : List Patch). AreEarlier (deps_of xs)) c.self.view_is c.self.invariant.0.earlier in
    λ k leaves. leaves_all (deps_of c.args.self.now) c.args.set earlier c.args.ahead.now k leaves
    c.in_default.ensures.found

pub returns-clause-next : goal.returns-clause-next
returns-clause-next g c =
    let deps = deps_of c.args.self.now in
    let ahead = c.args.ahead.now in
    let earlier = subst (λ (xs : List Patch). AreEarlier (deps_of xs)) c.self.view_is c.self.invariant.0.earlier in
    let independent = subst (λ (xs : List Patch). AreIndependent (deps_of xs) c.self.inside.independent) c.self.view_is
    c.self.invariant.1 in
    let id = c.in-Some.id in
    let low = c.in-Some.ensures.found in
    λ k leaves. (
      lowest_comes deps c.args.set earlier ahead k leaves id low,
      c.with.ensures ∙ sym (lowest_successor deps c.args.set earlier ahead k leaves id low),
      leaves_next deps c.args.set earlier ahead k leaves id low c.self.inside.independent independent c.requires.closed,
    )

pub returns-clause-smaller : goal.returns-clause-smaller
returns-clause-smaller g c =
    let earlier = subst (λ (xs : List Patch). AreEarlier (deps_of xs)) c.self.view_is c.self.invariant.0.earlier in
    let independent = subst (λ (xs : List Patch). AreIndependent (deps_of xs) c.self.inside.independent) c.self.view_is
    c.self.invariant.1 in
    let left = c.requires.ahead in
    lowest_fewer (deps_of c.args.self.now) c.args.set earlier c.args.ahead.now left.0 left.1 c.in-Some.id
    c.in-Some.ensures.found c.self.inside.independent independent
