use Rattle.std.proofs.Common.{List, IsTrue, subst, ◌∙◌}
use Rattle.std.specs.Prelude.{◌↔◌}
use Rattle.patch_sets.specs.Closed.{AreEarlier, IsClosed}
use Rattle.patch_sets.proofs.Runs.{left_closed, closed_left}
use Rattle.crash_model.specs.declared.patches.Patch.{Patch}
use Rattle.crash_model.specs.Patches.{deps_of, homes_of}
use Rattle.patch_graph.proofs.graph.Graph.is_closed.Goals as goal

pub returns-clause-crash : goal.returns-clause-crash
returns-clause-crash g c =
    let patches = c.args.self.now in
    let set = c.args.set in
    let closed : IsTrue c.is_closed_in.result ↔ IsClosed (deps_of patches) set =
    subst (λ (xs : List Patch). IsTrue c.is_closed_in.result ↔ IsClosed (deps_of xs) set)
    (c.deref.ensures.value ∙ c.self.view_is) c.is_closed_in.ensures in
    let earlier = subst (λ (xs : List Patch). AreEarlier (deps_of xs)) c.self.view_is c.self.invariant.0.earlier in (
      λ yes. closed_left (deps_of patches) (homes_of patches) set earlier (closed.0 yes),
      λ can. closed.1 (left_closed (deps_of patches) (homes_of patches) set can),
    )
