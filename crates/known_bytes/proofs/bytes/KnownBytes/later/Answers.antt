use Rattle.std.proofs.Common.{◌≡◌, ap, refl}
use Rattle.known_bytes.specs.Family.{Family}
use Rattle.known_bytes.proofs.Undecided.{starts_here, passing_on, at_same}
use Rattle.known_bytes.proofs.bytes.KnownBytes.later.Goals as goal

pub loop-id-init : goal.loop-id-init
loop-id-init g c = starts_here _ c.args.self.now c.self.view_is c.args.block c.args.offset (λ x. x ≡ x)
    c.self.inside.undecided c.at.result c.self.invariant c.at.ensures

pub loop-id-preserved : goal.loop-id-preserved
loop-id-preserved g c =
    let id = c.in-Some.id in
    passing_on c.args.self.now c.args.block c.args.offset (λ x. x ≡ x) c.loop-id.left c.loop-id.invariant
    c.without_lowest-left.result id c.patch.result.now (c.without_lowest-left.ensures.others id c.in-Some.ensures.found)
    (at_same c.graph.result.now _ c.args.self.now.patches id c.patch.result.now c.graph.ensures.graph
    (ap (λ (f : Family). f.patches) c.self.view_is) c.patch.ensures.at) refl
