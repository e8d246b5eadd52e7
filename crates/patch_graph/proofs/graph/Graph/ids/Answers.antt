use Rattle.std.proofs.Common.{◌≡◌, length, arith, ap}
use Rattle.patch_graph.proofs.Independent.{in_ones}
use Rattle.patch_graph.proofs.graph.Graph.ids.Goals as goal

pub returns : goal.returns
returns g c = λ id.
    let long : length c.self.inside.patches.items ≡ length c.args.self.now = ap length c.self.view_is in
    let count : c.len.result ≡ length c.args.self.now = omega
    (arith, c.len.ensures, c.self.inside.patches.ok.0, long) in
    let below = in_ones c.len.result id (omega (arith, c.self.invariant.0.few, long, count)) in
    (λ is. let low = below.0 is in omega (arith, low, count), λ low. below.1 (omega (arith, low, count)))
