use Rattle.std.proofs.Common.{◌≡◌, length, arith}
use Rattle.patch_graph.proofs.Independent.{in_ones}
use Rattle.known_bytes.proofs.bytes.ids.Goals as goal

pub returns : goal.returns
returns g c = λ id.
    let count : c.len.result ≡ length c.args.graph.now = c.len.ensures.number in
    let below = in_ones c.len.result id (omega (arith, c.len.ensures.kept.few, count)) in
    (λ is. let low = below.0 is in omega (arith, low, count), λ low. below.1 (omega (arith, low, count)))
