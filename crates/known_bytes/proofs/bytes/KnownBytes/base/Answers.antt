use Rattle.std.proofs.Common.{subst}
use Rattle.known_bytes.specs.Family.{Family}
use Rattle.known_bytes.specs.Chains.{IsSplit}
use Rattle.known_bytes.proofs.Known.{like_base}
use Rattle.known_bytes.proofs.bytes.KnownBytes.base.Goals as goal

pub returns-clause-alike : goal.returns-clause-alike
returns-clause-alike g c = λ set m.
    let split = subst (λ (f : Family). IsSplit f c.self.inside.undecided) c.self.view_is c.self.invariant in
    like_base c.args.self.now split.chains.sets split.chains.are set
