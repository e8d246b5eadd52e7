use Rattle.std.proofs.Common.{ap, subst}
use Rattle.known_bytes.specs.Family.{Family, InEach, IsLike}
use Rattle.known_bytes.specs.Reading.{Reading}
use Rattle.known_bytes.proofs.AtHomes.{like_read}
use Rattle.known_bytes.proofs.disk.KnownDisk.base.Goals as goal

pub returns-clause-alike : goal.returns-clause-alike
returns-clause-alike g c = like_read c.args.self.now
    (subst (λ (f : Family). InEach f (λ d. IsLike f.base d)) (ap (λ (x : Reading). x.family) c.self.view_is)
    c.base.ensures.alike)
