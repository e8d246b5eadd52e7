use Rattle.std.proofs.Common.{length, ap, sym, ◌∙◌}
use Rattle.traced_patches.specs.Traced.{TracedPatches}
use Rattle.traced_patches.proofs.Labelled.{length-emitted}
use Rattle.traced_patches.proofs.traced.Traced.len.Goals as goal

pub returns-clause-emitted : goal.returns-clause-emitted
returns-clause-emitted g c =
    c.len.ensures.number ∙ sym (length-emitted c.self.inside.graph c.self.inside.labels.items c.self.invariant)
    ∙ ap (λ (t : TracedPatches). length t.emitted) c.self.view_is
