use Rattle.std.proofs.Common.{◌≡◌, ap, sym, ◌∙◌, refl, true}
use Rattle.std.specs.Prelude.{slice_get}
use Rattle.traced_patches.specs.Traced.{TracedPatches}
use Rattle.traced_patches.proofs.Labelled.{emitted_placed}
use Rattle.traced_patches.proofs.traced.Traced.shares_block.Goals as goal

pub returns-then-self : goal.returns-then-self
returns-then-self g c = λ q p at_q at_p.
    let i = c.self.inside in
    let at_later = emitted_placed i.graph i.labels.items c.args.later c.patch.result.now q c.patch.ensures.at
    (ap (λ (t : TracedPatches). slice_get t.emitted c.args.later) c.self.view_is ∙ at_q) in
    let at_earlier = emitted_placed i.graph i.labels.items c.args.earlier c.patch-then-self.result.now p
    c.patch-then-self.ensures.at
    (ap (λ (t : TracedPatches). slice_get t.emitted c.args.earlier) c.self.view_is ∙ at_p) in
    let whole : c.args.self.now.whole ≡ true = sym (ap (λ (t : TracedPatches). t.whole) c.self.view_is)
    ∙ c.if-self.true in
    rw (whole, at_later, at_earlier) refl
