use Rattle.std.proofs.Common.{◌≡◌, List, Some, ap, ◌∙◌, subst, sym}
use Rattle.std.specs.Prelude.{slice_get}
use Rattle.crash_model.specs.Patches.{places_of}
use Rattle.traced_patches.specs.Traced.{TracedPatches}
use Rattle.traced_patches.specs.declared.labels.Label.{Label}
use Rattle.traced_patches.proofs.Labelled.{label_read, emitted_there}
use Rattle.traced_patches.proofs.traced.Traced.label.Goals as goal

pub returns-clause-emitted : goal.returns-clause-emitted
returns-clause-emitted g c = λ e at.
    let i = c.self.inside in
    let here : slice_get i.labels.items c.args.id ≡ Some c.label_of.result.now =
    subst (λ (ls : List Label). slice_get ls c.args.id ≡ Some c.label_of.result.now) c.as_slice.ensures.value
    c.label_of.ensures in
    label_read (places_of i.graph) i.labels.items c.args.id c.label_of.result.now e here
    (ap (λ (t : TracedPatches). slice_get t.emitted c.args.id) c.self.view_is ∙ at)

pub returns-clause-patch : goal.returns-clause-patch
returns-clause-patch g c = λ p at.
    let i = c.self.inside in
    let here : slice_get i.labels.items c.args.id ≡ Some c.label_of.result.now =
    subst (λ (ls : List Label). slice_get ls c.args.id ≡ Some c.label_of.result.now) c.as_slice.ensures.value
    c.label_of.ensures in
    let there : slice_get i.graph c.args.id ≡ Some p = ap (λ (t : TracedPatches). slice_get t.patches c.args.id)
    c.self.view_is ∙ at in
    sym (ap (λ (t : TracedPatches). slice_get t.emitted c.args.id) c.self.view_is)
    ∙ emitted_there i.graph i.labels.items c.args.id c.label_of.result.now p here there
