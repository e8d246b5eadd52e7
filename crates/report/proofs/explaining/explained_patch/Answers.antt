use Rattle.std.proofs.Common.{◌≡◌, List, Some, subst, sym, ap, ◌∙◌}
use Rattle.std.specs.Prelude.{slice_get}
use Rattle.crash_model.specs.Patches.{place}
use Rattle.crash_model.specs.Reasons.{Dependency}
use Rattle.crash_model.specs.declared.patches.Patch.{Patch}
use Rattle.traced_patches.specs.Labels.{emitted_at}
use Rattle.traced_patches.proofs.Explained.{explained_is}
use Rattle.report.proofs.explaining.explained_patch.Goals as goal

pub returns : goal.returns
returns g c =
    let t = c.args.traced.now in
    let p = c.patch.result.now in
    let q = emitted_at (place p.block p.offset p.new.items) c.label.result.now in
    let there : slice_get t.patches c.args.id ≡ Some p = subst (λ (ps : List Patch). slice_get ps c.args.id ≡ Some p)
    c.graph.ensures c.patch.ensures.at in
    let at = c.label.ensures.patch p there in
    explained_is t c.args.id q p at there
    ∙ ap (λ (ds : List Dependency). Some (record { id = c.args.id; emitted = q; undo = p.undo.items; after = ds }))
    (sym (c.in_ok-dependencies.ensures q at))
