use Rattle.std.proofs.Common.{◌≡◌, ◌∙◌, List, length, sym, ap}
use Rattle.std.specs.List.{list_any}
use Rattle.std.proofs.lemmas.List.{length-map}
use Rattle.crash_model.specs.Patches.{place, places_of}
use Rattle.crash_model.specs.Trace.{is_same_group}
use Rattle.traced_patches.specs.Labels.{group_by}
use Rattle.order_modules.specs.Log.{Log}
use Rattle.traced_patches.specs.declared.labels.Label.{Label}
use Rattle.order_modules.proofs.Emitting.{any_emitted}
use Rattle.order_modules.proofs.log.PatchLog.has_patch_in.Goals as goal

pub returns : goal.returns
returns g c =
    let inside = c.self.inside in
    let long : length (places_of inside.graph) ≡ length inside.graph =
    length-map inside.graph (λ p. place p.block p.offset p.new.items) in
    c.has_label_in.ensures
    ∙ ap (λ (ls : List Label). list_any (λ l. is_same_group (group_by l.origin.group) c.args.name.now) ls)
    c.as_slice.ensures.value
    ∙ any_emitted (places_of inside.graph) inside.labels.items c.args.name.now (c.self.invariant.1 ∙ sym long)
    ∙ ap (λ (l : Log). list_any (λ e. is_same_group e.origin.group c.args.name.now) l.emitted) c.self.view_is
