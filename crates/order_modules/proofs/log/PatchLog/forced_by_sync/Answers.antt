use Rattle.std.proofs.Common.{◌≡◌, ◌∙◌, List, length, map, sym, ap}
use Rattle.std.proofs.lemmas.List.{length-map}
use Rattle.crash_model.specs.Patches.{place, places_of}
use Rattle.crash_model.specs.Waiting.{ids_from, sync_forces, forced_by_sync}
use Rattle.traced_patches.specs.Labels.{emitted_of}
use Rattle.traced_patches.specs.declared.labels.Label.{Label}
use Rattle.order_modules.specs.Log.{Log}
use Rattle.order_modules.proofs.ForcedIds.{sync_labelled}
use Rattle.order_modules.proofs.log.PatchLog.forced_by_sync.Goals as goal

pub returns : goal.returns
unfolding forced_by_sync
returns g c =
    let inside = c.self.inside in
    let kind = inside.ordering.now.module in
    let long : length (places_of inside.graph) ≡ length inside.graph =
    length-map inside.graph (λ p. place p.block p.offset p.new.items) in
    c.forced_by_sync.ensures
    ∙ (ap (λ (ls : List Label). ids_from 0 (sync_forces kind) (map emitted_of ls)) c.as_slice.ensures.value
    ∙ (sync_labelled kind 0 (places_of inside.graph) inside.labels.items (c.self.invariant.1 ∙ sym long)
    ∙ ap (λ (l : Log). ids_from 0 (sync_forces l.kind) l.emitted) c.self.view_is))
