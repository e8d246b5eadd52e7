use Rattle.std.proofs.Common.{◌≡◌, ◌∙◌, ℕ, List, ap}
use Rattle.crash_model.specs.Patches.{places_of}
use Rattle.crash_model.specs.Waiting.{ids_from, fsync_forces, last_op_number}
use Rattle.traced_patches.specs.Labels.{emitted_by}
use Rattle.traced_patches.specs.declared.labels.Label.{Label}
use Rattle.order_modules.specs.Forcing.{has_contents, forces_with}
use Rattle.order_modules.specs.Log.{Log}
use Rattle.order_modules.proofs.ForcedIds.{ids_same, forces_same}
use Rattle.order_modules.proofs.log.PatchLog.forced_by_fsync.Goals as goal

pub returns : goal.returns
returns g c =
    let inside = c.self.inside in
    let kind = inside.ordering.now.module in
    let ranges = c.args.ranges.now in
    let at = λ (ls : List Label). emitted_by (places_of inside.graph) ls in
    let all = at inside.labels.items in
    let same = c.as_slice-labels.ensures.value in
    let last : c.last_op_number-last.result ≡ last_op_number (has_contents ranges) all =
    c.last_op_number-last.ensures ∙ ap (λ (ls : List Label). last_op_number (has_contents ranges) (at ls)) same in
    c.forced_by_fsync.ensures
    ∙ (ap (λ (ls : List Label). ids_from 0 (forces_with kind ranges c.last_op_number-last.result) (at ls)) same
    ∙ (ap (λ (n : ℕ). ids_from 0 (forces_with kind ranges n) all) last
    ∙ (ids_same (forces_with kind ranges (last_op_number (has_contents ranges) all)) (fsync_forces kind ranges all)
    (forces_same kind ranges all) 0 all
    ∙ ap (λ (l : Log). ids_from 0 (fsync_forces l.kind ranges l.emitted) l.emitted) c.self.view_is)))
