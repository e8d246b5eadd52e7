use Rattle.std.proofs.Common.{sym}
use Rattle.crash_model.specs.Patches.{place}
use Rattle.crash_model.specs.Waiting.{meets, is_of_contents}
use Rattle.traced_patches.specs.Labels.{emitted_at}
use Rattle.order_modules.proofs.ForcedIds.{both}
use Rattle.order_modules.proofs.forcing.has_contents.Goals as goal

pub returns-then-is_of_contents : goal.returns-then-is_of_contents
returns-then-is_of_contents c =
    let patch = c.args.patch.now in
    let e = emitted_at (place patch.block patch.offset patch.new.items) c.args.label.now in
    both (is_of_contents e) (meets c.args.ranges.now e) c.meets.result (sym c.if-is_of_contents.ensures) c.meets.ensures
