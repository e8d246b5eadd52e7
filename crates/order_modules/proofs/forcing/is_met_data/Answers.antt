use Rattle.std.proofs.Common.{sym}
use Rattle.crash_model.specs.Patches.{place}
use Rattle.crash_model.specs.Waiting.{meets, is_file_data_patch}
use Rattle.traced_patches.specs.Labels.{emitted_at}
use Rattle.order_modules.proofs.ForcedIds.{both}
use Rattle.order_modules.proofs.forcing.is_met_data.Goals as goal

pub returns-then-is_file_data : goal.returns-then-is_file_data
returns-then-is_file_data c =
    let patch = c.args.patch.now in
    let e = emitted_at (place patch.block patch.offset patch.new.items) c.args.label.now in
    both (is_file_data_patch e) (meets c.args.ranges.now e) c.meets.result
    (sym c.if-is_file_data.ensures) c.meets.ensures
