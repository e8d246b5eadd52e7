use Rattle.std.proofs.Common.{sym, ◌∙◌}
use Rattle.order_modules.proofs.ForcedIds.{data_forced}
use Rattle.order_modules.proofs.forcing.is_forced_by_sync.Goals as goal

pub returns-then-is_file_data : goal.returns-then-is_file_data
returns-then-is_file_data c =
    c.if-is_file_data.true ∙ sym (data_forced c.args.module c.args.label.now (sym c.if-is_file_data.ensures))
