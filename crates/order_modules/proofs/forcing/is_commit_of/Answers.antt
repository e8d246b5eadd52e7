use Rattle.std.proofs.Common.{sym, refl}
use Rattle.std.specs.Prelude.{◌==◌}
use Rattle.crash_model.specs.Waiting.{is_commit}
use Rattle.traced_patches.specs.Labels.{emitted_of}
use Rattle.order_modules.proofs.ForcedIds.{both}
use Rattle.order_modules.proofs.forcing.is_commit_of.Goals as goal

pub returns-then-is_commit : goal.returns-then-is_commit
returns-then-is_commit c =
    both (is_commit (emitted_of c.args.label.now)) (c.args.label.now.op_number == c.args.op_number) _
    (sym c.if-is_commit.ensures) refl
