use Rattle.std.proofs.Common.{◌≡◌, ◌-◌, length, take, drop, arith}
use Rattle.std.proofs.lemmas.Grind.{common_steps}
use Rattle.crash_model.proofs.Paths.{no_first_name}
use Rattle.crash_model.proofs.names.first_name.Goals as goal

pub returns-in_err-read : goal.returns-in_err-read
returns-in_err-read c =
    let text = c.args.text.now in
    let names = take (length text - 1) (drop 1 text) in
    let slash = c.first_slash.ensures in
    let after : names ≡ drop 1 text = grind (arith, common_steps) in
    rw c.from_residual.ensures (no_first_name text names c.first_slash.result after slash.inside slash.before
    slash.found (rw c.split_at.ensures.front at c.in_err-read.ensures))
