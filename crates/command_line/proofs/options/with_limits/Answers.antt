use Rattle.std.proofs.Common.{ap, codes, refl}
use Rattle.std.proofs.lemmas.Result.{IfOk-weaker}
use Rattle.clap.specs.Words.{app_of}
use Rattle.clap.specs.Simple.{app_of_fields}
use Rattle.command_line.specs.Options.{number, usually}
use Rattle.command_line.proofs.Chain.{added, set}
use Rattle.command_line.proofs.options.with_limits.Goals as goal

pub returns : goal.returns
returns c =
    let limit = set (usually (codes "4096")) c.number.result c.default_value.result _ (number (codes "limit") 1 32768)
    c.default_value.ensures refl refl c.number.ensures in
    let workers = set (usually (codes "1")) c.number-2.result c.default_value-2.result _ (number (codes "workers") 1 16)
    c.default_value-2.ensures refl refl c.number-2.ensures in
    let start = ap app_of_fields c.next_help_heading.ensures in
    let first = added c.next_help_heading.result c.in_ok-arg.field-0 c.default_value.result (app_of c.args.program)
    (usually (codes "4096") (number (codes "limit") 1 32768)) start limit c.in_ok-arg.ensures in
    IfOk-weaker c.arg-2.result _ _ (λ r adds. added c.in_ok-arg.field-0 r c.default_value-2.result _
    (usually (codes "1") (number (codes "workers") 1 16)) first workers adds)
    c.arg-2.ensures
