use Rattle.std.proofs.Common.{ap, codes}
use Rattle.std.proofs.lemmas.Result.{IfOk-weaker}
use Rattle.clap.specs.Words.{app_of}
use Rattle.clap.specs.Simple.{app_of_fields}
use Rattle.command_line.specs.Options.{flag, value}
use Rattle.command_line.proofs.Chain.{added}
use Rattle.command_line.proofs.options.with_faults.Goals as goal

pub returns : goal.returns
returns c =
    let start = ap app_of_fields c.next_help_heading.ensures in
    let first = added c.next_help_heading.result c.in_ok-arg.field-0 c.flag.result (app_of c.args.program)
    (flag (codes "strict")) start c.flag.ensures c.in_ok-arg.ensures in
    let second = added c.in_ok-arg.field-0 c.in_ok-arg-2.field-0 c.flag-2.result _ (flag (codes "atomic")) first
    c.flag-2.ensures c.in_ok-arg-2.ensures in
    let third = added c.in_ok-arg-2.field-0 c.in_ok-arg-3.field-0 c.flag-3.result _ (flag (codes "durable")) second
    c.flag-3.ensures c.in_ok-arg-3.ensures in
    IfOk-weaker c.arg-4.result _ _
    (λ r adds. added c.in_ok-arg-3.field-0 r c.value.result _ (value (codes "faults")) third c.value.ensures adds)
    c.arg-4.ensures
