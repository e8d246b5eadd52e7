use Rattle.std.proofs.Common.{ap, codes}
use Rattle.std.proofs.lemmas.Result.{IfOk-weaker}
use Rattle.clap.specs.Words.{app_of}
use Rattle.clap.specs.Simple.{app_of_fields}
use Rattle.command_line.specs.Options.{bound, flag}
use Rattle.command_line.proofs.Chain.{added, requires_arg}
use Rattle.command_line.proofs.options.with_reports.Goals as goal

pub returns : goal.returns
returns c =
    let numbers = requires_arg c.flag-numbers.result c.in_ok-requires_arg.field-0 (flag (codes "numbers")) _
    c.flag-numbers.ensures c.in_ok-requires_arg.ensures in
    let start = ap app_of_fields c.next_help_heading.ensures in
    let first = added c.next_help_heading.result c.in_ok-arg.field-0 c.flag.result (app_of c.args.program)
    (flag (codes "explain")) start c.flag.ensures c.in_ok-arg.ensures in
    let second = added c.in_ok-arg.field-0 c.in_ok-arg-2.field-0 c.flag-2.result _ (flag (codes "json")) first
    c.flag-2.ensures c.in_ok-arg-2.ensures in
    let third = added c.in_ok-arg-2.field-0 c.in_ok-arg-3.field-0 c.in_ok-requires_arg.field-0 _
    (bound (flag (codes "numbers"))) second numbers c.in_ok-arg-3.ensures in
    IfOk-weaker c.arg-4.result _ _
    (λ r adds. added c.in_ok-arg-3.field-0 r c.flag-3.result _ (flag (codes "options")) third c.flag-3.ensures adds)
    c.arg-4.ensures
