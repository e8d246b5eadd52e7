use Rattle.std.proofs.Common.{codes, refl}
use Rattle.std.proofs.lemmas.Result.{IfOk-weaker}
use Rattle.clap.specs.Words.{app_of}
use Rattle.command_line.specs.Options.{bound, flag, number}
use Rattle.command_line.proofs.Chain.{added, conflicts_with, requires_arg}
use Rattle.command_line.proofs.options.with_questions.Goals as goal

pub returns : goal.returns
returns c =
    let decide = conflicts_with c.flag-decide.result c.in_ok-conflicts_with.field-0 (flag (codes "decide")) _
    c.flag-decide.ensures c.in_ok-conflicts_with.ensures in
    let enough_one = conflicts_with c.flag-enough.result c.in_ok-conflicts_with-2.field-0 (flag (codes "enough")) _
    c.flag-enough.ensures c.in_ok-conflicts_with-2.ensures in
    let enough = conflicts_with c.in_ok-conflicts_with-2.field-0 c.in_ok-conflicts_with-3.field-0
    (bound (flag (codes "enough"))) _ enough_one c.in_ok-conflicts_with-3.ensures in
    let syncs_one = requires_arg c.flag-syncs.result c.in_ok-requires_arg.field-0 (flag (codes "syncs")) _
    c.flag-syncs.ensures c.in_ok-requires_arg.ensures in
    let syncs_two = conflicts_with c.in_ok-requires_arg.field-0 c.in_ok-conflicts_with-4.field-0
    (bound (flag (codes "syncs"))) _ syncs_one c.in_ok-conflicts_with-4.ensures in
    let syncs_three = conflicts_with c.in_ok-conflicts_with-4.field-0 c.in_ok-conflicts_with-5.field-0
    (bound (flag (codes "syncs"))) _ syncs_two c.in_ok-conflicts_with-5.ensures in
    let syncs = conflicts_with c.in_ok-conflicts_with-5.field-0 c.in_ok-conflicts_with-6.field-0
    (bound (flag (codes "syncs"))) _ syncs_three c.in_ok-conflicts_with-6.ensures in
    let search_one = conflicts_with c.number-search.result c.in_ok-conflicts_with-7.field-0
    (number (codes "search") 1 8) _ c.number-search.ensures c.in_ok-conflicts_with-7.ensures in
    let search = conflicts_with c.in_ok-conflicts_with-7.field-0 c.in_ok-conflicts_with-8.field-0
    (bound (number (codes "search") 1 8)) _ search_one c.in_ok-conflicts_with-8.ensures in
    let first = added c.args.program c.in_ok-arg.field-0 c.in_ok-conflicts_with.field-0 (app_of c.args.program)
    (bound (flag (codes "decide"))) refl decide c.in_ok-arg.ensures in
    let second = added c.in_ok-arg.field-0 c.in_ok-arg-2.field-0 c.in_ok-conflicts_with-3.field-0 _
    (bound (flag (codes "enough"))) first enough c.in_ok-arg-2.ensures in
    let third = added c.in_ok-arg-2.field-0 c.in_ok-arg-3.field-0 c.in_ok-conflicts_with-6.field-0 _
    (bound (flag (codes "syncs"))) second syncs c.in_ok-arg-3.ensures in
    IfOk-weaker c.arg-4.result _ _ (λ r adds. added c.in_ok-arg-3.field-0 r c.in_ok-conflicts_with-8.field-0 _
    (bound (number (codes "search") 1 8)) third search adds)
    c.arg-4.ensures
