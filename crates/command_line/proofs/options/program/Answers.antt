use Rattle.std.proofs.Common.{◌∙◌, ap}
use Rattle.std.proofs.lemmas.Result.{IfOk-weaker}
use Rattle.clap.specs.Words.{App}
use Rattle.command_line.specs.Options.{faults, input, limits, ordering, questions, reports, with_rules}
use Rattle.command_line.proofs.options.program.Goals as goal

pub returns : goal.returns
returns c =
    let one = c.in_ok-program.ensures ∙ ap (λ (a : App). with_rules a input) c.program_alone.ensures in
    let ordered = c.in_ok-program-2.ensures in
    let two = ordered.2 ∙ ap (λ (a : App). with_rules a (ordering ordered.0)) one in
    let three = c.in_ok-program-3.ensures ∙ ap (λ (a : App). with_rules a faults) two in
    let four = c.in_ok-program-4.ensures ∙ ap (λ (a : App). with_rules a limits) three in
    let five = c.in_ok-program-5.ensures ∙ ap (λ (a : App). with_rules a questions) four in
    IfOk-weaker c.with_reports.result _ _
    (λ r last. (ordered.0, ordered.1, last ∙ ap (λ (a : App). with_rules a reports) five)) c.with_reports.ensures
