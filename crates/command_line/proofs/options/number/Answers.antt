use Rattle.std.proofs.Common.{◌∙◌, ap, Some}
use Rattle.command_line.proofs.Chain.{parsing}
use Rattle.command_line.proofs.options.number.Goals as goal

pub returns : goal.returns
returns c =
    let given = c.value_parser.ensures.given in
    parsing c.value.result c.value_parser.result _ _ c.value.ensures c.value_parser.ensures.others
    (given.1 ∙ ap Some given.2)
