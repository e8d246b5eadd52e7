use Rattle.std.proofs.Common.{◌∙◌, Some, ap, codes, sym}
use Rattle.clap.specs.Words.{found_of, rows_of}
use Rattle.command_line.proofs.Read.{number_in_range}
use Rattle.command_line.proofs.values.limit_of.Goals as goal

pub number_of-requires : goal.number_of-requires
number_of-requires c = (1, 32768, c.requires.limit)

pub returns : goal.returns
returns c = c.number_of.ensures ∙ ap Some (sym c.in-Some.ensures.0)

pub unreachable-requires : goal.unreachable-requires
unreachable-requires c =
    let range = number_in_range 1 32768 c.number_of.result (codes "limit") (rows_of (found_of c.args.matches.now))
    c.requires.limit c.number_of.ensures in
    c.in-None.ensures (range.0, range.1)
