use Rattle.std.proofs.Common.{◌∙◌, codes}
use Rattle.clap.specs.Words.{found_of, rows_of}
use Rattle.clap.proofs.WalkLemmas.{first_value-rows}
use Rattle.command_line.proofs.Read.{number_in_range}
use Rattle.command_line.proofs.call_of.Goals as goal

pub number_of-requires : goal.number_of-requires
number_of-requires c = (1, 16, c.requires.workers)

pub returns-clause-said : goal.returns-clause-said
returns-clause-said c = record {
  script = c.get_str.ensures ∙ first_value-rows (found_of c.args.matches.now) (codes "SCRIPT");
  settings = c.in_ok-settings_in.ensures.said;
  question = c.question_of.ensures;
  workers = c.number_of.ensures;
}

pub returns-clause-ranges : goal.returns-clause-ranges
returns-clause-ranges c =
    let rows = rows_of (found_of c.args.matches.now) in
    let said = c.in_ok-settings_in.ensures.said in (
      number_in_range 16 128 _ (codes "blocks") rows c.requires.blocks said.blocks,
      number_in_range 0 122 _ (codes "journal") rows c.requires.journal said.journal,
      number_in_range 1 16 _ (codes "workers") rows c.requires.workers c.number_of.ensures,
    )
