use Rattle.std.proofs.Common.{codes}
use Rattle.clap.specs.Words.{found_of}
use Rattle.command_line.proofs.Read.{flag_got}
use Rattle.command_line.proofs.settings_in.Goals as goal

pub number_of-requires : goal.number_of-requires
number_of-requires c = (16, 128, c.requires.blocks)

pub number_of-requires-2 : goal.number_of-requires-2
number_of-requires-2 c = (0, 122, c.requires.journal)

pub returns-clause-said : goal.returns-clause-said
returns-clause-said c =
    let found = found_of c.args.matches.now in
    record {
      kind = c.module_of-module.ensures;
      without = c.in_ok-without.ensures.words;
      with = c.in_ok-with.ensures.words;
      blocks = c.number_of.ensures;
      journal = c.number_of-2.ensures;
      json = flag_got found (codes "json") c.get_flag.result c.get_flag.ensures.value c.get_flag.ensures.other;
      numbers = flag_got found (codes "numbers") c.get_flag-2.result c.get_flag-2.ensures.value
          c.get_flag-2.ensures.other;
      explain = flag_got found (codes "explain") c.get_flag-3.result c.get_flag-3.ensures.value
          c.get_flag-3.ensures.other;
      whole_blocks = flag_got found (codes "whole-blocks") c.get_flag-4.result c.get_flag-4.ensures.value
          c.get_flag-4.ensures.other;
      generations = flag_got found (codes "generations") c.get_flag-5.result c.get_flag-5.ensures.value
          c.get_flag-5.ensures.other;
      strict = flag_got found (codes "strict") c.get_flag-6.result c.get_flag-6.ensures.value
          c.get_flag-6.ensures.other;
      atomic = flag_got found (codes "atomic") c.get_flag-7.result c.get_flag-7.ensures.value
          c.get_flag-7.ensures.other;
      durable = flag_got found (codes "durable") c.get_flag-8.result c.get_flag-8.ensures.value
          c.get_flag-8.ensures.other;
      counted = c.in_ok-counted_of.ensures;
    }
