use Rattle.std.proofs.Common.{◌∙◌}
use Rattle.std.specs.Str.Parse.{ExplainsUnsignedError, HasUnsignedDigitsIfOk, ParsesUnsigned}
use Rattle.clap.specs.Words.{found_of}
use Rattle.command_line.proofs.Read.{none_got, number_got}
use Rattle.command_line.proofs.values.number_of.Goals as goal

pub returns : goal.returns
returns c =
    number_got _ (λ bs r. ParsesUnsigned 64 10 bs r × ExplainsUnsignedError 10 bs r × HasUnsignedDigitsIfOk bs r)
    (λ u x g. g.0) (found_of c.args.matches.now) c.args.name.now c.get_one.result c.get_one.ensures.value
    c.requires.0 c.requires.1 c.requires.2 ∙ c.in-Some.is

pub unreachable-requires : goal.unreachable-requires
unreachable-requires c =
    none_got _ (λ bs r. ParsesUnsigned 64 10 bs r × ExplainsUnsignedError 10 bs r × HasUnsignedDigitsIfOk bs r)
    (λ u x g. g.0) (found_of c.args.matches.now) c.args.name.now c.get_one.result c.get_one.ensures.value
    c.requires.0 c.requires.1 c.requires.2 c.in-None.is
