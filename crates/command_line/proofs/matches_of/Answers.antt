use Rattle.std.proofs.Common.{◌∙◌, ap}
use Rattle.std.proofs.lemmas.Result.{IfOk-weaker}
use Rattle.clap.specs.Simple.{App, is_simple}
use Rattle.clap.specs.Walk.{texts}
use Rattle.clap.specs.Words.{matches_of}
use Rattle.command_line.proofs.Parsed.{parsed_by}
use Rattle.command_line.proofs.matches_of.Goals as goal

pub returns-clause-found : goal.returns-clause-found
returns-clause-found c =
    let is = c.requires in
    IfOk-weaker c.try_get_matches_from_mut.result _ _ (λ m h. (
      is.0,
      is.1,
      (h.2 (ap is_simple is.2)).0 ∙ ap (λ (a : App). matches_of a (texts c.args.words.now)) is.2,
    ))
    c.try_get_matches_from_mut.ensures.ok

pub returns-clause-parsed : goal.returns-clause-parsed
returns-clause-parsed c =
    IfOk-weaker c.try_get_matches_from_mut.result _ _ (λ m h. parsed_by _ _ m c.requires h.0 h.1)
    c.try_get_matches_from_mut.ensures.ok
