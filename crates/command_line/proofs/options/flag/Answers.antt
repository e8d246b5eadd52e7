use Rattle.std.proofs.Common.{Some, refl}
use Rattle.clap.specs.Words.{Rule, new_rule}
use Rattle.clap.specs.declared.builder.action.ArgAction.TheVariants.{SetTrue}
use Rattle.command_line.proofs.Chain.{set}
use Rattle.command_line.proofs.options.flag.Goals as goal

pub returns : goal.returns
returns c =
    let named = set (λ (r : Rule). record r { long = Some c.args.name.now }) c.new.result c.long.result _
    (new_rule c.args.name.now) c.long.ensures refl refl (c.new.ensures.rule, c.new.ensures.optional.1) in
    let acted = set (λ (r : Rule). record r { action = Some SetTrue }) c.long.result c.action.result _ _
    c.action.ensures refl refl named in
    set (λ (r : Rule). r) c.action.result c.help.result _ _ c.help.ensures refl refl acted
