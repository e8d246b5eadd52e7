use Rattle.std.proofs.Common.{Some, refl}
use Rattle.clap.specs.Words.{Rule, new_rule}
use Rattle.clap.specs.declared.builder.action.ArgAction.TheVariants.{Set}
use Rattle.command_line.proofs.Chain.{set}
use Rattle.command_line.proofs.options.value.Goals as goal

pub returns : goal.returns
returns c =
    let named = set (λ (r : Rule). record r { long = Some c.args.name.now }) c.new.result c.long.result _
    (new_rule c.args.name.now) c.long.ensures refl refl (c.new.ensures.rule, c.new.ensures.optional.1) in
    let called = set (λ (r : Rule). record r { value_names = 1 }) c.long.result c.value_name.result _ _
    c.value_name.ensures refl refl named in
    let acted = set (λ (r : Rule). record r { action = Some Set }) c.value_name.result c.action.result _ _
    c.action.ensures refl refl called in
    set (λ (r : Rule). r) c.action.result c.help.result _ _ c.help.ensures refl refl acted
