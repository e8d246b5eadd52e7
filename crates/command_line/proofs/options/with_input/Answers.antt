use Rattle.std.proofs.Common.{◌∙◌, ap, codes, refl}
use Rattle.std.proofs.lemmas.Result.{IfOk-weaker}
use Rattle.clap.specs.Words.{Rule, app_of, new_rule}
use Rattle.clap.specs.Simple.{app_of_fields}
use Rattle.command_line.specs.Options.{flag, number, usually}
use Rattle.command_line.proofs.Chain.{added, set}
use Rattle.command_line.proofs.options.with_input.Goals as goal

pub returns : goal.returns
returns c =
    let named = set (λ (r : Rule). r) c.new.result c.help-script.result _ (new_rule (codes "SCRIPT"))
    c.help-script.ensures refl refl (c.new.ensures.rule, c.new.ensures.optional.1) in
    let script = set (λ (r : Rule). r) c.help-script.result c.display_order.result _ _ c.display_order.ensures
    refl refl named in
    let blocks = set (usually (codes "16")) c.number.result c.default_value.result _ _ c.default_value.ensures refl refl
    c.number.ensures in
    let journal = set (usually (codes "0")) c.number-2.result c.default_value-2.result _ _ c.default_value-2.ensures
    refl refl c.number-2.ensures in
    let start = ap app_of_fields c.next_display_order.ensures ∙ ap app_of_fields c.next_help_heading.ensures in
    let first = added c.next_display_order.result c.in_ok-arg.field-0 _ (app_of c.args.program)
    (new_rule (codes "SCRIPT")) start script c.in_ok-arg.ensures in
    let second = added c.in_ok-arg.field-0 c.in_ok-arg-2.field-0 _ _
    (usually (codes "16") (number (codes "blocks") 16 128)) first blocks c.in_ok-arg-2.ensures in
    let third = added c.in_ok-arg-2.field-0 c.in_ok-arg-3.field-0 _ _
    (usually (codes "0") (number (codes "journal") 0 122)) second journal c.in_ok-arg-3.ensures in
    IfOk-weaker c.arg-4.result _ _
    (λ r adds. added c.in_ok-arg-3.field-0 r c.flag.result _ (flag (codes "generations")) third c.flag.ensures adds)
    c.arg-4.ensures
