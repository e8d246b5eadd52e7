use Rattle.std.proofs.Common.{◌≡◌, ap, codes, refl, rules, Some}
use Rattle.std.proofs.lemmas.Result.{IfOk-weaker}
use Rattle.clap.specs.Words.{Rule, app_of}
use Rattle.clap.specs.Simple.{app_of_fields}
use Rattle.clap.specs.Walk.{texts}
use Rattle.clap.specs.declared.builder.action.ArgAction.TheVariants.{Append}
use Rattle.command_line.specs.Options.{flag, module_words, usually, value, values}
use Rattle.command_line.proofs.Chain.{added, parsing, set}
use Rattle.command_line.proofs.options.with_ordering.Goals as goal

pub returns : goal.returns
returns c =
    let given = c.value_parser.ensures.given in
    let words : texts c.as_slice-modules.result.now ≡ module_words = search rules in
    let among = record (value (codes "module")) { parser = Some given.0 } in
    let parsed = parsing c.value-module.result c.value_parser.result (value (codes "module")) given.0
    c.value-module.ensures c.value_parser.ensures.others given.1 in
    let kind = set (usually (codes "soft")) c.value_parser.result c.default_value.result _ among
    c.default_value.ensures refl refl parsed in
    let without = set (λ (r : Rule). record r { action = Some Append }) c.value-without.result c.action.result _
    (value (codes "without")) c.action.ensures refl refl c.value-without.ensures in
    let putting = set (λ (r : Rule). record r { action = Some Append }) c.value.result c.action-2.result _
    (value (codes "with")) c.action-2.ensures refl refl c.value.ensures in
    let start = ap app_of_fields c.next_help_heading.ensures in
    let first = added c.next_help_heading.result c.in_ok-arg.field-0 c.default_value.result (app_of c.args.program)
    (usually (codes "soft") among) start kind c.in_ok-arg.ensures in
    let second = added c.in_ok-arg.field-0 c.in_ok-arg-2.field-0 c.action.result _ (values (codes "without"))
    first without c.in_ok-arg-2.ensures in
    let third = added c.in_ok-arg-2.field-0 c.in_ok-arg-3.field-0 c.action-2.result _ (values (codes "with"))
    second putting c.in_ok-arg-3.ensures in
    let fourth = added c.in_ok-arg-3.field-0 c.in_ok-arg-4.field-0 c.flag.result _ (flag (codes "whole-blocks")) third
    c.flag.ensures c.in_ok-arg-4.ensures in
    IfOk-weaker c.arg-5.result _ _ (λ r adds. (
      given.0,
      (c.as_slice-modules.result, given.2, words),
      added c.in_ok-arg-4.field-0 r c.flag-2.result _ (flag (codes "rules")) fourth c.flag-2.ensures adds,
    ))
    c.arg-5.ensures
