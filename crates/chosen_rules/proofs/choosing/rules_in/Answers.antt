use Rattle.std.proofs.Common.{◌≡◌, true, false, sym, ◌∙◌, arith}
use Rattle.chosen_rules.proofs.Lists.{none_yet, no_rule_more, rule_pushed}
use Rattle.chosen_rules.proofs.choosing.rules_in.Goals as goal
use Rattle.chosen_rules.proofs.choosing.rules_in.Goals.{then-has, else-has}

pub loop-place-init : goal.loop-place-init
loop-place-init c = record {
  rules = c.new-rules.ensures ∙ sym (none_yet c.as_slice-all.result.now c.args.set);
  few = rw c.new-rules.ensures (omega arith);
}

pub loop-place-preserved : goal.loop-place-preserved
loop-place-preserved c = elim c.if-has.branch [
  | then-has w ↦ rw w.rules-is record {
    rules = rule_pushed c.as_slice-all.result.now c.args.set c.loop-place.place _ c.loop-place.rules.items
        w.push.new.self.items c.loop-place-test.true (c.has.ensures.0 w.if-has.true) c.loop-place.invariant.rules
        w.push.ensures.items;
    few = omega (arith, w.push.ensures.len, c.loop-place.invariant.few);
  }
  | else-has w ↦ rw w.rules-is record {
    rules = c.loop-place.invariant.rules ∙ sym (no_rule_more c.as_slice-all.result.now c.args.set c.loop-place.place
        (λ has. let clash : false ≡ true = sym w.if-has.false ∙ c.has.ensures.1 has in cc));
    few = omega (arith, c.loop-place.invariant.few);
  }
]
