use Rattle.chosen_rules.proofs.Excluded.{wait_read}
use Rattle.chosen_rules.proofs.excluding.makes_wait.Goals as goal

pub returns : goal.returns
returns g c =
    wait_read c.args.traced.now.emitted c.args.rule.now c.args.later c.args.earlier c.label.result.now
    c.label-2.result.now c.applies.result c.requires.order c.requires.emitted c.label.ensures.emitted
    c.label-2.ensures.emitted c.applies.ensures
