use Rattle.std.proofs.Common.{◌<◌, length, false, refl, arith}
use Rattle.std.specs.Bool.{IsTrue}
use Rattle.chosen_rules.proofs.LinesPlaced.{is_behind, none_behind, none_so_far, no_more}
use Rattle.chosen_rules.proofs.lines.has_behind.Goals as goal
use Rattle.chosen_rules.proofs.lines.has_behind.Goals.{else-has-via-then-has+then-id-later+else-line-label}
use Rattle.chosen_rules.proofs.lines.has_behind.Goals.{else-has-via-then-has+else-id-later, else-has-via-else-has}

pub returns-then-line-label : goal.returns-then-line-label
returns-then-line-label g c =
    let within : c.loop-later.later < length c.args.traced.now.emitted =
    omega (arith, c.loop-later-test.true, c.len-later-end.ensures.emitted) in
    let behind = is_behind c.args.traced.now.emitted c.args.set c.args.id c.args.line c.loop-later.later
    c.label.result.now c.label.ensures.emitted within (c.has.ensures.0 c.if-has.true) c.if-id-later.true
    c.if-line-label.true in
    (λ t. behind, λ b. refl)

pub loop-later-preserved : goal.loop-later-preserved
loop-later-preserved g c = λ b.
    let least = c.loop-later.invariant b in
    elim c.else-has.branch [
      | else-has-via-then-has+then-id-later+else-line-label w ↦ none_behind c.args.traced.now.emitted c.args.set
          c.args.id c.args.line c.loop-later.later w.label.result.now w.label.ensures.emitted
          (λ inside order before. omega (arith, before, w.if-line-label.false)) b least
      | else-has-via-then-has+else-id-later w ↦ none_so_far c.args.traced.now.emitted c.args.set c.args.id c.args.line
          c.loop-later.later (λ inside order. omega (arith, order, w.if-id-later.false)) b least
      | else-has-via-else-has w ↦ none_so_far c.args.traced.now.emitted c.args.set c.args.id c.args.line
          c.loop-later.later
          (λ inside order. let not : IsTrue false = w.if-has.ensures.1 inside in absurd (cc)) b least
    ]

pub returns : goal.returns
returns g c = (
  λ t. absurd (cc),
  λ b. absurd (no_more c.args.traced.now.emitted c.args.set c.args.id c.args.line c.loop-later.later b
      (omega (arith, c.loop-later-test.false, c.len-later-end.ensures.emitted)) (c.loop-later.invariant b)),
)
