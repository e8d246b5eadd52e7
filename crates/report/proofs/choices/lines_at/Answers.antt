use Rattle.std.proofs.Common.{◌≡◌, ℕ, List, [], ◌∷◌, ◌++◌, true, false, ap, sym, ◌∙◌, arith}
use Rattle.traced_patches.specs.Labels.{waits_by}
use Rattle.traced_patches.specs.declared.labels.Wait.{Wait}
use Rattle.report.specs.declared.choices.Choices.TheVariants.{Lines}
use Rattle.report.proofs.WaitLines.{no_line_yet, no_line_more, line_pushed, all_lines}
use Rattle.report.proofs.choices.lines_at.Goals as goal
use Rattle.report.proofs.choices.lines_at.Goals.{then-has, else-has}

pub loop-place-init : goal.loop-place-init
loop-place-init c = record {
  lines = c.new-lines.ensures ∙ sym (no_line_yet (waits_by c.args.waits.now) c.args.places);
  few = rw c.new-lines.ensures (omega arith);
}

pub loop-place-preserved : goal.loop-place-preserved
loop-place-preserved c = elim c.if-has.branch [
  | then-has w ↦ rw w.lines-is record {
    lines = line_pushed c.args.waits.now c.args.places c.loop-place.place w.index-waits-place.result
        c.loop-place.lines.items w.push.new.self.items c.loop-place-test.true w.index-waits-place.is
        (c.has.ensures.0 w.if-has.true) c.loop-place.invariant.lines
        (w.push.ensures.items ∙ ap (λ (wait : Wait). c.loop-place.lines.items ++ wait.step.now.line ∷ [])
        (sym w.index-waits-place.is));
    few = omega (arith, w.push.ensures.len, c.loop-place.invariant.few);
  }
  | else-has w ↦ rw w.lines-is record {
    lines = c.loop-place.invariant.lines
        ∙ sym (no_line_more (waits_by c.args.waits.now) c.args.places c.loop-place.place
        (λ has. let clash : false ≡ true = sym w.if-has.false ∙ c.has.ensures.1 has in cc));
    few = omega (arith, c.loop-place.invariant.few);
  }
]

pub returns : goal.returns
returns c = ap (λ (lines : List ℕ). Lines (record { items = lines }))
    (all_lines c.args.waits.now c.args.places c.loop-place.place c.loop-place.lines.items
    (omega (arith, c.loop-place-test.false, c.loop-place.auto.place-end)) c.loop-place.invariant.lines)
