use Rattle.std.proofs.Common.{◌≡◌, ℕ, true, false, sym, ◌∙◌, arith}
use Rattle.std.specs.Prelude.{slice_set}
use Rattle.std.specs.List.{Contains}
use Rattle.known_bytes.proofs.EachValue.{taken_skip, taken_more}
use Rattle.known_bytes.proofs.slot_lists.push_values.Goals as goal
use Rattle.known_bytes.proofs.slot_lists.push_values.Goals.{then-has+else-not-push_word, else-has}

pub loop-value-init : goal.loop-value-init
loop-value-init c = record {
  kept = λ other before. before;
  taken = record { each = λ value less is. absurd (omega (arith, less)) };
}

pub loop-value-preserved : goal.loop-value-preserved
loop-value-preserved c =
    let low = c.args.values.low in
    let high = c.args.values.high in
    let n = c.loop-value.value in
    let P : ℕ → Type 0 = λ value. Contains c.loop-value.longer.items (slice_set c.args.word c.args.at value) in
    elim c.if-has.branch [
      | then-has+else-not-push_word w ↦ rw w.longer-is record {
        kept = λ other before. w.push_word.ensures.kept other (c.loop-value.invariant.kept other before);
        taken = taken_more low high n P
            (λ value. Contains w.push_word.new.words.items (slice_set c.args.word c.args.at value))
            (λ value before. w.push_word.ensures.kept _ before)
            (w.push_word.ensures.pushed w.if-not-push_word.false) c.loop-value.invariant.taken;
      }
      | else-has w ↦ rw w.longer-is record {
        kept = c.loop-value.invariant.kept;
        taken = taken_skip low high n P
            (λ is. let never : true ≡ false = sym (c.has.ensures.1 is) ∙ w.if-has.false in absurd (cc))
            c.loop-value.invariant.taken;
      }
    ]

pub returns-clause-pushed : goal.returns-clause-pushed
returns-clause-pushed c = λ pushed value small is.
    c.loop-value.invariant.taken.each value (omega (arith, small, c.loop-value-test.false)) is
