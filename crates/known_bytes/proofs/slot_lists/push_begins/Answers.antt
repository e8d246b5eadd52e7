use Rattle.std.proofs.Common.{arith}
use Rattle.std.specs.List.{Contains}
use Rattle.crash_model.specs.declared.showing.ShownSlot.TheVariants.{Begins}
use Rattle.known_bytes.proofs.ListedSlots.{passed_more, passed_all}
use Rattle.known_bytes.proofs.slot_lists.push_begins.Goals as goal

pub loop-word-init : goal.loop-word-init
loop-word-init c = record {
  kept = λ shown before. before;
  pushed = λ k d less. absurd (omega (arith, less));
}

pub loop-word-preserved : goal.loop-word-preserved
loop-word-preserved c = record {
  kept = λ shown before. c.push_slot.ensures.kept shown (c.loop-word.invariant.kept shown before);
  pushed = passed_more c.args.words.now (λ word. Contains c.loop-word.shows.items (Begins word))
      (λ word. Contains c.push_slot.new.shows.items (Begins word)) c.loop-word.word-index _ c.loop-word-test.true
      (λ word before. c.push_slot.ensures.kept (Begins word) before)
      (c.push_slot.ensures.pushed c.if-not-push_slot.false) c.loop-word.invariant.pushed;
}

pub returns-then-not-push_slot-clause-kept : goal.returns-then-not-push_slot-clause-kept
returns-then-not-push_slot-clause-kept c = λ shown before.
    c.push_slot.ensures.kept shown (c.loop-word.invariant.kept shown before)

pub returns-clause-pushed : goal.returns-clause-pushed
returns-clause-pushed c = λ pushed word inside.
    passed_all c.args.words.now (λ word. Contains c.loop-word.shows.items (Begins word)) c.loop-word.word-index
    c.loop-word-test.false c.loop-word.invariant.pushed word inside
