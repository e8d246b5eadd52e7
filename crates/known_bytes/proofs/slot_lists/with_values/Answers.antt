use Rattle.std.proofs.Common.{◌<◌, ℕ, arith}
use Rattle.std.specs.Prelude.{slice_set}
use Rattle.std.specs.List.{Contains}
use Rattle.known_bytes.specs.Family.{HasValue}
use Rattle.known_bytes.proofs.ListedSlots.{passed_more, passed_all}
use Rattle.known_bytes.proofs.slot_lists.with_values.Goals as goal

pub loop-word-init : goal.loop-word-init
loop-word-init c = λ k d less. absurd (omega (arith, less))

pub loop-word-preserved : goal.loop-word-preserved
loop-word-preserved c = passed_more c.args.words.now
    (λ word. (value : ℕ) → value < 256 → HasValue c.args.values.low c.args.values.high value
    → Contains c.loop-word.longer.items (slice_set word c.args.at value))
    (λ word. (value : ℕ) → value < 256 → HasValue c.args.values.low c.args.values.high value
    → Contains c.push_values.new.longer.items (slice_set word c.args.at value)) c.loop-word.word-index _
    c.loop-word-test.true
    (λ word before value small is. c.push_values.ensures.kept _ (before value small is))
    (c.push_values.ensures.pushed c.if-not-push_values.false) c.loop-word.invariant

pub returns : goal.returns
returns c = λ word value inside small is.
    passed_all c.args.words.now
    (λ word. (value : ℕ) → value < 256 → HasValue c.args.values.low c.args.values.high value
    → Contains c.loop-word.longer.items (slice_set word c.args.at value)) c.loop-word.word-index
    c.loop-word-test.false c.loop-word.invariant word inside value small is
