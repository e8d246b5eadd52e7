use Rattle.std.proofs.Common.{List, ℕ, ◌++◌, string_bytes, decimal, ap, ◌∙◌}
use Rattle.patch_sets.specs.Iter.{ids_left}
use Rattle.report.specs.Texts.{spaced, ids_text}
use Rattle.report.proofs.IdLoops.{all_left, text_more, text_done}
use Rattle.report.proofs.Adding.{added}
use Rattle.report.proofs.text.write_ids.Goals as goal

pub loop-id-init : goal.loop-id-init
loop-id-init c =
    ap (λ (ids : List ℕ). string_bytes c.args.out.now ++ spaced decimal ids)
    (ap ids_left c.into_iter-id-iterator.ensures.into_iter_gives ∙ (c.below-id-items.ensures ∙ all_left c.args.set))

pub loop-id-preserved : goal.loop-id-preserved
loop-id-preserved c =
    text_more (string_bytes c.loop-id.out) (string_bytes c.push_str.new.self) (string_bytes
    c.push_str-in-loop-id.new.self)
    (string_bytes c.args.out.now ++ ids_text c.args.set) (ids_left c.loop-id.id-iterator) (ids_left c.next.new.self)
    c.in-Some.id c.in-Some.ensures.steps c.loop-id.invariant c.in_ok-push_str.ensures.bytes
    (rw c.format.ensures.text at c.in_ok-push_str-2.ensures.bytes)

pub returns : goal.returns
returns c = added (
    text_done (string_bytes c.loop-id.out) (string_bytes c.args.out.now ++ ids_text c.args.set)
    (ids_left c.loop-id.id-iterator) c.in-None.ensures.steps.0 c.loop-id.invariant)
