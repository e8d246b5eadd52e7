use Rattle.std.proofs.Common.{List, ℕ, ◌++◌, refl, ap, ◌∙◌}
use Rattle.patch_sets.specs.Sets.{ids_of}
use Rattle.patch_sets.specs.Iter.{most_ids, ids_left}
use Rattle.report.proofs.Adding.{ends, keyed, token}
use Rattle.report.proofs.IdLoops.{all_left, each, tokens_more, ids_written}
use Rattle.report.proofs.fields.write_set.Goals as goal

pub loop-id-init : goal.loop-id-init
loop-id-init c = record {
  whole = ap (λ (ids : List ℕ). c.begin_array.new.self.tokens ++ each ids)
      (ap ids_left c.into_iter-id-iterator.ensures.into_iter_gives ∙ (c.below-id-items.ensures ∙ all_left c.args.set));
  before = refl;
}

pub loop-id-preserved : goal.loop-id-preserved
loop-id-preserved c = record {
  whole = tokens_more c.loop-id.out.tokens c.u64.new.self.tokens
      (c.begin_array.new.self.tokens ++ each (ids_of most_ids c.args.set)) (ids_left c.loop-id.id-iterator)
      (ids_left c.next.new.self) c.in-Some.id c.in-Some.ensures.steps c.loop-id.invariant.whole
      c.in_ok-u64.ensures.ok;
  before = c.u64.ensures.room.0 ∙ c.loop-id.invariant.before;
}

pub returns : goal.returns
returns c = ends c.end_array.result c.end_array.ensures.ok (λ last. keyed c.in_ok-write_key.ensures
    (ids_written c.args.set (ids_left c.loop-id.id-iterator) {b = c.begin_array.new.self} {c = c.loop-id.out}
    c.in-None.ensures.steps.0
    (token {b = c.begin_array.new.self} c.in_ok-begin_array.ensures.ok c.begin_array.ensures.room.0)
    c.loop-id.invariant.whole c.loop-id.invariant.before
    (token {b = c.end_array.new.self} last c.end_array.ensures.room.0)))
