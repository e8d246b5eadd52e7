use Rattle.patch_sets.specs.Iter.{most_ids}
use Rattle.patch_sets.proofs.Stepped.{most, ids_lowest, fewer_left, left_none}
use Rattle.patch_sets.proofs.iter.IdsIterator.next.Goals as goal

pub returns-in-None-clause-steps : goal.returns-in-None-clause-steps
returns-in-None-clause-steps c = (
  left_none c.args.self.now.left c.in-None.ensures.found,
  left_none c.args.self.now.left c.in-None.ensures.found,
)

pub returns-in-Some-clause-steps : goal.returns-in-Some-clause-steps
returns-in-Some-clause-steps c = ids_lowest most_ids c.args.self.now.left c.in-Some.id c.without_lowest-self.result
    (most c.in-Some.id c.in-Some.ensures.within) c.in-Some.ensures.found
    (c.without_lowest-self.ensures.others c.in-Some.id c.in-Some.ensures.found)

pub returns-in-Some-clause-goes : goal.returns-in-Some-clause-goes
returns-in-Some-clause-goes c = record {
  on = λ finite. (
    tt,
    tt,
    fewer_left most_ids c.args.self.now.left c.in-Some.id c.without_lowest-self.result
        (ids_lowest most_ids c.args.self.now.left c.in-Some.id c.without_lowest-self.result
        (most c.in-Some.id c.in-Some.ensures.within) c.in-Some.ensures.found
        (c.without_lowest-self.ensures.others c.in-Some.id c.in-Some.ensures.found)),
  );
  keeps = tt;
  rests = λ finite. tt;
}
