use Rattle.std.proofs.Common.{◌≡◌, [], ◌∷◌, ◌++◌, map, arith, subst, ap, ◌∙◌, append_assoc}
use Rattle.promise_steps.specs.Underway.{all_ended}
use Rattle.kept_promises.specs.Watched.{under_of}
use Rattle.kept_promises.proofs.Each.{all_taken, ended_pushed}
use Rattle.kept_promises.proofs.promising.Promising.into_promises.Goals as goal

pub loop-one-preserved : goal.loop-one-preserved
loop-one-preserved g c =
    let before = c.loop-one.yielded in
    let after = c.next.new.self.rest.items in
    record {
      parts = append_assoc before (c.in-Some.one ∷ []) after
          ∙ subst (λ left. before ++ left ≡ c.args.self.underway.items) c.in-Some.ensures.steps.0
          c.loop-one.invariant.parts;
      made = λ s here. ended_pushed s before c.in-Some.one c.in_ok-ended.field-0 c.loop-one.promises.items _
          c.in_ok-push.ensures.items (c.loop-one.invariant.made s here) (c.in_ok-ended.ensures s here);
    }

pub returns : goal.returns
returns g c s here =
    c.loop-one.invariant.made s here
    ∙ ap (λ taken. all_ended s (map under_of taken))
    (all_taken c.loop-one.yielded c.loop-one.one-iterator.rest.items c.args.self.underway.items
    (omega (arith, c.in-None.ensures.steps.0, c.loop-one.one-iterator.rest.ok.0)) c.loop-one.invariant.parts)
