use Rattle.std.proofs.Common.{◌≡◌, [], ◌∷◌, ◌++◌, map, arith, subst, ap, ◌∙◌, append_assoc}
use Rattle.std.specs.Prelude.{option_map}
use Rattle.promise_steps.specs.Underway.{Under, advanced, started_by, rested}
use Rattle.kept_promises.specs.Watched.{under_of}
use Rattle.kept_promises.proofs.Each.{split_at, all_taken, map_pushed, with_started, at_pushed, at_last, at_taken}
use Rattle.kept_promises.proofs.promising.Promising.step.Goals as goal

pub loop-one-preserved : goal.loop-one-preserved
loop-one-preserved g c =
    let before = c.loop-one.yielded in
    let after = c.next.new.self.rest.items in
    let one = c.in_ok-advanced.field-0 in
    record {
      parts = append_assoc before (c.in-Some.one ∷ []) after
          ∙ subst (λ left. before ++ left ≡ c.args.self.underway.items) c.in-Some.ensures.steps.0
          c.loop-one.invariant.parts;
      made = λ kind s next all here known goes.
          let parts = split_at s before c.in-Some.one all in
          map_pushed (λ (u : Under). advanced u s c.args.step.now.act next) before c.in-Some.one one
          c.loop-one.underway.items _ c.in_ok-push.ensures.items
          (c.loop-one.invariant.made kind s next parts.0 here known goes)
          (c.in_ok-advanced.ensures.advanced kind c.args.step.now.line s next parts.1 here known goes);
      at = λ next here. at_pushed next c.loop-one.underway.items _ one c.in_ok-push.ensures.items
          (c.loop-one.invariant.at next here) (c.in_ok-advanced.ensures.at next here);
    }

pub returns-clause-advanced : goal.returns-clause-advanced
returns-clause-advanced g c kind s next all here known goes =
    let act = c.args.step.now.act in
    let items = c.args.self.underway.items in
    let taken = all_taken c.loop-one.yielded c.loop-one.one-iterator.rest.items items
    (omega (arith, c.in-None.ensures.steps.0, c.loop-one.one-iterator.rest.ok.0)) c.loop-one.invariant.parts in
    ap (map under_of) c.in_ok-with_last.ensures
    ∙ with_started c.loop-one.underway.items c.in_ok-started.started
    (map (λ (u : Under). advanced u s act next) (map under_of items))
    (option_map (λ (u : Under). rested u next) (started_by c.args.self.is_durable c.args.step.now.line act next))
    (c.loop-one.invariant.made kind s next (at_taken s c.loop-one.yielded items taken all) here known goes
    ∙ ap (λ xs. map (λ (u : Under). advanced u s act next) (map under_of xs)) taken)
    (c.in_ok-started.ensures.started next here)

pub returns-clause-at : goal.returns-clause-at
returns-clause-at g c next here =
    at_last next c.loop-one.underway.items _ c.in_ok-started.started c.in_ok-with_last.ensures
    (c.loop-one.invariant.at next here) (c.in_ok-started.ensures.at next here)
