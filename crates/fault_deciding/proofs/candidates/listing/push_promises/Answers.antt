use Rattle.std.proofs.Common.{List, ap, subst}
use Rattle.std.proofs.lemmas.List.{take_all}
use Rattle.std.proofs.lemmas.List.Elements.{All-nil}
use Rattle.std.specs.List.{Contains}
use Rattle.crash_model.specs.Promises.{Promise}
use Rattle.crash_model.specs.declared.fault.Fault.TheVariants.{BrokenPromise}
use Rattle.fault_deciding.specs.Listed.{HasPromised}
use Rattle.fault_deciding.proofs.PromisedLines.{pushed_within, promised_more}
use Rattle.fault_deciding.proofs.candidates.listing.push_promises.Goals as goal

pub loop-promise-init : goal.loop-promise-init
loop-promise-init g c = record {
  kept = λ f is. is;
  promised = All-nil (λ (p : Promise). Contains c.args.faults.now.items (BrokenPromise p.line));
}

pub loop-promise-preserved : goal.loop-promise-preserved
loop-promise-preserved g c =
    let all = c.loop-promise.invariant in
    let push = c.in_ok-push.ensures.items in
    record {
      kept = λ f is. pushed_within c.loop-promise.faults.items _ _ push f (all.kept f is);
      promised = promised_more c.args.promises.now c.loop-promise.promise-index c.promise.inside.line
          c.promise-item.result c.loop-promise.faults.items _ c.loop-promise-test.true c.promise-item.is
          (ap (λ (p : Promise). p.line) c.promise.view_is) push all.promised;
    }

pub returns-clause-promised : goal.returns-clause-promised
returns-clause-promised g c = subst (λ (ps : List Promise). HasPromised ps c.loop-promise.faults.items)
    (take_all c.loop-promise.promise-index c.args.promises.now c.loop-promise-test.false)
    c.loop-promise.invariant.promised
