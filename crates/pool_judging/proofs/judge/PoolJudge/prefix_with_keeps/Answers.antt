use Rattle.std.proofs.Common.{ap}
use Rattle.crash_model.specs.Tracing.{Tracing}
use Rattle.pool_judging.specs.Judging.{search_by}
use Rattle.pool_judging.proofs.Beginnings.{trace_none, promised_none, keep_accepted, keep_taken, keeps_more}
use Rattle.pool_judging.proofs.Beginnings.{prefix_none}
use Rattle.pool_judging.proofs.judge.PoolJudge.prefix_with_keeps.Goals as goal

pub loop-step-init : goal.loop-step-init
loop-step-init g c =
    let s = search_by c.args.self.now in
    let t = c.in_ok-new.field-0 in
    let prefix = c.in_ok-new.ensures.started in
    let ordering = c.in_ok-new.ensures.ordering in
    record {
      op_numbers = ap (λ (r : Tracing). r.op_number) prefix.0;
      are = record {
        is = trace_none s t prefix.0 prefix.1 ordering.0 ordering.1;
        demands = c.in_ok-new-2.ensures;
        promises = promised_none s t.tracing c.new-3.result prefix.0 c.new-3.ensures.none (c.new-3.ensures.at t.tracing)
            c.new-3.ensures.durable;
      };
    }

pub longer-requires-clause-accepted : goal.longer-requires-clause-accepted
longer-requires-clause-accepted g c =
    keep_accepted (search_by c.args.self.now) c.loop-step.step-index c.loop-step.prefix c.step-item.result
    c.loop-step-test.true c.step-item.is c.args.self.now.promises

pub loop-step-preserved : goal.loop-step-preserved
loop-step-preserved g c =
    let s = search_by c.args.self.now in
    let i = c.loop-step.step-index in
    let before = c.loop-step.prefix in
    let x = c.step-item.result in
    let longer = c.in_ok-prefix.prefix in
    let is = c.loop-step.invariant in
    let all = c.args.self.now.promises in
    let within = c.loop-step-test.true in
    record {
      op_numbers = keep_taken s i before x within c.step-item.is all longer is.op_numbers c.in_ok-prefix.ensures.moves;
      are = keeps_more s i before x within c.step-item.is all longer
          (c.in_ok-prefix.ensures.prefix s _ is.are);
    }

pub returns : goal.returns
returns g c =
    prefix_none (search_by c.args.self.now) c.loop-step.step-index c.loop-step.prefix c.loop-step-test.false
    c.loop-step.invariant.op_numbers c.loop-step.invariant.are
