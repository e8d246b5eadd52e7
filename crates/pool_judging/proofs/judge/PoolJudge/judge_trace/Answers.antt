use Rattle.std.proofs.Common.{◌<◌, List, inl, sym, subst}
use Rattle.std.specs.Prelude.{IfOk}
use Rattle.std.specs.List.{All}
use Rattle.std.proofs.lemmas.Result.{IfOk-weaker}
use Rattle.std.proofs.Math.Logic.{∥∥₁_elim}
use Rattle.crash_model.specs.declared.patches.Patch.{Patch}
use Rattle.question_model.specs.Workloads.{workload_at}
use Rattle.pool_judging.specs.Judging.{search_by, IsVerdictOn}
use Rattle.pool_judging.proofs.Beginnings.{fits_at, patches_of}
use Rattle.pool_judging.proofs.Sure.{workload_sure}
use Rattle.pool_judging.proofs.Verdicts.{verdict_on, never_fails, no_failure_prop}
use Rattle.pool_judging.proofs.judge.PoolJudge.judge_trace.Goals as goal

pub judge_graph-requires : goal.judge_graph-requires
judge_graph-requires g c =
    let s = search_by c.args.self.now in
    subst (All (λ patch. patch.block < s.base.blocks)) (sym c.graph.ensures)
    (fits_at s c.requires.0 c.args.tracer c.finish-traced.result.patches c.requires.1
    c.finish-traced.ensures.fits)

pub returns-clause-verdict : goal.returns-clause-verdict
returns-clause-verdict g c = λ places trace wanted.
    let s = search_by c.args.self.now in
    let patches = c.finish-traced.result.patches in
    let demands = c.args.demands.now in
    let is = patches_of s places c.args.tracer demands patches trace c.finish-traced.ensures.graph wanted in
    IfOk-weaker c.judge_graph.result _ _ (λ verdict on. verdict_on s places demands patches verdict is on)
    (subst (λ (ps : List Patch). IfOk c.judge_graph.result (IsVerdictOn demands s.base ps)) c.graph.ensures
    c.judge_graph.ensures)

pub returns-clause-full : goal.returns-clause-full
returns-clause-full g c = λ is.
    let j = c.args.self.now in
    let s = search_by j in
    let (places, trace, wanted) = c.requires in
    let patches = c.finish-traced.result.patches in
    let demands = c.args.demands.now in
    let on = subst (λ (ps : List Patch). IfOk c.judge_graph.result (IsVerdictOn demands s.base ps)) c.graph.ensures
    c.judge_graph.ensures in
    ∥∥₁_elim j.sound (no_failure_prop c.judge_graph.result)
    (λ sound. let none = c.finish-traced.ensures.safe s.ordering s.rules s.whole s.base (workload_at s places)
    (record { over = trace.base; by = trace.rules; names = trace.names; traced = trace.traced })
    (record {
      journal = record { full = is.full; all = is.all };
      disk = c.blocks-blocks.ensures.disk;
      sound = sound.0;
      zeros = sound.1;
    })
    s.asked demands is.asked wanted (inl (workload_sure s places j.promises j.places)) in
    IfOk-weaker c.judge_graph.result _ _ (λ verdict is_on. never_fails demands s.base patches verdict none is_on) on)
