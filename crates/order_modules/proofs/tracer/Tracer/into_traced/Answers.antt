use Rattle.std.proofs.Common.{◌≡◌, ◌<◌, List, refl, sym, subst, ap, ◌∙◌}
use Rattle.std.specs.List.{All}
use Rattle.crash_model.specs.Trace.{IsGraphOf}
use Rattle.crash_model.specs.declared.patches.Patch.{Patch}
use Rattle.traced_patches.specs.Traced.{TracedPatches}
use Rattle.traced_patches.specs.Labels.{group_by, waits_by}
use Rattle.order_modules.specs.Tracer.{Trace, names_by, trace_of}
use Rattle.order_modules.proofs.Graphs.{graph_of_log}
use Rattle.order_modules.proofs.tracer.Tracer.into_traced.Goals as goal

pub returns : goal.returns
returns g c =
    let i = c.self.inside in
    let log = i.log in
    let old : Trace = trace_of log i.disk i.op_number i.next (group_by i.current) (names_by i.opened.items)
    (names_by i.ended.items) i.forced (waits_by i.waits.items) in
    let given = c.into_traced.ensures in
    let same = c.self.view_is in
    let all = c.with_waits.ensures in
    let result = c.with_waits.result in
    let patches : result.patches ≡ log.patches = ap (λ (t : TracedPatches). t.patches) all ∙ given.patches in
    record {
      graph = subst (λ (t : Trace). IsGraphOf t.log.rules t.log.base t.tracing result.patches) same
          (subst (λ (ps : List Patch). IsGraphOf log.rules log.base old.tracing ps) (sym patches)
          (graph_of_log log log.rules log.base old.tracing given.log refl refl refl refl refl));
      emitted = ap (λ (t : TracedPatches). t.emitted) all ∙ (given.emitted
          ∙ ap (λ (t : Trace). t.tracing.emitted) same);
      links = ap (λ (t : TracedPatches). t.links) all ∙ (given.links ∙ ap (λ (t : Trace). t.tracing.links) same);
      rules = ap (λ (t : TracedPatches). t.rules) all ∙ (given.rules ∙ ap (λ (t : Trace). t.log.rules) same);
      whole = ap (λ (t : TracedPatches). t.whole) all ∙ (given.whole ∙ ap (λ (t : Trace). t.log.whole) same);
      traced = ap (λ (t : TracedPatches). t.whole) all ∙ (given.whole ∙ ap (λ (t : Trace). t.tracing.whole) same);
      waits = ap (λ (t : TracedPatches). t.waits) all ∙ ap (λ (t : Trace). t.tracing.waits) same;
      fits = subst (λ (t : Trace). All (λ patch. patch.block < t.log.base.blocks) result.patches) same
          (subst (λ (ps : List Patch). All (λ patch. patch.block < log.base.blocks) ps) (sym patches)
          given.log.known);
    }
