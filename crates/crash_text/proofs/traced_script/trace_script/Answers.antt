use Rattle.std.proofs.Common.{◌≡◌, List, Bool, Ok, refl, subst, ap, ◌∙◌}
use Rattle.question_model.specs.ScriptGraph.{asked_by, ordering_rules}
use Rattle.crash_model.specs.Checker.{AreDemands}
use Rattle.crash_model.specs.Disk.{Disk}
use Rattle.crash_model.specs.Trace.{trace_from, IsGraphOf}
use Rattle.crash_model.specs.Tracing.{Tracing, trace_start}
use Rattle.crash_model.specs.declared.rules.Rule.{Rule}
use Rattle.crash_model.specs.declared.patches.Patch.{Patch}
use Rattle.crash_model.specs.declared.settings.Asked as code
use Rattle.crash_model.specs.declared.settings.Settings.{Settings}
use Rattle.crash_model.specs.declared.steps.Step.{Step}
use Rattle.crash_model.specs.declared.modules.Module.{Module}
use Rattle.kept_promises.specs.Asking.{asked_of}
use Rattle.promise_laws.proofs.Lines.{at_risk_alone}
use Rattle.crash_text.specs.Traced.{asks_of, IsTraceOf}
use Rattle.crash_text.proofs.Safe.{full_rules}
use Rattle.crash_text.proofs.traced_script.trace_script.Goals as goal

-- what is traced under an ordering of these settings is traced under the settings
of_settings : (settings : Settings) (base : Disk) (steps : List Step) (by : Module) (whole : Bool) (rules : List Rule)
    (last : Tracing) (patches : List Patch) → by ≡ settings.module → whole ≡ settings.whole_blocks
    → rules ≡ ordering_rules settings
    → trace_from by (trace_start whole base) steps ≡ Ok last → IsGraphOf rules base last patches
    → (trace_from settings.module (trace_start settings.whole_blocks base) steps ≡ Ok last)
    × IsGraphOf (ordering_rules settings) base last patches
of_settings settings base steps by whole rules last patches module_is whole_is rules_are run graph = (
  subst (λ (m : Module). trace_from m (trace_start settings.whole_blocks base) steps ≡ Ok last) module_is
      (subst (λ (w : Bool). trace_from by (trace_start w base) steps ≡ Ok last) whole_is run),
  subst (λ (rs : List Rule). IsGraphOf rs base last patches) rules_are graph,
)

-- what is asked of steps under an ordering of these settings is what they ask
same_asked : (settings : Settings) (asked : code.Asked) (kind : Module) (steps : List Step) → kind ≡ settings.module
    → asked ≡ asks_of settings → asked_of asked kind steps ≡ asked_by settings steps
same_asked settings asked kind steps of_kind is =
    ap (λ (a : code.Asked). asked_of a kind steps) is
    ∙ ap (λ (m : Module). asked_of (asks_of settings) m steps) of_kind

pub returns-clause-full : goal.returns-clause-full
returns-clause-full g c = λ full none risk.
    let settings = c.args.settings.now in
    let base = c.args.base.now in
    let steps = c.args.steps.now in
    let ordering = c.args.ordering.now in
    let demands = c.in_ok-demands.demands in
    let same = c.requires.ordering in
    let all = full_rules settings ordering.rules.items full none same.rules in
    let are = subst (λ asked. AreDemands asked base steps demands)
    (same_asked settings c.asked_of.result ordering.«module» steps same.kind c.asked_of.ensures)
    c.in_ok-demands.ensures in
    c.in_ok-traced.ensures.safe (record { full = same.kind ∙ full; all = all })
    (asked_by settings steps) demands full are
    risk

pub returns-clause-at_risk : goal.returns-clause-at_risk
returns-clause-at_risk g c = λ full none last patches demands run graph are set closed.
    let settings = c.args.settings.now in
    let base = c.args.base.now in
    let steps = c.args.steps.now in
    let among = full_rules settings (ordering_rules settings) full none refl in
    let traced =
    subst (λ (m : Module). trace_from m (trace_start settings.whole_blocks base) steps ≡ Ok last) full run in
    at_risk_alone (ordering_rules settings) settings.whole_blocks (asked_by settings steps) base steps last patches set
    demands c.blocks-blocks.ensures.disk c.requires.sound.0 c.requires.sound.1 c.in_ok-traced.ensures.names traced among
    graph full are closed

pub returns-clause-traced : goal.returns-clause-traced
returns-clause-traced g c =
    let settings = c.args.settings.now in
    let base = c.args.base.now in
    let t = c.in_ok-traced.traced in
    let ok = c.in_ok-traced.ensures.ok in
    let same = c.requires.ordering in
    let under = of_settings settings base c.args.steps.now _ _ _ ok.0 t.patches same.kind same.whole same.rules ok.1
    ok.2 in
    let is : IsTraceOf settings base t ok.0 = record {
      emitted = ok.3;
      links = ok.4;
      whole = ok.5;
      waits = ok.6;
      rules = c.in_ok-traced.ensures.rules ∙ same.rules;
      graph = under.1;
    } in
    record {
      over = refl;
      last = ok.0;
      run = under.0;
      trace = is;
      demanded = subst (λ asked. AreDemands asked base c.args.steps.now c.in_ok-demands.demands)
          (same_asked settings c.asked_of.result c.args.ordering.now.«module» c.args.steps.now same.kind
          c.asked_of.ensures) c.in_ok-demands.ensures;
    }
