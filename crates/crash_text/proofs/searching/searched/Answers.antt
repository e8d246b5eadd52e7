use Rattle.std.proofs.Common.{rules, List, ap, length, subst, sym, ◌∙◌}
use Rattle.std.specs.Prelude.{All}
use Rattle.crash_model.specs.Disk.{IsDisk}
use Rattle.crash_model.specs.declared.steps.Step.{Step}
use Rattle.question_model.specs.SearchCounts.{AreSearchCounts}
use Rattle.question_model.specs.Workloads.{Search}
use Rattle.pool_judging.specs.Pools.{IsKeep, IsPlace}
use Rattle.pool_judging.proofs.Pools.{all_keeps, all_places}
use Rattle.report.specs.OnPools.{IsFirstOfKind, kinds_bytes}
use Rattle.crash_text.proofs.Pools.{none_reported}
use Rattle.crash_text.proofs.PoolReports.{same_search}
use Rattle.crash_text.proofs.searching.searched.Goals as goal

pub invariant_of-judge : goal.invariant_of-judge
invariant_of-judge g c =
    let lines = c.args.pool.now.steps.now in
    let steps = c.in_ok-steps.ensures.pool in
    record {
      places = subst (λ (ps : List Step). All IsPlace ps) (sym (c.deref.ensures.value ∙ steps.places))
          (all_places lines);
      promises = subst (λ (ps : List Step). All IsKeep ps) (sym (c.deref-2.ensures.value ∙ steps.keeps))
          (all_keeps lines);
      sound = ∣ c.requires.sound ∣₁;
    }

pub returns-clause-full : goal.returns-clause-full
returns-clause-full g c = λ full none.
    let settings = c.args.request.now.settings in
    let pool = c.args.pool.now in
    let found = c.in_ok-searched.searched.found in
    let by = c.ordering-ordering in
    let steps = c.in_ok-steps.ensures.pool in
    let same = same_search settings pool.base.now pool.steps.now pool.longest c.asked_of.result
    c.deref-2.result.now c.deref.result.now by.result.«module» by.result.whole_blocks by.result.rules.items steps.all
    c.asked_of.ensures (c.deref-2.ensures.value ∙ steps.keeps) (c.deref.ensures.value ∙ steps.places)
    by.ensures.«module» by.ensures.whole by.ensures.rules in
    let disk : IsDisk pool.base.now = search rules in
    none_reported settings pool.longest pool.base.now pool.steps.now found c.in_ok-outcome.outcome.number full
    none disk c.requires.sound.0 c.requires.sound.1 c.requires.acts
    (subst (λ (s : Search). AreSearchCounts s found) same c.in_ok-searched.ensures.found) c.in_ok-outcome.ensures.number

pub returns-clause-reported : goal.returns-clause-reported
returns-clause-reported g c =
    let settings = c.args.request.now.settings in
    let pool = c.args.pool.now in
    let found = c.in_ok-searched.searched.found in
    let by = c.ordering-ordering in
    let steps = c.in_ok-steps.ensures.pool in
    let places = c.deref.ensures.value ∙ steps.places in
    let same = same_search settings pool.base.now pool.steps.now pool.longest c.asked_of.result
    c.deref-2.result.now c.deref.result.now by.result.«module» by.result.whole_blocks by.result.rules.items steps.all
    c.asked_of.ensures (c.deref-2.ensures.value ∙ steps.keeps) places by.ensures.«module» by.ensures.whole
    by.ensures.rules in
    let report = c.in_ok-outcome.ensures.report in (
      steps.all,
      record {
        found = found;
        exactly = subst (λ (s : Search). AreSearchCounts s found) same c.in_ok-searched.ensures.found;
        kinds = report.kinds;
        shown = report.shown;
        listed = subst (λ (s : Search). All (IsFirstOfKind s settings.explain) report.kinds) same report.listed;
        whole = report.whole ∙ ap (λ (ps : List Step). kinds_bytes settings (record {
          head = record { settings = settings; most = pool.longest; pool = length ps; found = found };
          kinds = report.kinds;
        })) places;
        number_of = c.in_ok-outcome.ensures.number;
      },
    )
