use Rattle.std.proofs.Common.{ℕ, List, length, map, ap, ap₂, ◌∙◌, subst, sym}
use Rattle.std.specs.Prelude.{All, ◌==◌}
use Rattle.patch_sets.specs.Sets.{AreAllInOrder}
use Rattle.question_model.specs.EnoughFor.{IsNeededInSearch}
use Rattle.pool_judging.specs.Judging.{search_by}
use Rattle.report.specs.OnChoices.{rules_at}
use Rattle.report.specs.OnPools.{rules_bytes}
use Rattle.report.specs.Found.{Need}
use Rattle.report.specs.declared.choices.Choices.{Choices}
use Rattle.crash_text.proofs.Listed.{each_listed}
use Rattle.crash_text.proofs.Numbers.{number_of_failing}
use Rattle.crash_text.proofs.searching_rules.report_on_rules.Goals as goal

pub needs_of_workloads-requires-clause-needed : goal.needs_of_workloads-requires-clause-needed
needs_of_workloads-requires-clause-needed g c =
    let s = search_by c.args.judge.now in
    subst (λ (groups : List ℕ). All (IsNeededInSearch s) groups) (sym c.deref.ensures.value)
    (each_listed (IsNeededInSearch s) c.in_ok-sets.sets.needed.items c.in_ok-sets.ensures.needed)

pub returns-clause-report : goal.returns-clause-report
returns-clause-report g c =
    let settings = c.args.request.now.settings in
    let judge = c.args.judge.now in
    let sets = c.in_ok-sets.sets.enough.items in
    let found = c.args.searched.now.found in
    let form : ℕ → List Choices → List Need → List ℕ = λ most enough needs. rules_bytes settings (record {
      head = record { settings = settings; most = most; pool = length judge.pool.now; found = found };
      enough = enough;
      needs = needs;
    }) in
    record {
      enough = sets;
      minimal = c.in_ok-sets.ensures.enough;
      needs = c.in_ok-needs.needs.items;
      needed = subst (AreAllInOrder (IsNeededInSearch (search_by judge)))
          (sym (c.in_ok-needs.ensures.groups ∙ c.deref.ensures.value)) c.in_ok-sets.ensures.needed;
      listed = c.in_ok-needs.ensures.needs;
      whole = c.in_ok-written.ensures
          ∙ (ap (λ (most : ℕ). form most c.deref-3.result.now c.deref-4.result.now) c.operations.ensures.same
          ∙ ap₂ (form judge.longest) (c.deref-3.ensures.value ∙ (c.in_ok-enough.ensures
          ∙ ap (map (rules_at (search_by judge).rules)) c.deref-2.ensures.value)) c.deref-4.ensures.value);
    }

pub returns-clause-number : goal.returns-clause-number
returns-clause-number g c = c.from.ensures ∙ number_of_failing (c.args.searched.now.found.failing == 0)
