use Rattle.std.proofs.Common.{ℕ, List, length, ap₂, ◌∙◌}
use Rattle.std.specs.Prelude.{◌==◌}
use Rattle.report.specs.OnPools.{kinds_bytes}
use Rattle.report.specs.Found.{Kind}
use Rattle.crash_text.proofs.Numbers.{number_of_failing}
use Rattle.crash_text.proofs.searching.report_on.Goals as goal

pub returns-clause-report : goal.returns-clause-report
returns-clause-report g c =
    let settings = c.args.settings.now in
    let judge = c.args.judge.now in
    record {
      kinds = c.in_ok-kinds.kinds.items;
      shown = c.in_ok-kinds.ensures.shown ∙ c.as_slice.ensures.value;
      listed = c.in_ok-kinds.ensures.first;
      whole = c.in_ok-written.ensures ∙ ap₂ (λ (most : ℕ) (kinds : List Kind). kinds_bytes settings (record {
        head = record { settings = settings; most = most; pool = length judge.pool.now; found = c.args.found.now };
        kinds = kinds;
      })) c.operations.ensures.same c.deref.ensures.value;
    }

pub returns-clause-number : goal.returns-clause-number
returns-clause-number g c = c.from.ensures ∙ number_of_failing (c.args.found.now.failing == 0)
