use Rattle.std.proofs.Common.{ap, sym, ◌∙◌}
use Rattle.std.specs.Prelude.{Err}
use Rattle.crash_model.specs.declared.refusals.TraceFault.{TraceFault}
use Rattle.order_modules.proofs.WaitSteps.{no_changes, path_found, path_refused}
use Rattle.order_modules.proofs.waiting.find_path.Goals as goal

pub returns-in-Ok-clause-found : goal.returns-in-Ok-clause-found
returns-in-Ok-clause-found g c =
    path_found c.args.disk.now c.args.path.now c.args.line (c.in-Ok.ensures.found no_changes)

pub returns-in-Err-clause-refused : goal.returns-in-Err-clause-refused
returns-in-Err-clause-refused g c = λ s.
    path_refused c.args.disk.now c.args.path.now c.args.line c.in-Err.fault (c.in-Err.ensures.found no_changes) s
    ∙ ap (λ (f : TraceFault). Err f) (sym c.at_line.ensures)
