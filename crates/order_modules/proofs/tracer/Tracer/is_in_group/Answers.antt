use Rattle.std.proofs.Common.{sym, ap, ◌∙◌}
use Rattle.std.specs.Prelude.{is_some}
use Rattle.order_modules.specs.Tracer.{Trace}
use Rattle.order_modules.proofs.Grouping.{some_group}
use Rattle.order_modules.proofs.tracer.Tracer.is_in_group.Goals as goal

pub returns : goal.returns
returns g c = c.is_some.ensures ∙ (sym (some_group c.self.inside.current)
    ∙ ap (λ (t : Trace). is_some t.tracing.current) c.self.view_is)
