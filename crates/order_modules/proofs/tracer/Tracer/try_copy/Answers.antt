use Rattle.std.proofs.Common.{◌≡◌}
use Rattle.std.specs.List.{each_same}
use Rattle.order_modules.proofs.tracer.Tracer.try_copy.Goals as goal

pub returns : goal.returns
returns g c =
    let i = c.self.inside in
    let opened : c.in_ok-clone.field-0.items ≡ i.opened.items =
    each_same i.opened.items c.in_ok-clone.field-0.items c.in_ok-clone.ensures.cases.0 in
    let ended : c.in_ok-clone-2.field-0.items ≡ i.ended.items =
    each_same i.ended.items c.in_ok-clone-2.field-0.items c.in_ok-clone-2.ensures.cases.0 in
    let waits : c.in_ok-clone-3.field-0.items ≡ i.waits.items =
    each_same i.waits.items c.in_ok-clone-3.field-0.items c.in_ok-clone-3.ensures.cases.0 in
    rw (opened, ended, waits, c.in_ok-try_copy.ensures, c.in_ok-try_copy-2.ensures) c.self.view_is
