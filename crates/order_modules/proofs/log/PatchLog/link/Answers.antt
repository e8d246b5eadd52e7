use Rattle.std.proofs.Common.{◌≡◌, false, sym, subst}
use Rattle.std.specs.List.{list_any}
use Rattle.crash_model.specs.Trace.{is_same_group}
use Rattle.order_modules.specs.Log.{Log}
use Rattle.order_modules.proofs.Linking.{link_fields}
use Rattle.order_modules.proofs.log.PatchLog.link.Goals as goal

pub invariant_of-self-2 : goal.invariant_of-self-2
invariant_of-self-2 g c =
    let inside = c.self.inside in
    let none = subst (λ (l : Log). list_any (λ e. is_same_group e.origin.group c.args.later.now) l.emitted ≡ false)
    (sym c.self.view_is) c.requires in (
      link_fields inside.base.now inside.written inside.ordering.now.module inside.ordering.now.rules.items
          inside.ordering.now.whole_blocks inside.links.items c.push.new.self.items inside.labels.items inside.graph
          (record { later = c.args.later; earlier = c.args.earlier }) c.self.invariant.0 none
          c.in_ok-push.ensures.items,
      c.self.invariant.1,
    )
