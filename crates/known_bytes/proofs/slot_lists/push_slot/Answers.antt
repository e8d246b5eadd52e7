use Rattle.std.proofs.Common.{List, [], ◌∷◌, sym, subst}
use Rattle.std.specs.List.{Contains}
use Rattle.std.proofs.lemmas.List.Elements.{Contains-append_left, Contains-push}
use Rattle.crash_model.specs.declared.showing.ShownSlot.{ShownSlot}
use Rattle.known_bytes.proofs.slot_lists.push_slot.Goals as goal

pub returns-clause-kept : goal.returns-clause-kept
returns-clause-kept c = λ other before.
    subst (λ (xs : List ShownSlot). Contains xs other) (sym c.push.ensures.items)
    (Contains-append_left c.args.shows.now.items (c.args.shown ∷ []) other before)

pub returns-clause-pushed : goal.returns-clause-pushed
returns-clause-pushed c = λ pushed.
    subst (λ (xs : List ShownSlot). Contains xs c.args.shown) (sym c.push.ensures.items)
    (Contains-push c.args.shows.now.items c.args.shown)
