use Rattle.std.proofs.Common.{ℕ, List, [], ◌∷◌, sym, subst}
use Rattle.std.specs.List.{Contains}
use Rattle.std.proofs.lemmas.List.Elements.{Contains-append_left, Contains-push}
use Rattle.known_bytes.proofs.slot_lists.push_word.Goals as goal

pub returns-clause-kept : goal.returns-clause-kept
returns-clause-kept c = λ other before.
    subst (λ (xs : List (List ℕ)). Contains xs other) (sym c.push.ensures.items)
    (Contains-append_left c.args.words.now.items (c.args.word ∷ []) other before)

pub returns-clause-pushed : goal.returns-clause-pushed
returns-clause-pushed c = λ pushed.
    subst (λ (xs : List (List ℕ)). Contains xs c.args.word) (sym c.push.ensures.items)
    (Contains-push c.args.words.now.items c.args.word)
