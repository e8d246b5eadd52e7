use Rattle.std.proofs.Common.{◌≡◌, ℕ, ◌+◌, ◌<◌, List, [], ◌∷◌, ◌++◌, length, drop, get_or, subst, sym, ap, ◌∙◌}
use Rattle.std.specs.Prelude.{Option, Some}
use Rattle.crash_model.specs.Paths.{end_of}
use Rattle.path_lookup.proofs.Ways.{end_of-none, names_from}
use Rattle.path_lookup.proofs.lookup.end_of.Goals as goal

pub returns-in_err-dir-clause-value : goal.returns-in_err-dir-clause-value
returns-in_err-dir-clause-value g c =
    let d = c.args.image.now in
    let path = c.args.path.now in
    let name = c.name-item.result in
    let i = c.loop-name.name-index in
    let rest = drop (i + 1) path.through.items ++ path.last ∷ [] in
    let inside : i < length path.through.items =
    subst (λ (names : List (List ℕ)). i < length names) c.as_slice-name-items.ensures.value c.loop-name-test.true in
    let read : name ≡ get_or path.through.items i name =
    subst (λ (names : List (List ℕ)). name ≡ get_or names i name) c.as_slice-name-items.ensures.value c.name-item.is in
    c.from_residual.ensures ∙ (sym (end_of-none d rest)
    ∙ (ap (λ (inode : Option ℕ). end_of d inode rest) (sym c.in_err-dir.was ∙ c.child.ensures.value)
    ∙ (ap (end_of d (Some c.loop-name.dir)) (sym (names_from path.through.items (path.last ∷ []) i name inside read))
    ∙ c.loop-name.invariant.rest)))
