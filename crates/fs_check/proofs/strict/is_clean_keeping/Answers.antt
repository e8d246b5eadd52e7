use Rattle.std.proofs.Common.{sym, ◌∙◌}
use Rattle.std.proofs.lemmas.Bool.{false≢true}
use Rattle.crash_model.proofs.Losing.{clean_keeping, clean_from_keeping, loses_from_keeping}
use Rattle.fs_check.proofs.Halves.{halves_clean, clean_halves}
use Rattle.fs_check.proofs.strict.is_clean_keeping.Goals as goal

pub returns-then-has_clean_pointers : goal.returns-then-has_clean_pointers
returns-then-has_clean_pointers g c =
    let d = c.args.image.now in
    let kept = c.in-Some.kept in
    rw c.in-Some.is (
      λ is.
          let both = c.has_clean_tree.ensures.0 is in
          clean_keeping kept d (halves_clean d (c.has_clean_pointers.ensures.0 c.if-has_clean_pointers.true, both.0))
          both.1,
      λ under. c.has_clean_tree.ensures.1 (
        (clean_halves d (clean_from_keeping kept d under)).1,
        loses_from_keeping kept d under,
      ),
    )

pub returns-else-has_clean_pointers : goal.returns-else-has_clean_pointers
returns-else-has_clean_pointers g c = rw c.in-Some.is (
  λ is. absurd (false≢true (sym c.if-has_clean_pointers.false ∙ is)),
  λ under. c.has_clean_pointers.ensures.1 (clean_halves c.args.image.now
      (clean_from_keeping c.in-Some.kept c.args.image.now under)).0,
)
