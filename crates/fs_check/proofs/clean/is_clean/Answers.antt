use Rattle.std.proofs.Common.{sym, ◌∙◌}
use Rattle.std.proofs.lemmas.Bool.{false≢true}
use Rattle.fs_check.proofs.Halves.{halves_clean, clean_halves}
use Rattle.fs_check.proofs.clean.is_clean.Goals as goal

pub returns-then-has_clean_pointers : goal.returns-then-has_clean_pointers
returns-then-has_clean_pointers g c = (
  λ t. halves_clean c.args.image.now (
    c.has_clean_pointers.ensures.0 c.if-has_clean_pointers.true,
    c.has_clean_entries.ensures.0 t,
  ),
  λ clean. c.has_clean_entries.ensures.1 (clean_halves c.args.image.now clean).1,
)

pub returns-else-has_clean_pointers : goal.returns-else-has_clean_pointers
returns-else-has_clean_pointers g c = (
  λ t. absurd (false≢true (sym c.if-has_clean_pointers.false ∙ t)),
  λ clean. c.has_clean_pointers.ensures.1 (clean_halves c.args.image.now clean).0,
)
