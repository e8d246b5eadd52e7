use Rattle.std.proofs.Common.{refl, sym, ◌∙◌}
use Rattle.std.proofs.lemmas.Bool.{false≢true}
use Rattle.fs_check.proofs.atomic.has_if_compared.Goals as goal

pub returns-then-not-has : goal.returns-then-not-has
returns-then-not-has g c = (
  λ is h. absurd (false≢true (sym c.if-not-has.true ∙ c.has.ensures.1 h)),
  λ given. refl,
)

pub returns : goal.returns
returns g c = (
  λ is h. sym c.has_block.ensures ∙ is,
  λ given. c.has_block.ensures ∙ given (c.has.ensures.0 c.if-not-has.false),
)
