-- What was seen over several calls.
use Rattle.std.proofs.Common.{◌≡◌, ℕ, List, refl, ap, ◌∙◌, subst, sym}
use Rattle.board_rule.specs.Lists.{row_of}
use Rattle.board_rule.proofs.Sums.{starts-refl, starts-trans}
use Rattle.seen_board.specs.Known.{Known}
use Rattle.seen_board.specs.Clauses.{SeesOn, Sees}

pub sees_on_refl : (seen : List (List ℕ)) → SeesOn seen seen
sees_on_refl seen q h = starts-refl (row_of seen q)

pub sees_on_trans : (first second third : List (List ℕ)) → SeesOn first second → SeesOn second third
    → SeesOn first third
sees_on_trans first second third a b q h = starts-trans (row_of first q) (row_of second q) (row_of third q) (b q h)
    (a q h)

pub sees_refl : (u : Known) → Sees u u
sees_refl u = (refl, sees_on_refl u.seen)

pub sees_trans : (u v w : Known) → Sees u v → Sees v w → Sees u w
sees_trans u v w a b = (
  b.0 ∙ ap (λ (x : Known). record x { seen = w.seen }) a.0,
  sees_on_trans u.seen v.seen w.seen a.1 b.1,
)

pub sees_same : (u v w : Known) → Sees u v → w ≡ v → Sees u w
sees_same u v w a e = subst (Sees u) (sym e) a
