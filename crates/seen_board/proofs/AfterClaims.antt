-- A seat after a try to claim.
use Rattle.std.proofs.Common.{◌≡◌, ◌≢◌, ℕ, ◌≤◌, List, ◌∙◌, ⊎_elim, arith}
use Rattle.std.specs.Prelude.{Contains}
use mathlib.Core.Logic.{dite}
use native.Mathlib.Decide.{ℕ_discrete}
use Rattle.atomic_table.specs.Seated.{TableId}
use Rattle.atomic_table.specs.Table.{Me}
use Rattle.board_rule.specs.Changes.{with_claim, with_learned}
use Rattle.board_rule.specs.declared.life.Life.TheVariants.{Claimed}
use Rattle.board_rule.specs.declared.view.View.{View}
use Rattle.board_rule.specs.Rule.{claims_on}
use Rattle.board_rule.proofs.Lives.{claim_here}
use Rattle.board_rule.proofs.Sums.{among}
use Rattle.seen_board.specs.Known.{known_of, Rests, Counts}
use Rattle.seen_board.specs.Clauses.{number, HasOrGaveUp}
use Rattle.seen_board.specs.declared.answers.Place.{Place}

pub claim_ok : {m n : Me Unit View} (counts : List ℕ) (r p : ℕ) → n.1 ≡ m.1
    → (r ≡ 0 → (n.0 ≡ with_claim m.0 p Claimed) × (Contains m.0.lives.given_up p → ⊥))
    × (r ≢ 0 → n.0 ≡ with_learned m.0 p Claimed) → Rests m × Counts m.0.places counts m.0.rows.seen → Rests n
    × Counts n.0.places counts n.0.rows.seen
claim_ok counts r p same either o = let i = o.0.2 in dite (ℕ_discrete r 0)
    (λ e. rw (either.0 e).0 (
      (
        same ∙ o.0.0,
        o.0.1,
        record {
          low = i.low;
          high = i.high;
          unfiled = i.unfiled;
          announced = i.announced;
          owed = i.owed;
          uncounted = i.uncounted;
        },
      ),
      o.1,
    ))
    (λ n. rw (either.1 n) (
      (
        same ∙ o.0.0,
        o.0.1,
        record {
          low = i.low;
          high = i.high;
          unfiled = i.unfiled;
          announced = i.announced;
          owed = i.owed;
          uncounted = i.uncounted;
        },
      ),
      o.1,
    ))

-- a claim that a seat has or has given up weighs
pub claim_weighs : (id : TableId) (v : View) (place : Place) → HasOrGaveUp (known_of id v) place
    → 1 ≤ claims_on (number place) v
claim_weighs id v place has = ⊎_elim (λ h. omega (arith, claim_here v (number place) h.1, h.0))
    (λ h. omega (arith, among (number place) v.lives.given_up h)) has
