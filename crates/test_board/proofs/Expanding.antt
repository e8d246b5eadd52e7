-- A seat that has claimed an entry, and puts in a successor of it.
use Rattle.std.proofs.Common.{◌≡◌, ◌≢◌, ℕ, ap, ◌∙◌}
use Rattle.seen_board.specs.Known.{Shown, Known}
use Rattle.seen_board.specs.Clauses.{IsOf, HasClaim, HasPlace, word_at}
use Rattle.seen_board.specs.Inserts.{PutOk}
use Rattle.seen_board.specs.declared.answers.Place.{Place}
use Rattle.seen_board.specs.declared.answers.Put.{Put}
use Rattle.seen_board.specs.declared.answers.Put.TheVariants.{New, Known as Found, Busy, Over}
use Rattle.seen_board.proofs.Puts.{place_on, put_still, put_sees, still_of, still_claims}
use Rattle.test_board.specs.Worker.{IsAt}

module _ {S : Type 0} (b : Shown S) where
  -- whatever the answer, the seat is of the board and has no right
  pub put_after : (x : ℕ) (s w : Known) (put : Put) → PutOk x s w put → IsOf b s → IsOf b w × (w.right ≡ 0)
  put_after x s w (New p) ok of = let still = put_still x s w (New p) ok (λ over. cc) in
      (still_of b s w still of, still.free)
  put_after x s w (Found p) ok of = let still = put_still x s w (Found p) ok (λ over. cc) in
      (still_of b s w still of, still.free)
  put_after x s w Busy ok of = let still = put_still x s w Busy ok (λ over. cc) in (still_of b s w still of, still.free)
  put_after x s w Over (e, sees) of = (
    (
      ap (λ (u : Known). u.board) e ∙ of.0,
      ap (λ (u : Known). u.limit) e ∙ of.1,
      ap (λ (u : Known). u.places) e
          ∙ of.2,
    ),
    ap (λ (u : Known). u.right) e,
  )

  -- the claim is still there
  pub still_at : (place : Place) (x : ℕ) (s w : Known) (put : Put) → PutOk x s w put → IsOf b s → HasClaim s place
      → HasPlace s.seen place → put ≢ Over → IsAt b place (word_at s.seen place) w
  still_at place x s w put ok of claim has not-over =
      let still = put_still x s w put ok not-over in
      let there = place_on s.seen w.seen place (put_sees x s w put ok) has in
      (still_of b s w still of, still.free, still_claims place s w still claim, there.0, there.1)
