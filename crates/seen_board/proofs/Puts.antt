-- What a seat has seen stays, and what a try to put a word in leaves of it.
use Rattle.std.proofs.Common.{◌≡◌, ◌≢◌, ℕ, ◌/◌, ◌%◌, ◌<◌, List, [], ◌∷◌, ◌++◌, length, get_or, refl, ap, sym, ◌∙◌}
use Rattle.std.proofs.Common.{subst, arith}
use Rattle.std.specs.List.{Contains}
use Rattle.std.proofs.lemmas.List.{get_or_default}
use Rattle.board_rule.specs.Lists.{row_of, Has}
use Rattle.board_rule.proofs.Sums.{starts-length, starts-at}
use Rattle.seen_board.specs.Known.{Shown, Known}
use Rattle.seen_board.specs.Clauses.{IsOf, SeesOn, HasClaim, HasPlace, word_at, Names, number}
use Rattle.seen_board.specs.Inserts.{IsSuccessor, PutOk}
use Rattle.seen_board.specs.declared.answers.Place.{Place}
use Rattle.seen_board.specs.declared.answers.Put.{Put}
use Rattle.seen_board.specs.declared.answers.Put.TheVariants.{New, Known as Found, Busy, Over}

-- ---- rows that are seen on

-- an entry stays one
pub has_on : (seen rows : List (List ℕ)) (y : ℕ) → SeesOn seen rows → Has seen y → Has rows y
has_on seen rows y sees has =
    let s = sees (y % 13) (omega arith) in (
      has.0,
      omega (arith, has.1, starts-length (row_of rows (y % 13)) (row_of seen (y % 13)) s),
      starts-at (row_of rows (y % 13)) (row_of seen (y % 13)) has.0 s has.1 ∙ has.2,
    )

-- a place stays one, with its word
pub place_on : (seen rows : List (List ℕ)) (place : Place) → SeesOn seen rows → HasPlace seen place
    → HasPlace rows place × (word_at rows place ≡ word_at seen place)
place_on seen rows place sees has =
    let s = sees place.shard has.0 in (
      (has.0, omega (arith, has.1, starts-length (row_of rows place.shard) (row_of seen place.shard) s)),
      starts-at (row_of rows place.shard) (row_of seen place.shard) place.at s has.1,
    )

-- the word at k of the list of the claimed word is a successor of it
pub successor_on : (after : ℕ → List ℕ) (before : List (List ℕ)) (place : Place) (k x : ℕ) (s : Known)
    → HasClaim s place → HasPlace before place → SeesOn before s.seen
    → k < length (after (word_at before place)) → x ≡ get_or (after (word_at before place)) k 0 → IsSuccessor after s x
successor_on after before place k x s claim has sees inside is =
    let there = place_on before s.seen place sees has in
    let shard : s.place % 13 ≡ place.shard = omega (arith, claim.1, has.0) in
    let at : s.place / 13 ≡ place.at = omega (arith, claim.1, has.0) in (
      claim.0,
      (
        rw shard (rw at there.0.1),
        rw shard (rw at (subst (λ (y : ℕ). Contains (after y) x) (sym there.1)
            (k, inside, get_or_default (after (word_at before place)) k x 0 inside ∙ sym is))),
      ),
    )

-- ---- what a try to put a word in leaves

-- the seat is of the same board and has its claim as it was, and it has no right
pub record IsStill (before after : Known) : Type 0 where
  pub board : after.board ≡ before.board
  pub limit : after.limit ≡ before.limit
  pub places : after.places ≡ before.places
  pub free : after.right ≡ 0
  pub claims : after.claims ≡ before.claims
  pub place : after.place ≡ before.place
  pub learned : after.learned ≡ before.learned

-- so it is after a call that changes only what was seen, held and put in
still_by : (s w : Known) (added : List ℕ) → w ≡ record s { seen = w.seen; held = w.held; right = 0; added = added }
    → IsStill s w
still_by s w added e = record {
  board = ap (λ (u : Known). u.board) e;
  limit = ap (λ (u : Known). u.limit) e;
  places = ap (λ (u : Known). u.places) e;
  free = ap (λ (u : Known). u.right) e;
  claims = ap (λ (u : Known). u.claims) e;
  place = ap (λ (u : Known). u.place) e;
  learned = ap (λ (u : Known). u.learned) e;
}

-- and so it is where the board is not outgrown
pub put_still : (x : ℕ) (s w : Known) (put : Put) → PutOk x s w put → put ≢ Over → IsStill s w
put_still x s w (New p) (e, sees, named, absent) not-over = still_by s w (s.added ++ number p ∷ []) e
put_still x s w (Found p) ((e, sees), named) not-over = still_by s w s.added e
put_still x s w Busy (e, sees) not-over = still_by s w s.added e
put_still x s w Over ok not-over = absurd (not-over refl)

-- the seat sees on
pub put_sees : (x : ℕ) (s w : Known) (put : Put) → PutOk x s w put → SeesOn s.seen w.seen
put_sees x s w (New p) (e, sees, named, absent) = sees
put_sees x s w (Found p) ((e, sees), named) = sees
put_sees x s w Busy (e, sees) = sees
put_sees x s w Over (e, sees) = sees

-- a word that is named is an entry
names_has : (rows : List (List ℕ)) (place : Place) (x : ℕ) → Names rows place x → Has rows x
names_has rows place x named =
    subst (λ (q : ℕ). (j : ℕ) × (j < length (row_of rows q)) × (get_or (row_of rows q) j 0 ≡ x)) named.2
    (place.at, named.0.1, named.1)

-- the word is an entry then, unless there was no answer
pub put_has : (x : ℕ) (s w : Known) (put : Put) → PutOk x s w put → put ≢ Over → put ≢ Busy → Has w.seen x
put_has x s w (New p) (e, sees, named, absent) not-over not-busy = names_has w.seen p x named
put_has x s w (Found p) (returned, named) not-over not-busy = names_has w.seen p x named
put_has x s w Busy ok not-over not-busy = absurd (not-busy refl)
put_has x s w Over ok not-over not-busy = absurd (not-over refl)

-- it stays a seat of its board
pub still_of : {S : Type 0} (b : Shown S) (s w : Known) → IsStill s w → IsOf b s → IsOf b w
still_of b s w still of = (still.board ∙ of.0, still.limit ∙ of.1, still.places ∙ of.2)

-- and keeps its claim
pub still_claims : (place : Place) (s w : Known) → IsStill s w → HasClaim s place → HasClaim w place
still_claims place s w still claim = (still.claims ∙ claim.0, still.place ∙ claim.1)
