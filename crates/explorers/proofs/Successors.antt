-- A seat while it expands the entry that it has claimed.
use Rattle.std.proofs.Common.{◌≡◌, ◌≢◌, ℕ, ◌+◌, List, length, get_or, ◌∙◌, subst, arith, below_more}
use Rattle.std.specs.List.{Contains}
use Rattle.std.proofs.lemmas.List.{get_or_default}
use Rattle.board_rule.specs.Lists.{Has}
use Rattle.seen_board.specs.Known.{Shown, Known}
use Rattle.seen_board.specs.Clauses.{SeesOn}
use Rattle.seen_board.specs.Inserts.{PutOk}
use Rattle.seen_board.specs.declared.answers.Place.{Place}
use Rattle.seen_board.specs.declared.answers.Put.{Put}
use Rattle.seen_board.specs.declared.answers.Put.TheVariants.{Busy, Over}
use Rattle.seen_board.proofs.Chains.{sees_on_trans}
use Rattle.seen_board.proofs.Puts.{has_on, put_still, put_has}
use Rattle.explorers.specs.Ready.{PutsIn, Expands}

pub puts_in : (x : ℕ) (s w : Known) (put : Put) → PutOk x s w put → put ≢ Over → put ≢ Busy → PutsIn x s w
puts_in x s w put ok not-over not-busy =
    let still = put_still x s w put ok not-over in
    record {
      board = still.board;
      limit = still.limit;
      places = still.places;
      free = still.free;
      claims = still.claims;
      place = still.place;
      has = put_has x s w put ok not-over not-busy;
    }

module _ {S : Type 0} (b : Shown S) where
  -- one more successor is an entry that was seen
  pub expands_next : (before : List (List ℕ)) (place : Place) (next : List ℕ) (k x : ℕ) (s w : Known)
      → Expands b before place next k s → x ≡ get_or next k 0 → SeesOn s.seen w.seen → PutsIn x s w
      → Expands b before place next (k + 1) w
  expands_next before place next k x s w o is sees put = record {
    of = (put.board ∙ o.of.0, put.limit ∙ o.of.1, put.places ∙ o.of.2);
    free = put.free;
    claim = (put.claims ∙ o.claim.0, put.place ∙ o.claim.1);
    sees = sees_on_trans before s.seen w.seen o.sees sees;
    has = below_more (λ j. Has w.seen (get_or next j 0)) k
        (λ j h. has_on s.seen w.seen (get_or next j 0) sees (o.has j h)) (subst (Has w.seen) is put.has);
  }

  -- once all are, the entry can be settled
  pub expands_all : (before : List (List ℕ)) (place : Place) (next : List ℕ) (k : ℕ) (s : Known)
      → Expands b before place next k s → k ≡ length next → (y : ℕ) → Contains next y → Has s.seen y
  expands_all before place next k s o all y has = subst (Has s.seen) (get_or_default next has.0 0 y has.1 ∙ has.2)
      (o.has has.0 (omega (arith, all, has.1)))
