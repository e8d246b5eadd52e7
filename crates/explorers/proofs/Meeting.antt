-- The words that a worker has met, while its seat sees more.
use Rattle.std.proofs.Common.{◌≡◌, ◌≢◌, ◌∙◌, ℕ, List, subst, sym, ◌⊎◌, inl, inr}
use Rattle.std.specs.List.{All, Contains}
use Rattle.std.proofs.lemmas.List.Elements.{All-contains}
use Rattle.board_rule.specs.Lists.{Has}
use Rattle.seen_board.specs.Clauses.{SeesOn}
use Rattle.seen_board.specs.Ended.{claims_made}
use Rattle.seen_board.specs.Inserts.{PutOk}
use Rattle.seen_board.specs.Known.{Known, Shown}
use Rattle.seen_board.specs.declared.answers.Put.{Put}
use Rattle.seen_board.specs.declared.answers.Put.TheVariants.{Busy, Over}
use Rattle.seen_board.proofs.Puts.{has_on, put_sees}
use Rattle.explorers.proofs.Successors.{puts_in}
use Rattle.explorers.specs.RecentlySeen.{AreMet}
use Rattle.explorers.specs.Ready.{IsIdle, IsFree, IsReady, Counts, Keeps}
use Rattle.explorers.specs.declared.worker.Worker.{Worker}

-- what was met stays so where more is seen
pub met_on : (words : List ℕ) (seen rows : List (List ℕ)) → SeesOn seen rows → AreMet words seen → AreMet words rows
met_on words seen rows sees recent = record { has = λ word is. has_on seen rows word sees (recent.has word is) }

-- and where a word is kept that was put in
pub met_more : (words more : List ℕ) (word : ℕ) (s w : Known) → SeesOn s.seen w.seen → Has w.seen word
    → ((other : ℕ) → Contains more other → (other ≡ word) ⊎ Contains words other) → AreMet words s.seen
    → AreMet more w.seen
met_more words more word s w sees has each recent = record {
  has = λ other is. elim (each other is) [
    | inl e ↦ subst (Has w.seen) (sym e) has
    | inr old ↦ (met_on words s.seen w.seen sees recent).has other old
  ];
}

-- a worker that put a word in, and keeps it
pub free_after : {S C A : Type 0} (b : Shown S) (space : S) (is_own : S → C → Type 0) (before after : Worker C A)
    (word : ℕ) (put : Put) → IsFree b space is_own before → PutOk word before.seat after.seat put → put ≢ Over
    → put ≢ Busy → is_own space after.scratch → ((other : ℕ) → Contains after.recent other → (other ≡ word)
    ⊎ Contains before.recent other) → IsFree b space is_own after
free_after b space is_own before after word put free ok not_over not_busy own each =
    let puts = puts_in word before.seat after.seat put ok not_over not_busy in
    record {
      explored = free.explored;
      of = (puts.board ∙ free.of.0, puts.limit ∙ free.of.1, puts.places ∙ free.of.2);
      free = puts.free;
      own = own;
      recent = met_more before.recent after.recent word before.seat after.seat
          (put_sees word before.seat after.seat put ok)
          puts.has each free.recent;
    }

-- a worker that is between two rounds stays so where its seat is idle and sees on
pub ready_on : {S C A : Type 0} (b : Shown S) (space : S) (is_own : S → C → Type 0) (before : Known)
    (worker : Worker C A) → b.space ≡ space → is_own space worker.scratch → AreMet worker.recent before.seen
    → Counts worker.expanded (claims_made before) → IsIdle b worker.seat → Keeps before worker.seat
    → SeesOn before.seen worker.seat.seen → IsReady b space is_own worker
ready_on b space is_own before worker explored own recent counted idle keeps sees = record {
  free = record {
    explored = explored;
    of = idle.0;
    free = idle.1;
    own = own;
    recent = met_on worker.recent before.seen worker.seat.seen sees recent;
  };
  unclaimed = idle.2;
  counted = subst (Counts worker.expanded) (sym keeps.claims) counted;
}

-- copies of one word
pub met_copies : (words : List ℕ) (word : ℕ) (seen : List (List ℕ)) → All (λ recent. recent ≡ word) words
    → Has seen word
    → AreMet words seen
met_copies words word seen all has = record {
  has = λ other is.
      subst (Has seen) (sym (All-contains (λ recent. recent ≡ word) words other all is)) has;
}
