-- Two kinds of step: one that changes what a seat has of locks, rows and index, and one that changes the rest of what
-- it has.
use Rattle.std.proofs.Common.{◌≡◌, ◌≢◌, ℕ, ◌+◌, ◌*◌, ◌<◌, ◌≤◌, List, get_or, set, sym, refl, ◌∙◌, subst, inr, arith}
use Rattle.std.proofs.Common.{length-set, get_or-set_other}
use mathlib.Core.Option.{some}
use lib.ListN.{get_elem?}
use lib.Seq.{set-get_or}
use Rattle.atomic_table.specs.Table.{State, Me, keeps, stepped}
use Rattle.atomic_table.proofs.Lists.{set_again}
use Rattle.board_rule.specs.Layout.{writer, lock_word, length_word, low_word, high_word, index_word}
use Rattle.board_rule.specs.Views.{Fixed, OnRows, OnLives, OnPending, OnCount}
use Rattle.board_rule.specs.Rule.{LocksOk, RowsOk, SeatOk, LivesOk, PendingOk, CountOk, IndexOk, IsBare, IsKept}
use Rattle.board_rule.specs.declared.view.View.{View}
use Rattle.board_rule.proofs.Sums.{seats_turn}
use Rattle.board_rule.proofs.Locks.{locks_stay}
use Rattle.board_rule.proofs.Rows.{Halves, rows_stay, seat_stay}
use Rattle.board_rule.proofs.Lives.{lives_stay}
use Rattle.board_rule.proofs.Pending.{pending_stay, count_turn}
use Rattle.board_rule.proofs.Index.{index_stay}
use Rattle.board_rule.proofs.Added.{added_stay}
use Rattle.board_rule.proofs.Shares.{shares_turn}

module _ (t : Fixed) (good : ℕ → Type 0) (S : Type 0) where
  abbrev pub Rule : State S View → Type 0
  Rule = IsKept t good

  -- a load that changes no view
  pub unmoved : (s : State S View) → Rule s → (i id : ℕ) (m : Me S View) → get_elem? s.views id ≡ some m.0
      → Rule (stepped s i (get_or s.words i 0) id m.1 m.0 keeps)
  unmoved s o i id m me = let same : ◌≡◌ {A = State S View} s (stepped s i (get_or s.words i 0) id m.1 m.0 keeps) =
      λ k. record {
        words = sym (set-get_or s.words i 0) k;
        homes = s.homes;
        views = sym (set_again s.views id m.0 me) k;
      } in
      subst Rule same o

  -- a step on a lock, an entry after the row or the index
  pub rows_turn : (s : State S View) (o : Rule s) (id i n : ℕ) (m : Me S View) (r : OnRows) → 3 ≤ i
      → ((a : ℕ) → 216 + 26 * t.places ≤ a → a < 216 + 39 * t.places → a ≢ i) → get_elem? s.views id ≡ some m.0
      → r.added ≡ m.0.rows.added → m.0.pending.announced * writer ≤ r.right
      → LocksOk (set s.words i n) (set s.views id (record m.0 { rows = r })) → RowsOk t o.rows (set s.words i n)
      → SeatOk t.places o.rows (set s.words i n) r → ((j : ℕ) (u : View) → j ≢ id → get_elem? s.views j ≡ some u
      → SeatOk t.places o.rows (set s.words i n) u.rows)
      → IndexOk t.places o.rows (set s.words i n) (set s.views id (record m.0 { rows = r }))
      → Rule (stepped s i n id m.1 (record m.0 { rows = r }) keeps)
  rows_turn s o id i n m r high off me same writers locks row seat others index = let w : View =
      record m.0 { rows = r } in let words' = set s.words i n in record {
        rows = o.rows;
        lives = o.lives;
        wide = o.wide;
        sized = length-set s.words i n ∙ o.sized;
        informed = seats_turn (λ u. 0 < u.places → u.places ≡ t.places) s.views id w (o.informed id m.0 me)
            (λ j u ne e. o.informed j u e);
        rooted = o.rooted;
        locks = locks;
        row = row;
        seats = seats_turn (λ u. SeatOk t.places o.rows words' u.rows) s.views id w seat others;
        added = added_stay t.origin o.rows s.views id m.0 w o.added me same;
        life = lives_stay t good o.rows o.lives s.words words' s.views id m.0 w o.life me
            (λ q k h b. get_or-set_other s.words i _ n 0 (off _ (omega arith) (omega (arith, h, b))))
            (λ q h. omega (arith, o.life.even q h, o.row.short q h)) (λ p. omega arith) refl;
        pending = pending_stay o.lives s.words words' s.views id m.0 w o.pending me
            (get_or-set_other s.words i 0 n 0 (λ e. omega (arith, e, high))) refl writers;
        counts = count_turn t o.rows o.rows s.words words' s.views id m.0 w o.counts me
            (omega (arith, get_or-set_other s.words i 1 n 0 (λ e. omega (arith, e, high)))) (o.counts.over id m.0 me);
        index = index;
        shares = shares_turn s.views id m.0 w o.shares me refl refl
            (λ _ b. record {
              added = same ∙ b.added;
              claims = b.claims;
              given_up = b.given_up;
              announced = b.announced;
              owed = b.owed;
              verdicts = b.verdicts;
              uncounted = b.uncounted;
            });
      }

  -- a step on a counter or on a life
  pub rest_turn : (s : State S View) (o : Rule s) (id i n : ℕ) (m : Me S View) (l : OnLives) (p : OnPending)
      (c : OnCount) (lives' : List (List ℕ))
      → ((a : ℕ) → 3 ≤ a → a < 216 + 26 * t.places → a ≢ i) → ((a : ℕ) → 216 + 39 * t.places ≤ a → a ≢ i)
      → get_elem? s.views id ≡ some m.0
      → (m.0.places ≡ 0 → IsBare m.0 → IsBare (record m.0 { lives = l; pending = p; count = c }))
      → LivesOk t good o.rows lives' (set s.words i n) (set s.views id
      (record m.0 { lives = l; pending = p; count = c }))
      → PendingOk lives' (set s.words i n) (set s.views id (record m.0 { lives = l; pending = p; count = c }))
      → CountOk t o.rows (set s.words i n) (set s.views id (record m.0 { lives = l; pending = p; count = c }))
      → Rule (stepped s i n id m.1 (record m.0 { lives = l; pending = p; count = c }) keeps)
  rest_turn s o id i n m l p c lives' below above me bare life pending counts = let w : View =
      record m.0 { lives = l; pending = p; count = c } in let words' = set s.words i n in
      let early : (a : ℕ) → 3 ≤ a → a < 216 + 26 * t.places
      → get_or words' a 0 ≡ get_or s.words a 0 = λ a x y. get_or-set_other s.words i a n 0 (below a x y) in
      let halves : (q k : ℕ) → q < 13 → k < t.places → Halves t.places s.words words' q k =
      λ q k h b. (
        early (low_word q k) (omega arith) (omega (arith, h, b)),
        early (high_word t.places q k) (omega arith) (omega (arith, h, b)),
      ) in
      let marks : (q j : ℕ) → q < 13 → j < t.places → get_or words' (index_word t.places q j) 0
      ≡ get_or s.words (index_word t.places q j) 0 = λ q j h b. get_or-set_other s.words i (index_word t.places q j)
      n 0 (above (index_word t.places q j) (omega arith)) in record {
        rows = o.rows;
        lives = lives';
        wide = o.wide;
        sized = length-set s.words i n ∙ o.sized;
        informed = seats_turn (λ u. 0 < u.places → u.places ≡ t.places) s.views id w (o.informed id m.0 me)
            (λ j u ne e. o.informed j u e);
        rooted = o.rooted;
        locks = locks_stay s.words words' s.views id m.0 w o.locks me
            (λ q h. early (lock_word q) (omega arith) (omega (arith, h))) (λ q. omega arith);
        row = rows_stay t o.rows s.words words' o.row (λ q h. early (length_word q) (omega arith) (omega (arith, h)))
            (λ q k h b. halves q k h (omega (arith, b, o.row.short q h)));
        seats = seats_turn (λ u. SeatOk t.places o.rows words' u.rows) s.views id w
            (seat_stay t.places o.rows s.words words' m.0.rows (o.seats id m.0 me) halves marks)
            (λ j u ne e. seat_stay t.places o.rows s.words words' u.rows (o.seats j u e) halves marks);
        added = added_stay t.origin o.rows s.views id m.0 w o.added me refl;
        life = life;
        pending = pending;
        counts = counts;
        index = index_stay t.places o.rows s.words words' s.views id m.0 w o.wide o.index me marks
            (λ q k h b held writes owes. inr (held, writes, owes));
        shares = shares_turn s.views id m.0 w o.shares me refl refl bare;
      }
