-- The steps on pending, the count and the stop.
use Rattle.std.proofs.Common.{◌≡◌, ◌≢◌, ℕ, ◌+◌, ◌-◌, ◌*◌, ◌%◌, ◌^◌, ◌<◌, ◌≤◌, inl, inr, List, ◌++◌, length, get_or, set}
use Rattle.std.proofs.Common.{replicate, refl, ap, ◌∙◌, subst, arith, get_or-set_other, get_or-set_same}
use Rattle.std.specs.Prelude.{Contains}
use mathlib.Core.Logic.{dite}
use native.Mathlib.Decide.{ℕ_discrete, dec_le}
use mathlib.Core.Option.{none, some}
use lib.ListN.{get_elem?}
use Rattle.atomic_table.specs.Table.{State, Me, step, keeps, stepped, Allows}
use Rattle.state_space.specs.Reach.{IsReached}
use Rattle.board_rule.specs.Layout.{writer, place_of}
use Rattle.board_rule.specs.Lists.{row_of, total}
use Rattle.board_rule.specs.Lives.{is_unsettled}
use Rattle.board_rule.specs.Views.{Fixed, OnLives, OnPending, OnCount}
use Rattle.board_rule.specs.Rule.{claims_on, open_lives, PendingOk, CountOk, IsBare, IsKept, Overfills}
use Rattle.board_rule.specs.Changes.{with_given_up}
use Rattle.board_rule.specs.Plays.{Announces, Repays, Ends, CountsEntry, Stops, Overflows}
use Rattle.board_rule.specs.declared.view.View.{View}
use Rattle.board_rule.proofs.Sums.{total-set, term_le}
use Rattle.board_rule.proofs.Lives.{in_range, claims_given_up, lives_stay}
use Rattle.board_rule.proofs.Pending.{lives_term, pending_turn, count_turn}
use Rattle.board_rule.proofs.Bounds.{all_counts, adds_few, total_bound, more_entries, full_row}
use Rattle.board_rule.proofs.Turns.{unmoved, rest_turn}
use Rattle.board_rule.proofs.RowSteps.{reached_successor}
use Rattle.board_rule.proofs.LifeSteps.{claimed_life}

module _ (t : Fixed) (good : ℕ → Type 0) (S : Type 0) where
  abbrev Rule : State S View → Type 0
  Rule = IsKept t good

  -- a step on one of the words 0 to 2
  counter_turn : (s : State S View) (o : Rule s) (id i n : ℕ) (l : OnLives) (p : OnPending) (c : OnCount)
      (m : Me S View) → i < 3 → get_elem? s.views id ≡ some m.0
      → ((a : ℕ) → claims_on a (record m.0 { lives = l; pending = p; count = c }) ≡ claims_on a m.0)
      → l.learned ≡ m.0.lives.learned → (m.0.places ≡ 0 → IsBare m.0
      → IsBare (record m.0 { lives = l; pending = p; count = c }))
      → PendingOk o.lives (set s.words i n) (set s.views id (record m.0 { lives = l; pending = p; count = c }))
      → CountOk t o.rows (set s.words i n) (set s.views id (record m.0 { lives = l; pending = p; count = c }))
      → Rule (stepped s i n id m.1 (record m.0 { lives = l; pending = p; count = c }) keeps)
  counter_turn s o id i n l p c m low me less met bare pending counts = let w : View =
      record m.0 { lives = l; pending = p; count = c } in
      rest_turn t good S s o id i n m l p c o.lives (λ a lo hi e. omega (arith, e, lo, low))
      (λ a lo e. omega (arith, e, lo, low)) me bare
      (lives_stay t good o.rows o.lives s.words (set s.words i n) s.views id m.0 w o.life me
      (λ q k h b. get_or-set_other s.words i _ n 0 (λ e. omega (arith, e, low)))
      (λ q h. omega (arith, o.life.even q h, o.row.short q h)) less met) pending counts

  lives_few : (s : State S View) (o : Rule s) → total length o.lives ≤ 13 * t.places
  lives_few s o = let b : total length o.lives ≤ length o.lives * t.places =
      total_bound o.lives t.places (λ q b. let h : q < 13 = omega (arith, b, o.life.all) in
      omega (arith, o.life.even q h, o.row.short q h)) in
      subst (λ (n : ℕ). total length o.lives ≤ n * t.places) o.life.all b

  -- a writer with a claim adds 1 to pending, before it publishes
  pub announces : (n id : ℕ) (m : Me S View) (q k : ℕ) → t.places ≤ 32768 → q < 13 → m.0.lives.claims ≡ 1
      → m.0.lives.place ≡ place_of q k → m.0.rows.right ≡ writer → m.0.pending.announced ≡ 0
      → Allows Rule n id m 0 (λ y. (y + 1) % 2 ^ 64) (Announces (step n 0 1 0 none) m)
  announces n id m q k small near has here writes none-yet s o wide me _ = let x = get_or s.words 0 0 in
      let p = record m.0.pending { announced = 1 } in let w : View = record m.0 { pending = p } in
      let few = adds_few s.words s.views o.locks (λ j v e. ((o.seats j v e).near, o.pending.by_writers j v e)) in
      let all = all_counts o.lives in let bound = lives_few s o in
      let under : x < 18446744073709551615 = omega (arith, o.pending.sum, o.pending.few, few, all, bound, small) in
      let up : (x + 1) % 2 ^ 64 ≡ x + 1 = omega (arith, under) in let y = (x + 1) % 2 ^ 64 in
      let was = claimed_life t good S s o id q k m.0 near me has here in
      let inside = in_range (row_of o.lives q) k (omega (arith, was)) in
      let one-open : 1 ≤ open_lives o.lives = omega (
        arith,
        lives_term is_unsettled o.lives q k (omega (arith, near, o.life.all)) inside,
        ap is_unsettled was,
      ) in
      let now : get_or (set s.words 0 y) 0 0 ≡ y = get_or-set_same s.words 0 y 0 (omega (arith, o.sized)) in (
        w,
        keeps,
        tt,
        counter_turn s o id 0 y m.0.lives p m.0.count m (omega arith) me (λ a. omega arith) refl
            (λ _ b. absurd (omega (arith, b.claims, has)))
            (pending_turn o.lives o.lives s.words (set s.words 0 y) s.views id m.0 w o.pending me
            (omega (arith, now, up, none-yet)) (omega arith) (omega arith) (omega (arith, writes))
            (λ none-open _. absurd (omega (arith, none-open, one-open)))
            (λ f. absurd (omega (arith, (o.pending.done id m.0 me f).0, one-open))))
            (count_turn t o.rows o.rows s.words (set s.words 0 y) s.views id m.0 w o.counts me
            (omega (arith, get_or-set_other s.words 0 1 y 0 (λ e. omega (arith, e)))) (o.counts.over id m.0 me)),
        refl,
      )

  -- after settling, 1 is subtracted
  pub repays : (n id : ℕ) (m : Me S View) → m.0.pending.owed ≡ 1
      → Allows Rule n id m 0 (λ y. (y + (2 ^ 64 - 1)) % 2 ^ 64) (Repays (step n 0 1 0 none) m)
  repays n id m debt s o wide me under = let x = get_or s.words 0 0 in let p = record m.0.pending { owed = 0 } in
      let w : View = record m.0 { pending = p } in let y = (x + (2 ^ 64 - 1)) % 2 ^ 64 in
      let low : 1 ≤ x = omega (arith, o.pending.sum, term_le (λ v. v.pending.owed) s.views id m.0 me, debt) in
      let top : x < 18446744073709551616 = under in let down : y + 1 ≡ x = omega (arith, low, top) in
      let now : get_or (set s.words 0 y) 0 0 ≡ y = get_or-set_same s.words 0 y 0 (omega (arith, o.sized)) in
      let a = total-set (λ v. v.pending.announced) s.views id m.0 w me in (
        w,
        keeps,
        tt,
        counter_turn s o id 0 y m.0.lives p m.0.count m (omega arith) me (λ b. omega arith) refl
            (λ _ b. record {
              added = b.added;
              claims = b.claims;
              given_up = b.given_up;
              announced = b.announced;
              owed = refl;
              verdicts = b.verdicts;
              uncounted = b.uncounted;
            })
            (pending_turn o.lives o.lives s.words (set s.words 0 y) s.views id m.0 w o.pending me
            (omega (arith, now, down, debt)) (omega (arith, debt)) (omega arith) (o.pending.by_writers id m.0 me)
            (λ none-open _. (none-open, omega arith)) (λ f. let d = o.pending.done id m.0 me f in
            (d.0, omega (arith, a, d.1))))
            (count_turn t o.rows o.rows s.words (set s.words 0 y) s.views id m.0 w o.counts me
            (omega (arith, get_or-set_other s.words 0 1 y 0 (λ e. omega (arith, e)))) (o.counts.over id m.0 me)),
        refl,
      )

  -- a load of pending: where it finds 0, nothing is unsettled and nothing is on its way
  pub ends : (n id : ℕ) (m : Me S View) → Allows Rule n id m 0 (λ y. y) (Ends (step n 0 0 0 none) m)
  ends n id m s o wide me _ = let x = get_or s.words 0 0 in let p = record m.0.pending { finished = 1 } in
      let w : View = record m.0 { pending = p } in let a = total-set (λ v. v.pending.announced) s.views id m.0 w me in
      let now : get_or (set s.words 0 x) 0 0 ≡ x = get_or-set_same s.words 0 x 0 (omega (arith, o.sized)) in
      dite (ℕ_discrete x 0)
      (λ zeroed. (
        w,
        keeps,
        tt,
        counter_turn s o id 0 x m.0.lives p m.0.count m (omega arith) me (λ b. omega arith) refl
            (λ _ b. record {
              added = b.added;
              claims = b.claims;
              given_up = b.given_up;
              announced = b.announced;
              owed = b.owed;
              verdicts = b.verdicts;
              uncounted = b.uncounted;
            })
            (pending_turn o.lives o.lives s.words (set s.words 0 x) s.views id m.0 w o.pending me (omega (arith, now))
            (omega arith) (omega arith) (o.pending.by_writers id m.0 me)
            (λ none-open _. (none-open, omega arith)) (λ _. (
              omega (arith, o.pending.sum, zeroed),
              omega (arith, a, o.pending.sum, zeroed),
            )))
            (count_turn t o.rows o.rows s.words (set s.words 0 x) s.views id m.0 w o.counts me
            (omega (arith, get_or-set_other s.words 0 1 x 0 (λ e. omega (arith, e)))) (o.counts.over id m.0 me)),
        (refl, (λ _. refl), λ ne. absurd (ne zeroed)),
      ))
      (λ ne. (m.0, keeps, tt, unmoved t good S s o 0 id m me, (refl, (λ e. absurd (ne e)), λ _. refl)))

  -- a published entry is counted: past the places the seat knows that more words are reached
  pub counts_it : (n id : ℕ) (m : Me S View) → t.places ≤ 32768 → m.0.limit ≡ t.limit → m.0.count.uncounted ≡ 1
      → Allows Rule n id m 1 (λ y. (y + 1) % 2 ^ 64) (CountsEntry (step n 1 1 0 none) m)
  counts_it n id m small informed mine s o wide me _ = let x = get_or s.words 1 0 in let y = (x + 1) % 2 ^ 64 in
      let rows-few : total length o.rows ≤ 13 * t.places = subst (λ (n : ℕ). total length o.rows ≤ n * t.places)
      o.row.all (total_bound o.rows t.places (λ q b. o.row.short q (omega (arith, b, o.row.all)))) in
      let more : x + 1 ≤ total length o.rows = omega (
        arith,
        o.counts.count,
        term_le (λ v. v.count.uncounted) s.views id m.0 me,
        mine,
      ) in
      let up : y ≡ x + 1 = omega (arith, more, rows-few, small) in
      let now : get_or (set s.words 1 y) 1 0 ≡ y = get_or-set_same s.words 1 y 0 (omega (arith, o.sized)) in
      let made : (c : OnCount) → c.uncounted ≡ 0 → (c.over ≡ 1 → Overfills (IsReached t.next t.origin) t.limit t.places)
      → Rule (stepped s 1 y id m.1 (record m.0 { count = c }) keeps) = λ c none large.
      (let w : View = record m.0 { count = c } in let a = total-set (λ v. v.pending.announced) s.views id m.0 w me in
      counter_turn s o id 1 y m.0.lives m.0.pending c m (omega arith) me (λ b. omega arith) refl
      (λ _ b. absurd (omega (arith, b.uncounted, mine)))
      (pending_turn o.lives o.lives s.words (set s.words 1 y) s.views id m.0 w o.pending me
      (omega (arith, get_or-set_other s.words 1 0 y 0 (λ e. omega (arith, e)))) (omega arith) (omega arith)
      (o.pending.by_writers id m.0 me)
      (λ none-open _. (none-open, omega arith)) (λ f. let d = o.pending.done id m.0 me f in
      (d.0, omega (arith, a, d.1))))
      (count_turn t o.rows o.rows s.words (set s.words 1 y) s.views id m.0 w o.counts me
      (omega (arith, now, up, mine, none)) large)) in
      dite (dec_le t.limit x)
      (λ past. (
        record m.0 { count = record m.0.count { uncounted = 0; over = 1 } },
        keeps,
        tt,
        made (record m.0.count { uncounted = 0; over = 1 }) refl
            (λ _. inl (more_entries t o.rows s.words o.row (omega (arith, past, more)))),
        (refl, (λ h. absurd (omega (arith, h, past, informed))), λ _. refl),
      ))
      (λ within. (
        record m.0 { count = record m.0.count { uncounted = 0 } },
        keeps,
        tt,
        made (record m.0.count { uncounted = 0 }) refl (o.counts.over id m.0 me),
        (refl, (λ _. refl), λ h. absurd (within (omega (arith, h, informed)))),
      ))

  -- a store of the stop: the claim of the seat that stores it ends
  stop_turn : (s : State S View) (o : Rule s) (id : ℕ) (m : Me S View) (c : OnCount) → get_elem? s.views id ≡ some m.0
      → c.uncounted ≡ m.0.count.uncounted → (c.over ≡ 1 → Overfills (IsReached t.next t.origin) t.limit t.places)
      → Rule (stepped s 2 1 id m.1 (record (with_given_up m.0) { count = c }) keeps)
  stop_turn s o id m c me same large = let l = (with_given_up m.0).lives in
      let w : View = record m.0 { lives = l; count = c } in
      let a = total-set (λ v. v.pending.announced) s.views id m.0 w me in
      counter_turn s o id 2 1 l m.0.pending c m (omega arith) me (λ p. claims_given_up m.0 p) refl
      (λ _ b. record {
        added = b.added;
        claims = refl;
        given_up =
            ap (λ (g : List ℕ). g ++ replicate m.0.lives.claims m.0.lives.place) b.given_up
            ∙ ap (λ (n : ℕ). replicate n m.0.lives.place) b.claims;
        announced = b.announced;
        owed = b.owed;
        verdicts = b.verdicts;
        uncounted = same ∙ b.uncounted;
      })
      (pending_turn o.lives o.lives s.words (set s.words 2 1) s.views id m.0 w o.pending me
      (omega (arith, get_or-set_other s.words 2 0 1 0 (λ e. omega (arith, e)))) (omega arith) (omega arith)
      (o.pending.by_writers id m.0 me)
      (λ none-open _. (none-open, omega arith)) (λ f. let d = o.pending.done id m.0 me f in
      (d.0, omega (arith, a, d.1))))
      (count_turn t o.rows o.rows s.words (set s.words 2 1) s.views id m.0 w o.counts me
      (omega (arith, get_or-set_other s.words 2 1 1 0 (λ e. omega (arith, e)), same)) large)

  pub stops : (n id : ℕ) (m : Me S View) → Allows Rule n id m 2 (λ _. 1) (λ _. Stops (step n 2 1 0 none) m 1)
  stops n id m s o wide me _ = (
    with_given_up m.0,
    keeps,
    tt,
    stop_turn s o id m m.0.count me refl (o.counts.over id m.0 me),
    refl,
  )

  -- a full row, under its right, lacks a successor of a word that was seen
  pub overflows : (n id : ℕ) (m : Me S View) (x c k : ℕ) → m.0.rows.right ≡ writer → x % 13 ≡ m.0.rows.held
      → t.places ≤ length (row_of m.0.rows.seen m.0.rows.held)
      → c < 13 → k < length (row_of m.0.rows.seen c) → Contains (t.next (get_or (row_of m.0.rows.seen c) k 0)) x
      → ((j : ℕ) → j < length (row_of m.0.rows.seen m.0.rows.held)
      → get_or (row_of m.0.rows.seen m.0.rows.held) j 0 ≢ x)
      → Allows Rule n id m 2 (λ _. 1) (λ _. Overflows (step n 2 1 0 none) m 1)
  overflows n id m x c k writes home full near inside succ absent s o wide me _ = let ok = o.seats id m.0 me in
      let q = m.0.rows.held in let whole = ok.whole (omega (arith, writes)) in (
        record (with_given_up m.0) { count = record m.0.count { over = 1 } },
        keeps,
        tt,
        stop_turn s o id m (record m.0.count { over = 1 }) me refl (λ _. inr (
          q,
          full_row t o.rows s.words q x o.row ok.near (omega (arith, full, ap length whole))
              (reached_successor t good S s o id m c k x me near inside succ) home
              (subst (λ (l : List ℕ). (j : ℕ) → j < length l → get_or l j 0 ≢ x) whole absent),
        )),
        refl,
      )
