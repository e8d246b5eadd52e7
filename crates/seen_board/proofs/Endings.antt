-- What the rule says at the end.
use Rattle.std.proofs.Common.{◌≡◌, ◌≢◌, ℕ, zero, suc, ◌+◌, ◌*◌, ◌/◌, ◌%◌, ◌<◌, ◌≤◌, ◌⊎◌, List, [], ◌∷◌, length, get_or}
use Rattle.std.proofs.Common.{cond, eqb, ne_eqb, sym, refl, ap, ◌∙◌, subst, inl, inr, ⊎_elim, arith, ◌++◌, replicate}
use Rattle.std.specs.Prelude.{Contains}
use Rattle.std.specs.List.{All, concat}
use mathlib.Core.Logic.{dite}
use native.Mathlib.Decide.{dec_le}
use mathlib.Core.Option.{some, some-injective, some-ne-none}
use lib.ListN.{get_elem?}
use Rattle.atomic_table.specs.Table.{State, Final, Seen}
use Rattle.state_space.specs.Reach.{IsReached}
use Rattle.state_space.specs.Counts.{IsSome}
use Rattle.state_space.proofs.Runs.{along}
use Rattle.board_rule.specs.Layout.{half, low_word, high_word, life_word, length_word, place_of}
use Rattle.board_rule.specs.Lists.{row_of, Has, first_values, total}
use Rattle.board_rule.specs.Changes.{with_given_up}
use Rattle.board_rule.specs.Lives.{life_of, is_claimed, is_unsettled, is_settled, Passes}
use Rattle.board_rule.specs.Readings.{entry_of, rows_of, lives_of}
use Rattle.board_rule.specs.Views.{Fixed}
use Rattle.board_rule.specs.Rule.{times, times_among, claims_on, IsBare, IsWhole, IsKept, Overfills}
use Rattle.board_rule.specs.Plays.{IsIdle}
use Rattle.board_rule.specs.declared.life.Life.{Life}
use Rattle.board_rule.specs.declared.life.Life.TheVariants.{Waiting, Claimed, Clean, Broken}
use Rattle.board_rule.specs.declared.view.View.{View}
use Rattle.board_rule.proofs.Readings.{rows_read, lives_read}
use Rattle.board_rule.proofs.LockSteps.{first_values-length, listed_at}
use Rattle.board_rule.proofs.Bounds.{all_counts as all_lives, flat_entries, flat_has}
use Rattle.board_rule.proofs.LifeSteps.{claimed_life, given_up_life}
use Rattle.board_rule.proofs.Pending.{lives_term, unsettled_low}
use Rattle.board_rule.proofs.Added.{added_there}
use Rattle.board_rule.proofs.Lives.{claim_none, claims_given_up}
use Rattle.board_rule.proofs.Sums.{among_at}
use Rattle.board_rule.proofs.Shares.{alone_total, bare_claims, bare_times}
use Rattle.atomic_table.specs.Seated.{TableId}
use Rattle.seen_board.specs.Known.{known_of}
use Rattle.seen_board.specs.Ended.{Ended, end_of, life_of_entry, life_in, IsReadable, IsSettled, Entries, AreSettled}
use Rattle.seen_board.specs.Ended.{Accounts, IsDone, claims_made}
use Rattle.seen_board.specs.Clauses.{SeesOn}
use Rattle.seen_board.proofs.FewClaims.{all_lives as lives_once, claims_few, made_length}

pub found : (l : List ℕ) (i x : ℕ) → get_elem? l i ≡ some x → get_or l i 0 ≡ x
found [] i x e = absurd (some-ne-none x (sym e))
found (y ∷ l) zero x e = some-injective y x e
found (y ∷ l) (suc i) x e = found l i x e

module _ (places : ℕ) (words : List ℕ) where
  row_at : (q : ℕ) → q < 13 → row_of (rows_of places words) q ≡ first_values (entry_of places words q)
      (get_or words (length_word q) 0)
  row_at q h = listed_at (λ p. first_values (entry_of places words p) (get_or words (length_word p) 0)) 13 q [] h

  pub row_length : (q : ℕ) → q < 13 → length (row_of (rows_of places words) q) ≡ get_or words (length_word q) 0
  row_length q h = ap length (row_at q h) ∙ first_values-length (entry_of places words q)
      (get_or words (length_word q) 0)

  pub entry_found : (z : Ended) (q k i j x y : ℕ) → end_of places words ≡ z → q < 13 → k < length (row_of z.rows q)
      → i ≡ low_word q k → j ≡ high_word places q k → get_elem? words i ≡ some x → get_elem? words j ≡ some y
      → x + y * half ≡ get_or (row_of z.rows q) k 0
  entry_found z q k i j x y e h b at over f g = let inside : k < get_or words (length_word q) 0 =
      omega (arith, row_length q h, ap (λ (t : Ended). length (row_of t.rows q)) e, b) in
      let low : x ≡ get_or words (low_word q k) 0 = sym (found words i x f) ∙ ap (λ (a : ℕ). get_or words a 0) at in
      let high : y ≡ get_or words (high_word places q k) 0 = sym (found words j y g)
      ∙ ap (λ (a : ℕ). get_or words a 0) over in
      rw (low, high) (sym (ap (λ (l : List ℕ). get_or l k 0) (row_at q h)
      ∙ listed_at (entry_of places words q) (get_or words (length_word q) 0) k 0 inside)
      ∙ ap (λ (t : Ended). get_or (row_of t.rows q) k 0) e)

  pub life_found : (z : Ended) (q k i x : ℕ) → end_of places words ≡ z → q < 13 → k < length (row_of z.rows q)
      → i ≡ life_word places q k → get_elem? words i ≡ some x → life_of x ≡ life_of_entry z q k
  life_found z q k i x e h b at f = let inside : k < get_or words (length_word q) 0 =
      omega (arith, row_length q h, ap (λ (t : Ended). length (row_of t.rows q)) e, b) in
      ap life_of (sym (found words i x f) ∙ ap (λ (a : ℕ). get_or words a 0) at
      ∙ sym (ap (λ (l : List ℕ). get_or l k 0) (listed_at
      (λ p. first_values (λ k. get_or words (life_word places p k) 0) (get_or words (length_word p) 0)) 13 q [] h)
      ∙ listed_at (λ k. get_or words (life_word places q k) 0) (get_or words (length_word q) 0) k 0 inside))
      ∙ ap (λ (t : Ended). life_of_entry t q k) e

  pub place_fits : (z : Ended) (q k : ℕ) → end_of places words ≡ z → IsReadable places words → q < 13
      → k < length (row_of z.rows q) → (k < places) × (places ≤ 32768) × (length words ≡ 216 + 52 * places)
  place_fits z q k e r h b = (
    omega (
      arith,
      b,
      ap (λ (x : Ended). length (row_of x.rows q)) e,
      row_length q h,
      r.short q h,
    ),
    r.small,
    r.sized,
  )

-- a life other than the first three is the last
pub life_else : (n : ℕ) → n ≢ 0 → n ≢ 1 → n ≢ 2 → Broken ≡ life_of n
life_else n a b c = sym (ap {B = Life} (λ x. cond x Waiting (cond (eqb n 1) Claimed (cond (eqb n 2) Clean Broken)))
    (ne_eqb n 0 a) ∙ ap {B = Life} (λ x. cond x Claimed (cond (eqb n 2) Clean Broken)) (ne_eqb n 1 b)
    ∙ ap {B = Life} (λ x. cond x Clean Broken) (ne_eqb n 2 c))

-- rows of the same lengths have as many places
same_lengths : (xs ys : List (List ℕ)) → length xs ≡ length ys
    → ((q : ℕ) → q < length xs → length (row_of xs q) ≡ length (row_of ys q)) → total length xs ≡ total length ys
same_lengths [] [] l each = refl
same_lengths [] (y ∷ ys) l each = absurd (omega (arith, l))
same_lengths (x ∷ xs) [] l each = absurd (omega (arith, l))
same_lengths (x ∷ xs) (y ∷ ys) l each = omega (
  arith,
  each 0 (omega arith),
  same_lengths xs ys (omega (arith, l)) (λ q h. each (suc q) (omega (arith, h))),
)

life_cases : (n : ℕ) → n ≤ 3 → ((n < 2) × (life_of n ≢ Clean) × (life_of n ≢ Broken))
    ⊎ (((n ≡ 2) × (life_of n ≡ Clean)) ⊎ ((n ≡ 3) × (life_of n ≡ Broken)))
life_cases zero h = inl (omega arith, (λ e. cc e), λ e. cc e)
life_cases (suc zero) h = inl (omega arith, (λ e. cc e), λ e. cc e)
life_cases (suc (suc zero)) h = inr (inl (refl, refl))
life_cases (suc (suc (suc n))) h = inr (inr (
  omega (arith, h),
  ap life_of (let z : suc (suc (suc n)) ≡ 3 = omega (arith, h) in z),
))

module _ (t : Fixed) (good : ℕ → Type 0) (S : Type 0) (id : ℕ) (v : View) (words : List ℕ) (xs : List S)
    (e : Final (Seen (IsKept t good) id v) words xs) where
  abbrev s : State S View
  s = e.0

  abbrev o : IsKept t good s
  o = e.1.0

  rows_are : rows_of t.places words ≡ o.rows
  rows_are = ap (rows_of t.places) (sym e.2) ∙ rows_read t o.rows s.words o.row

  lives_are : lives_of t.places words ≡ o.lives
  lives_are = ap (lives_of t.places) (sym e.2) ∙ lives_read t good o.rows o.lives s.words s.views o.row o.life

  abbrev shown : Ended
  shown = record { rows = o.rows; lives = o.lives; pending = get_or words 0 0; count = get_or words 1 0 }

  ended_is : end_of t.places words ≡ shown
  ended_is = λ i. record {
    rows = rows_are i;
    lives = lives_are i;
    pending = get_or words 0 0;
    count = get_or words 1 0;
  }

  over : (F : Ended → Type 0) → F shown → F (end_of t.places words)
  over F h = subst F (sym ended_is) h

  pub end_readable : t.places ≤ 32768 → IsReadable t.places words
  end_readable h = subst (IsReadable t.places) e.2 record {
    sized = o.sized;
    small = h;
    short = λ q near. omega (arith, o.row.stored q near, o.row.short q near);
  }

  pub end_seen : SeesOn v.rows.seen (end_of t.places words).rows
  end_seen = over (λ z. SeesOn v.rows.seen z.rows) (o.seats id v e.1.1).saw

  pub end_whole : 0 < v.rows.right → row_of v.rows.seen v.rows.held ≡ row_of (end_of t.places words).rows v.rows.held
  end_whole h = over (λ z. row_of v.rows.seen v.rows.held ≡ row_of z.rows v.rows.held) ((o.seats id v e.1.1).whole h)

  entries : IsSome (IsReached t.next t.origin) (concat o.rows)
  entries = flat_entries t o.rows s.words o.row

  pub end_entries : Entries t.next t.origin t.places (end_of t.places words).rows
  end_entries = over (λ z. Entries t.next t.origin t.places z.rows) record {
    thirteen = o.row.all;
    start = o.rooted;
    some = entries;
    at_home = o.row.at_home;
    reached = o.row.reached;
    distinct = λ p q j k near far b c same. let home : p ≡ q = sym (o.row.at_home p j near b)
        ∙ ap (λ (x : ℕ). x % 13) same ∙ o.row.at_home q k far c in (
          home,
          o.row.distinct q j k far (subst (λ (y : ℕ). j < length (row_of o.rows y)) home b) c
              (subst (λ (y : ℕ). get_or (row_of o.rows y) j 0 ≡ get_or (row_of o.rows q) k 0) home same),
        );
    short = o.row.short;
  }

  settled_two : (q k : ℕ) → q < 13 → IsSettled (life_of_entry shown q k) → 2 ≤ get_or (row_of o.lives q) k 0
  settled_two q k near h = ⊎_elim (λ c. ⊎_elim (λ f. absurd (c.1 f)) (λ f. absurd (c.2 f)) h)
      (λ c. ⊎_elim (λ d. omega (arith, d.0)) (λ d. omega (arith, d.0)) c)
      (life_cases (get_or (row_of o.lives q) k 0) (o.life.four q k near))

  pub end_settled : AreSettled t.next good (end_of t.places words)
  end_settled = over (AreSettled t.next good) record {
    clean = λ q k near f. o.life.clean q k near (⊎_elim (λ c. absurd (c.1 f))
        (λ c. ⊎_elim (λ d. d.0) (λ d. absurd (cc (sym d.1 ∙ f))) c)
        (life_cases (get_or (row_of o.lives q) k 0) (o.life.four q k near)));
    broken = λ q k near f. o.life.broken q k near (⊎_elim (λ c. absurd (c.2 f))
        (λ c. ⊎_elim (λ d. absurd (cc (sym d.1 ∙ f))) (λ d. d.0) c)
        (life_cases (get_or (row_of o.lives q) k 0) (o.life.four q k near)));
    closed = λ q k y near h. o.life.closed q k y near (settled_two q k near h);
  }

  pub end_claimed : v.lives.claims ≡ 1 → life_in (end_of t.places words) v.lives.place ≡ Claimed
  end_claimed has = over (λ z. life_in z v.lives.place ≡ Claimed)
      (ap life_of (claimed_life t good S s o id (v.lives.place % 13) (v.lives.place / 13) v (omega arith) e.1.1 has
      (omega arith)))

  pub end_given_up : All (λ p. life_in (end_of t.places words) p ≡ Claimed) v.lives.given_up
  end_given_up = over (λ z. All (λ p. life_in z p ≡ Claimed) v.lives.given_up)
      (λ k d h. let p = get_or v.lives.given_up k d in
      ap life_of (given_up_life t good S s o id (p % 13) (p / 13) v (omega arith) e.1.1
      (subst (λ (x : ℕ). 1 ≤ times_among x v.lives.given_up) (omega arith) (among_at v.lives.given_up k d h))))

  pub end_learned : All (λ met. Passes met.1 (life_in (end_of t.places words) met.0)) v.lives.learned
  end_learned = over (λ z. All (λ met. Passes met.1 (life_in z met.0)) v.lives.learned) (o.life.learned id v e.1.1)

  pub end_added : All (λ p. p / 13 < length (row_of (end_of t.places words).rows (p % 13))) v.rows.added
  end_added = over (λ z. All (λ p. p / 13 < length (row_of z.rows (p % 13))) v.rows.added)
      (λ k d h. added_there t.origin o.rows s.views id (get_or v.rows.added k d) v o.added e.1.1
      (among_at v.rows.added k d h))

  pub end_over : v.count.over ≡ 1 → Overfills (IsReached t.next t.origin) t.limit t.places
  end_over f = o.counts.over id v e.1.1 f

  module _ (b : TableId) (whole : IsWhole v.share) (idle : IsIdle v) where
    only : (g : View → ℕ) → ((u : View) → IsBare u → g u ≡ 0) → total g s.views ≡ g v
    only = alone_total s.views id v o.shares e.1.1 whole

    even : total length o.lives ≡ total length o.rows
    even = same_lengths o.lives o.rows (o.life.all ∙ sym o.row.all)
        (λ q h. o.life.even q (omega (arith, h, o.life.all)))

    many : total length o.rows ≡ length v.rows.added + 1
    many = omega (arith, o.added.many, only (λ u. length u.rows.added) (λ u h. ap length h.added))

    tally : total (total is_settled) o.lives ≡ v.pending.verdicts
    tally = omega (arith, o.pending.verdicts, only (λ u. u.pending.verdicts) (λ u h. h.verdicts))

    -- the places that it has claimed and not settled
    abbrev unsettled : List ℕ
    unsettled = v.lives.given_up ++ replicate v.lives.claims v.lives.place

    few_unsettled : length unsettled ≤ total (total is_claimed) o.lives
    few_unsettled = claims_few unsettled o.lives o.life.all (λ q h k. omega (
      arith,
      o.life.claimed q k h,
      only (claims_on (place_of q k)) (bare_claims (place_of q k)),
      claims_given_up v (place_of q k),
      claim_none (with_given_up v) (place_of q k) refl,
    ))

    few : claims_made (known_of b v) ≤ length v.rows.added + 1
    few = omega (
      arith,
      few_unsettled,
      made_length v.lives.given_up v.lives.claims v.lives.place,
      lives_once o.lives,
      tally,
      even,
      many,
    )

    pub end_accounts : Accounts t.origin (known_of b v) (end_of t.places words)
    end_accounts = over (Accounts t.origin (known_of b v)) record {
      places = λ p. omega (arith, o.added.once p, only (times p) (bare_times p));
      entries = many;
      count = omega (
        arith,
        many,
        o.counts.count,
        only (λ u. u.count.uncounted) (λ u h. h.uncounted),
        idle.uncounted,
        ap (λ (w : List ℕ). get_or w 1 0) e.2,
      );
      claimed = λ q k h. omega (
        arith,
        o.life.claimed q k h,
        only (claims_on (place_of q k)) (bare_claims (place_of q k)),
      );
      settled = tally;
      pending = omega (
        arith,
        many,
        even,
        tally,
        all_lives o.lives,
        o.pending.sum,
        only (λ u. u.pending.announced) (λ u h. h.announced),
        only (λ u. u.pending.owed) (λ u h. h.owed),
        idle.announced,
        idle.owed,
        ap (λ (w : List ℕ). get_or w 0 0) e.2,
      );
      claims = few;
      each = λ f. omega (
        arith,
        few,
        (o.pending.done id v e.1.1 f).0,
        all_lives o.lives,
        tally,
        even,
        many,
      );
    }

  module _ (f : v.pending.finished ≡ 1) where
    all_settled : (q k : ℕ) → q < 13 → k < length (row_of o.rows q) → 2 ≤ get_or (row_of o.lives q) k 0
    all_settled q k near inside = let d = o.pending.done id v e.1.1 f in let in_lives : k < length (row_of o.lives q) =
        omega (arith, inside, o.life.even q near) in dite (dec_le 2 (get_or (row_of o.lives q) k 0)) (λ h. h)
        (λ n. absurd (omega (
          arith,
          d.0,
          lives_term is_unsettled o.lives q k (omega (arith, near, o.life.all)) in_lives,
          unsettled_low (get_or (row_of o.lives q) k 0) (omega (arith, n)),
        )))

    every : (x : ℕ) → IsReached t.next t.origin x → Has o.rows x
    every = along t.next t.origin (Has o.rows) o.rooted (λ w has y succ. o.life.closed (w % 13) has.0 y (omega arith)
        (all_settled (w % 13) has.0 (omega arith) has.1) (subst (λ (a : ℕ). Contains (t.next a) y) (sym has.2) succ))

    pub end_done : IsDone t.next t.origin (end_of t.places words)
    end_done = over (IsDone t.next t.origin) record {
      settled = λ q k near inside. ⊎_elim (λ c. absurd (omega (arith, c.0, all_settled q k near inside)))
          (λ c. ⊎_elim (λ d. inl d.1) (λ d. inr d.1) c) (life_cases (get_or (row_of o.lives q) k 0)
          (o.life.four q k near));
      every = every;
      list = record {
        distinct = entries.distinct;
        each = entries.each;
        every = λ x r. let h = every x r in
            flat_has o.rows (x % 13) h.0 x (omega (arith, o.row.all)) h.1 h.2;
      };
    }
