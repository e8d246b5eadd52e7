-- The steps on entries and on lengths of rows.
use Rattle.std.proofs.Common.{◌≡◌, ◌≢◌, ℕ, ◌+◌, ◌*◌, ◌/◌, ◌%◌, ◌<◌, ◌≤◌, List, [], ◌∷◌, ◌++◌, length, get_or, set, cond}
use Rattle.std.proofs.Common.{eqb, sym, refl, ap, ◌∙◌, subst, inr, arith, length-append, length-set, get_or-set_other}
use Rattle.std.proofs.Common.{get_or-set_same}
use Rattle.std.specs.Prelude.{Contains}
use Rattle.std.proofs.lemmas.List.{get_or_append_left}
use mathlib.Core.Logic.{dite}
use native.Mathlib.Decide.{ℕ_discrete}
use mathlib.Core.Option.{none, some}
use lib.ListN.{get_elem?}
use Rattle.atomic_table.specs.Table.{State, Me, step, keeps, stepped, Allows}
use Rattle.state_space.specs.Reach.{IsReached}
use Rattle.state_space.proofs.Runs.{reached_next}
use Rattle.board_rule.specs.Layout.{writer, half, lock_word, length_word, low_word, high_word, life_word, index_word}
use Rattle.board_rule.specs.Layout.{place_of}
use Rattle.board_rule.specs.Lists.{row_of, StartsWith, Has, total}
use Rattle.board_rule.specs.Lives.{is_unsettled, is_settled}
use Rattle.board_rule.specs.Views.{Fixed, OnRows}
use Rattle.board_rule.specs.Rule.{weight, Behind, SeatOk, IsKept}
use Rattle.board_rule.specs.Changes.{with_entry}
use Rattle.board_rule.specs.Plays.{ReadsLow, ReadsHigh, LaysLow, LaysHigh, Publishes}
use Rattle.board_rule.specs.declared.view.View.{View}
use Rattle.board_rule.proofs.Sums.{total_set_or, term_le, starts-refl, starts-length, starts-at, rows_cases, seats_turn}
use Rattle.board_rule.proofs.Locks.{alone, locks_stay}
use Rattle.board_rule.proofs.Rows.{Halves, rows_stay, seat_other, rows_grow}
use Rattle.board_rule.proofs.Lives.{lives_grow}
use Rattle.board_rule.proofs.Pending.{lives_more, pending_turn, count_turn}
use Rattle.board_rule.proofs.Index.{index_stay, index_grow}
use Rattle.board_rule.proofs.Added.{added_grow}
use Rattle.board_rule.proofs.Shares.{shares_turn}
use Rattle.board_rule.proofs.Turns.{unmoved, rows_turn}

lighter : (p : ℕ) (v w : View) → w.rows.held ≡ v.rows.held → w.rows.right ≡ v.rows.right → weight p w ≤ weight p v
lighter p v w held right = let e : weight p w ≡ weight p v = ap (λ (h : ℕ). cond (eqb h p) w.rows.right 0) held
    ∙ ap (λ (r : ℕ). cond (eqb v.rows.held p) r 0) right in omega (arith, e)

module _ (t : Fixed) (good : ℕ → Type 0) (S : Type 0) where
  abbrev Rule : State S View → Type 0
  Rule = IsKept t good

  -- an entry that was seen is one of the row
  seen_inside : (s : State S View) (o : Rule s) (id q k : ℕ) (m : Me S View) → get_elem? s.views id ≡ some m.0 → q < 13
      → k < length (row_of m.0.rows.seen q)
      → (k < length (row_of o.rows q)) × (get_or (row_of o.rows q) k 0 ≡ get_or (row_of m.0.rows.seen q) k 0)
  seen_inside s o id q k m me near b = let saw = (o.seats id m.0 me).saw q near in (
    omega (arith, b, starts-length (row_of o.rows q) (row_of m.0.rows.seen q) saw),
    starts-at (row_of o.rows q) (row_of m.0.rows.seen q) k saw b,
  )

  -- the two loads of an entry. The first says what holds of each word that is reached
  pub glances_low : (holds : ℕ → Type 0) (n id : ℕ) (m : Me S View) (i : ℕ)
      → ((x : ℕ) → IsReached t.next t.origin x → holds x) → Allows Rule n id m i (λ y. y)
      (ReadsLow holds (step n i 0 0 none) m)
  glances_low holds n id m i each s o wide me _ = (
    m.0,
    keeps,
    tt,
    unmoved t good S s o i id m me,
    (
      refl,
      λ q k at near b. let e = seen_inside s o id q k m me near b in (
        ap (λ (x : ℕ). get_or s.words x 0) at ∙ o.row.lows q k near e.0 ∙ ap (λ (x : ℕ). x % half) e.1,
        subst holds e.1 (each (get_or (row_of o.rows q) k 0) (o.row.reached q k near e.0)),
      ),
    ),
  )

  pub glances_high : (n id : ℕ) (m : Me S View) (i : ℕ) → m.0.places ≡ t.places
      → Allows Rule n id m i (λ y. y) (ReadsHigh (step n i 0 0 none) m)
  glances_high n id m i informed s o wide me _ = (
    m.0,
    keeps,
    tt,
    unmoved t good S s o i id m me,
    (
      refl,
      λ q k at near b. let e = seen_inside s o id q k m me near b in
          ap (λ (x : ℕ). get_or s.words x 0) (at ∙ ap (λ (l : ℕ). high_word l q k) informed) ∙ o.row.highs q k near e.0
          ∙ ap (λ (x : ℕ). x / half) e.1,
    ),
  )

  -- a writer stores a half of a word after the row, at the word i
  lays : (s : State S View) (o : Rule s) (id i x : ℕ) (m : Me S View) (r : OnRows) → get_elem? s.views id ≡ some m.0
      → m.0.rows.right ≡ writer
      → r.seen ≡ m.0.rows.seen → r.held ≡ m.0.rows.held → r.right ≡ m.0.rows.right → r.marks ≡ m.0.rows.marks
      → r.unfiled ≡ m.0.rows.unfiled → r.added ≡ m.0.rows.added
      → 216 ≤ i → i < 216 + 26 * t.places
      → ((p j : ℕ) → p < 13 → j < t.places → (p ≡ m.0.rows.held → j < length (row_of o.rows m.0.rows.held))
      → (low_word p j ≢ i) × (high_word t.places p j ≢ i))
      → Behind t.places (row_of o.rows r.held) r.right (set s.words i x) r.low
      (low_word r.held (length (row_of o.rows r.held)))
      → Behind t.places (row_of o.rows r.held) r.right (set s.words i x) r.high
      (high_word t.places r.held (length (row_of o.rows r.held)))
      → Rule (stepped s i x id m.1 (record m.0 { rows = r }) keeps)
  lays s o id i x m r me writes seen held right marks unfiled added lo hi away low high = let q = m.0.rows.held in
      let k = o.seats id m.0 me in let row = row_of o.rows q in let words' = set s.words i x in
      let w : View = record m.0 { rows = r } in
      let halves : (p j : ℕ) → p < 13 → j < t.places → (p ≡ q → j < length row)
      → Halves t.places s.words words' p j = λ p j h b c. let d = away p j h b c in (
        get_or-set_other s.words i (low_word p j) x 0 d.0,
        get_or-set_other s.words i (high_word t.places p j) x 0 d.1,
      ) in
      let indexes : (p j : ℕ) → p < 13 → get_or words' (index_word t.places p j) 0
      ≡ get_or s.words (index_word t.places p j) 0 = λ p j h. get_or-set_other s.words i (index_word t.places p j) x
      0 (λ e. omega (arith, e, hi)) in
      let mid : (b : ℕ) → b < 216 → get_or words' b 0 ≡ get_or s.words b 0 =
      λ b h. get_or-set_other s.words i b x 0 (λ e. omega (arith, e, h, lo)) in
      rows_turn t good S s o id i x m r (omega (arith, lo)) (λ a l h e. omega (arith, e, l, hi)) me added
      (omega (arith, right, o.pending.by_writers id m.0 me))
      (locks_stay s.words words' s.views id m.0 w o.locks me (λ p h. mid (lock_word p) (omega (arith, h)))
      (λ p. lighter p m.0 w held right))
      (rows_stay t o.rows s.words words' o.row (λ p h. mid (length_word p) (omega (arith, h)))
      (λ p j h b. halves p j h (omega (arith, b, o.row.short p h))
      (λ e. subst (λ (y : ℕ). j < length (row_of o.rows y)) e b)))
      record {
        all = ap length seen ∙ k.all;
        saw = λ p h. subst (λ (l : List (List ℕ)). StartsWith (row_of o.rows p) (row_of l p)) (sym seen) (k.saw p h);
        near = omega (arith, held, k.near);
        whole = λ h. ap (λ (l : List (List ℕ)). row_of l r.held) seen ∙ ap (row_of m.0.rows.seen) held
            ∙ k.whole (omega (arith, h, right)) ∙ ap (row_of o.rows) (sym held);
        low = low;
        high = high;
        marked = λ h. ap length marks ∙ k.marked (omega (arith, h, right));
        marks = λ h j b. subst (λ (y : ℕ). get_or words' (index_word t.places y j) 0 ≡ get_or r.marks j 0) (sym held)
            (indexes q j k.near ∙ k.marks (omega (arith, h, right)) j b
            ∙ ap (λ (l : List ℕ). get_or l j 0) (sym marks));
      }
      (λ c u ne e. seat_other t.places o.rows o.rows s.words words' q u.rows (o.seats c u e)
      (λ is-here. alone s.words s.views id c m.0 u o.locks k.near me e ne writes is-here)
      (λ p h. starts-refl (row_of o.rows p)) (λ p nq. refl)
      (λ p d h nq b. halves p d h b (λ z. absurd (nq z))) (λ p d h nq b. indexes p d h))
      (index_stay t.places o.rows s.words words' s.views id m.0 w o.wide o.index me (λ p c h b. indexes p c h)
      (λ p c h b h-held h-writes h-owes. inr (held ∙ h-held, right ∙ h-writes, unfiled ∙ h-owes)))

  -- the low half of a word
  pub lays_low : (n id : ℕ) (m : Me S View) (i x : ℕ) → i ≡ low_word m.0.rows.held
      (length (row_of m.0.rows.seen m.0.rows.held)) → m.0.rows.right ≡ writer
      → length (row_of m.0.rows.seen m.0.rows.held) < t.places
      → Allows Rule n id m i (λ _. x) (λ _. LaysLow (step n i x 0 none) m x)
  lays_low n id m i x at writes room s o wide me _ = let q = m.0.rows.held in let k = o.seats id m.0 me in
      let row = row_of o.rows q in let whole = k.whole (omega (arith, writes)) in
      let here : i ≡ low_word q (length row) = at ∙ ap (λ (r : List ℕ). low_word q (length r)) whole in
      let w : View = record m.0 { rows = record m.0.rows { low = x ∷ [] } } in
      let short : length row < t.places = subst (λ (r : List ℕ). length r < t.places) whole room in (
        w,
        keeps,
        tt,
        lays s o id i x m w.rows me writes refl refl refl refl refl refl (omega (arith, here))
            (omega (arith, here, short, k.near))
            (λ p j h b c. (
              (λ e. dite (ℕ_discrete p q) (λ z. omega (arith, e, here, h, b, k.near, short, c z, z))
                  (λ nz. omega (arith, e, here, h, b, k.near, short, nz))),
              λ e. omega (arith, e, here, h, b, k.near, short),
            ))
            (λ y e. (
              writes,
              (ap (λ (b : ℕ). get_or (set s.words i x) b 0) (sym here)
                  ∙ get_or-set_same s.words i x 0 (omega (arith, here, short, k.near, o.sized))
                  ∙ ap (λ (l : List ℕ). get_or l 0 0) e),
              short,
            ))
            (λ y e. let b = k.high y e in (
              b.0,
              get_or-set_other s.words i (high_word t.places q (length row)) x 0
                  (λ z. omega (arith, z, here, short, k.near)) ∙ b.1,
              b.2,
            )),
        refl,
      )

  -- the high half of a word
  pub lays_high : (n id : ℕ) (m : Me S View) (i x : ℕ) → i ≡ high_word t.places m.0.rows.held
      (length (row_of m.0.rows.seen m.0.rows.held)) → m.0.rows.right ≡ writer
      → length (row_of m.0.rows.seen m.0.rows.held) < t.places
      → Allows Rule n id m i (λ _. x) (λ _. LaysHigh (step n i x 0 none) m x)
  lays_high n id m i x at writes room s o wide me _ = let q = m.0.rows.held in let k = o.seats id m.0 me in
      let row = row_of o.rows q in let whole = k.whole (omega (arith, writes)) in
      let here : i ≡ high_word t.places q (length row) = at
      ∙ ap (λ (r : List ℕ). high_word t.places q (length r)) whole in
      let w : View = record m.0 { rows = record m.0.rows { high = x ∷ [] } } in
      let short : length row < t.places = subst (λ (r : List ℕ). length r < t.places) whole room in (
        w,
        keeps,
        tt,
        lays s o id i x m w.rows me writes refl refl refl refl refl refl (omega (arith, here))
            (omega (arith, here, short, k.near))
            (λ p j h b c. (
              (λ e. omega (arith, e, here, h, b, k.near, short)),
              λ e. dite (ℕ_discrete p q) (λ z. omega (arith, e, here, h, b, k.near, short, c z, z))
                  (λ nz. omega (arith, e, here, h, b, k.near, short, nz)),
            ))
            (λ y e. let b = k.low y e in (
              b.0,
              get_or-set_other s.words i (low_word q (length row)) x 0
                  (λ z. omega (arith, z, here, short, k.near)) ∙ b.1,
              b.2,
            ))
            (λ y e. (
              writes,
              (ap (λ (b : ℕ). get_or (set s.words i x) b 0) (sym here)
                  ∙ get_or-set_same s.words i x 0 (omega (arith, here, short, k.near, o.sized))
                  ∙ ap (λ (l : List ℕ). get_or l 0 0) e),
              short,
            )),
        refl,
      )

  -- a successor of a word that was seen is reached
  pub reached_successor : (s : State S View) (o : Rule s) (id : ℕ) (m : Me S View) (q k x : ℕ)
      → get_elem? s.views id ≡ some m.0 → q < 13 → k < length (row_of m.0.rows.seen q)
      → Contains (t.next (get_or (row_of m.0.rows.seen q) k 0)) x → IsReached t.next t.origin x
  reached_successor s o id m q k x me near b succ = let e = seen_inside s o id q k m me near b in
      reached_next t.next t.origin (get_or (row_of m.0.rows.seen q) k 0) x
      (subst (IsReached t.next t.origin) e.1 (o.row.reached q k near e.0)) succ

  one_word : (x y : ℕ) (low high : List ℕ) → low ≡ x % half ∷ [] → high ≡ x / half ∷ [] → low ≡ y % half ∷ []
      → high ≡ y / half ∷ [] → x ≡ y
  one_word x y low high a b c d = let e : x % half ≡ y % half = ap (λ (l : List ℕ). get_or l 0 0) (sym a ∙ c) in
      let f : x / half ≡ y / half = ap (λ (l : List ℕ). get_or l 0 0) (sym b ∙ d) in omega (arith, e, f)

  -- an entry that was there before the row grew
  has_more : (rows : List (List ℕ)) (q x y : ℕ) → q < 13 → length rows ≡ 13 → Has rows y
      → Has (set rows q (row_of rows q ++ x ∷ [])) y
  has_more rows q x y near all has = let row = row_of rows q in
      let kept : (p a : ℕ) → p < 13 → a < length (row_of rows p) → (a < length (row_of (set rows q (row ++ x ∷ [])) p))
      × (get_or (row_of (set rows q (row ++ x ∷ [])) p) a 0 ≡ get_or (row_of rows p) a 0) =
      λ p a h. rows_cases rows q (row ++ x ∷ []) (λ p l. (a : ℕ) → a < length (row_of rows p) → (a < length l)
      × (get_or l a 0 ≡ get_or (row_of rows p) a 0)) all near
      (λ a c. (omega (arith, c, length-append row (x ∷ [])), get_or_append_left row (x ∷ []) 0 a c))
      (λ p h ne a c. (c, refl)) p h a in let e = kept (y % 13) has.0 (omega arith) has.1 in
      (has.0, e.0, e.1 ∙ has.2)

  -- the length is stored: the word after the row is an entry now, and waits
  pub publishes_it : (n id : ℕ) (m : Me S View) (i x new c k : ℕ) → i ≡ length_word m.0.rows.held
      → m.0.rows.low ≡ x % half ∷ [] → m.0.rows.high ≡ x / half ∷ [] → m.0.rows.unfiled ≡ 0 → m.0.pending.announced ≡ 1
      → new ≡ length (row_of m.0.rows.seen m.0.rows.held) + 1 → x % 13 ≡ m.0.rows.held
      → c < 13 → k < length (row_of m.0.rows.seen c) → Contains (t.next (get_or (row_of m.0.rows.seen c) k 0)) x
      → ((j : ℕ) → j < length (row_of m.0.rows.seen m.0.rows.held)
      → get_or (row_of m.0.rows.seen m.0.rows.held) j 0 ≢ x)
      → Allows Rule n id m i (λ _. new) (λ _. Publishes (step n i new 0 none) m new)
  publishes_it n id m i x new c kc at low high none-unfiled one-announced count home c-near c-in succ absent s o wide me
      _ = let q = m.0.rows.held in let k = o.seats id m.0 me in let row = row_of o.rows q in
      let seen = row_of m.0.rows.seen q in
      let b = k.low (x % half) low in let d = k.high (x / half) high in
      let whole : seen ≡ row = k.whole (omega (arith, b.0)) in let r = row ++ x ∷ [] in let w = with_entry m.0 x in
      let at-seen : row_of (set m.0.rows.seen q (seen ++ x ∷ [])) q ≡ r =
      get_or-set_same m.0.rows.seen q (seen ++ x ∷ []) [] (omega (arith, k.all, k.near))
      ∙ ap (λ (l : List ℕ). l ++ x ∷ []) whole in
      let at-rows : row_of (set o.rows q r) q ≡ r = get_or-set_same o.rows q r [] (omega (arith, o.row.all, k.near)) in
      let n' : new ≡ length row + 1 = count ∙ ap (λ (l : List ℕ). length l + 1) whole in rw at (rw n' (
      let j = length_word q in let y = length row + 1 in let words' = set s.words j y in
      let some-announced : 1 ≤ total (λ v. v.pending.announced) s.views =
      omega (arith, term_le (λ v. v.pending.announced) s.views id m.0 me, one-announced) in
      let more : total length (set o.rows q r) ≡ total length o.rows + 1 =
      omega (
        arith,
        total_set_or length o.rows q r [] (omega (arith, o.row.all, k.near)),
        length-append row (x ∷ []),
      ) in
      let far : (a : ℕ) → 216 ≤ a → get_or words' a 0 ≡ get_or s.words a 0 =
      λ a h. get_or-set_other s.words j a y 0 (λ e. omega (arith, e, h, k.near)) in (
        w,
        keeps,
        tt,
        record {
          rows = set o.rows q r;
          lives = set o.lives q (row_of o.lives q ++ 0 ∷ []);
          wide = o.wide;
          sized = length-set s.words j y ∙ o.sized;
          informed = seats_turn (λ u. 0 < u.places → u.places ≡ t.places) s.views id w (o.informed id m.0 me)
              (λ j u ne e. o.informed j u e);
          rooted = has_more o.rows q x t.origin k.near o.row.all o.rooted;
          locks = locks_stay s.words words' s.views id m.0 w o.locks me
              (λ p h. get_or-set_other s.words j (lock_word p) y 0 (λ e. omega (arith, e, h))) (λ p. omega arith);
          row = rows_grow t o.rows s.words q x k.near (omega (arith, o.sized)) o.row b.2 b.1 d.1 home
              (reached_successor s o id m c kc x me c-near c-in succ)
              (subst (λ (l : List ℕ). (a : ℕ) → a < length l → get_or l a 0 ≢ x) whole absent);
          seats = seats_turn (λ u. SeatOk t.places (set o.rows q r) words' u.rows) s.views id w
              record {
                all = length-set m.0.rows.seen q (seen ++ x ∷ []) ∙ k.all;
                saw = rows_cases o.rows q r (λ p l. StartsWith l (row_of (set m.0.rows.seen q (seen ++ x ∷ [])) p))
                    o.row.all k.near (subst (StartsWith r) (sym at-seen) (starts-refl r))
                    (λ p h ne. subst (StartsWith (row_of o.rows p))
                    (sym (get_or-set_other m.0.rows.seen q p (seen ++ x ∷ []) [] ne)) (k.saw p h));
                near = k.near;
                whole = λ _. at-seen ∙ sym at-rows;
                low = λ z e. absurd (omega (arith, ap length e));
                high = λ z e. absurd (omega (arith, ap length e));
                marked = k.marked;
                marks = λ h a e. far (index_word t.places q a) (omega arith) ∙ k.marks h a e;
              }
              (λ a u ne e. seat_other t.places o.rows (set o.rows q r) s.words words' q u.rows (o.seats a u e)
              (λ is-here. alone s.words s.views id a m.0 u o.locks k.near me e ne b.0 is-here)
              (rows_cases o.rows q r (λ p l. StartsWith l (row_of o.rows p)) o.row.all k.near (x ∷ [], refl)
              (λ p h np. starts-refl (row_of o.rows p))) (λ p np. get_or-set_other o.rows q p r [] np)
              (λ p a h np f. (far (low_word p a) (omega arith), far (high_word t.places p a) (omega arith)))
              (λ p a h np f. far (index_word t.places p a) (omega arith)));
          added = added_grow t.origin o.rows s.views id q x m.0 w k.near o.row.all o.added me
              (ap (λ (l : List ℕ). m.0.rows.added ++ place_of q (length l) ∷ []) whole);
          life = lives_grow t good o.rows o.lives s.words words' s.views id q x m.0 w k.near o.row.all b.2 o.life me
              (λ p a h. far (life_word t.places p a) (omega arith)) (λ p. omega arith) refl;
          pending = pending_turn o.lives (set o.lives q (row_of o.lives q ++ 0 ∷ [])) s.words words' s.views id m.0 w
              o.pending me
              (omega (
                arith,
                get_or-set_other s.words j 0 y 0 (λ e. omega (arith, e)),
                lives_more is_unsettled o.lives q 0 (omega (arith, k.near, o.life.all)),
                one-announced,
              ))
              (omega (arith, lives_more is_settled o.lives q 0 (omega (arith, k.near, o.life.all))))
              (omega (arith, lives_more is_settled o.lives q 0 (omega (arith, k.near, o.life.all)))) (omega arith)
              (λ _ none-announced. absurd (omega (arith, none-announced, some-announced)))
              (λ f. absurd (omega (arith, (o.pending.done id m.0 me f).1, some-announced)));
          counts = count_turn t o.rows (set o.rows q r) s.words words' s.views id m.0 w o.counts me
              (omega (arith, get_or-set_other s.words j 1 y 0 (λ e. omega (arith, e)), more)) (o.counts.over id m.0 me);
          index = index_grow t.places o.rows s.words words' s.views id m.0 w q x o.wide k.near o.row.all o.index me
              (λ p a h f. far (index_word t.places p a) (omega arith)) none-unfiled refl b.0
              (ap (λ (l : List ℕ). length l + 1) whole);
          shares = shares_turn s.views id m.0 w o.shares me refl refl
              (λ _ u. absurd (omega (arith, u.announced, one-announced)));
        },
        λ x2 low2 high2. ap (λ (z : ℕ). (with_entry m.0 z, m.1))
            (one_word x x2 m.0.rows.low m.0.rows.high low high low2 high2),
      )))
