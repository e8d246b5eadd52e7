-- The steps on index words.
use Rattle.std.proofs.Common.{◌≡◌, ◌≢◌, ℕ, ◌+◌, ◌*◌, ◌<◌, ◌≤◌, List, [], length, get_or, set, take, sym, refl, ap, ◌∙◌}
use Rattle.std.proofs.Common.{subst, inr, ⊎_elim, arith, length-set, get_or-set_other, get_or-set_same}
use Rattle.std.specs.Prelude.{max}
use mathlib.Core.Logic.{dite}
use native.Mathlib.Decide.{ℕ_discrete}
use mathlib.Core.Option.{none, some, some-injective}
use lib.ListN.{get_elem?}
use lib.Seq.{set-get_or}
use Rattle.atomic_table.specs.Table.{State, Me, step, keeps, Allows}
use Rattle.board_rule.specs.Layout.{writer, lock_word, length_word, low_word, high_word, index_word, slot}
use Rattle.board_rule.specs.Lists.{row_of, StartsWith}
use Rattle.board_rule.specs.Views.{Fixed}
use Rattle.board_rule.specs.Rule.{IndexOk, IsComplete, IsKept}
use Rattle.board_rule.specs.Changes.{with_seen}
use Rattle.board_rule.specs.Plays.{Scans, ReadsMark, ScansIndex, Files}
use Rattle.board_rule.specs.declared.view.View.{View}
use Rattle.board_rule.proofs.Sums.{starts-refl, starts-length, take_beginning, take_starts, take_length, take_whole}
use Rattle.board_rule.proofs.Sums.{rows_cases}
use Rattle.board_rule.proofs.Locks.{alone, locks_stay}
use Rattle.board_rule.proofs.Rows.{Halves, rows_stay, seat_other, seat_stay}
use Rattle.board_rule.proofs.Index.{slot_lt, stands_same, index_stay, index_mark}
use Rattle.board_rule.proofs.Turns.{unmoved, rows_turn}

module _ (t : Fixed) (good : ℕ → Type 0) (S : Type 0) where
  abbrev Rule : State S View → Type 0
  Rule = IsKept t good

  -- under a right, and with no debt, the index is complete
  covers : (s : State S View) (o : Rule s) (id : ℕ) (v : View) → get_elem? s.views id ≡ some v → 0 < v.rows.right
      → v.rows.unfiled ≡ 0 → IsComplete t.places (row_of v.rows.seen v.rows.held) v.rows.marks
  covers s o id v me some-right none-unfiled = let k = o.seats id v me in let q = v.rows.held in
      subst (λ (r : List ℕ). IsComplete t.places r v.rows.marks) (sym (k.whole some-right))
      (λ p b. ⊎_elim (λ st. stands_same t.places (λ j. get_or s.words (index_word t.places q j) 0)
      (λ j. get_or v.rows.marks j 0) (get_or (row_of o.rows q) p 0) p o.wide (λ j c. sym (k.marks some-right j c))
      st)
      (λ d. absurd (dite (ℕ_discrete d.0 id)
      (λ e. omega (
        arith,
        none-unfiled,
        d.5,
        ap (λ (x : View). x.rows.unfiled)
            (some-injective d.1 v (sym d.2 ∙ ap (get_elem? s.views) e ∙ me)),
      ))
      (λ ne. omega (
        arith,
        some-right,
        alone s.words s.views d.0 id d.1 v o.locks (omega (arith, d.3, k.near)) d.2 me
            (λ e. ne (sym e)) d.4 (sym d.3),
      ))))
      (o.index.stands q p k.near b))

  -- a load under the right of its shard
  pub reads_mark : (n id : ℕ) (m : Me S View) (i : ℕ) → m.0.places ≡ t.places → 0 < m.0.rows.right
      → Allows Rule n id m i (λ y. y) (ReadsMark (step n i 0 0 none) m)
  reads_mark n id m i informed right s o wide me _ = let k = o.seats id m.0 me in let q = m.0.rows.held in (
    m.0,
    keeps,
    tt,
    unmoved t good S s o i id m me,
    (
      refl,
      (λ j at low. let here : get_or s.words i 0 ≡ get_or s.words (index_word t.places q j) 0 =
          ap (λ (x : ℕ). get_or s.words x 0)
          (at ∙ ap (λ (l : ℕ). index_word l q j) informed) in let inside : j < t.places =
          omega (arith, low, informed) in (
            here ∙ k.marks right j inside,
            omega (
              arith,
              here,
              o.index.named q j k.near inside,
              ap length (k.whole right),
            ),
          )),
      λ none-unfiled. subst (λ (l : ℕ). IsComplete l (row_of m.0.rows.seen q) m.0.rows.marks) (sym informed)
          (covers s o id m.0 me right none-unfiled),
    ),
  )

  -- a load with no right: the seat sees the row up to the place that the word names
  pub scans : (n id : ℕ) (m : Me S View) (i q j : ℕ) → i ≡ index_word t.places q j → q < 13 → j < t.places
      → m.0.places ≡ t.places
      → Allows Rule n id m i (λ y. y) (ScansIndex (step n i 0 0 none) m)
  scans n id m i q j at near low informed s o wide me _ =
      rw at (let k = o.seats id m.0 me in let row = row_of o.rows q in
      let seen = row_of m.0.rows.seen q in let a = index_word t.places q j in let x = get_or s.words a 0 in
      let words' = set s.words a x in
      let named : x ≤ length row = o.index.named q j near low in let before = starts-length row seen (k.saw q near) in
      let more = take (max (length seen) x) row in let w = with_seen m.0 (set m.0.rows.seen q more) in
      let still : (b : ℕ) → get_or words' b 0 ≡ get_or s.words b 0 =
      λ b. ap (λ (l : List ℕ). get_or l b 0) (set-get_or s.words a 0) in
      let grown : row_of (set m.0.rows.seen q more) q ≡ more =
      get_or-set_same m.0.rows.seen q more [] (omega (arith, k.all, near)) in (
        w,
        keeps,
        tt,
        rows_turn t good S s o id a x m w.rows (omega arith) (λ b lo hi e. omega (arith, e, hi)) me refl
            (o.pending.by_writers id m.0 me)
            (locks_stay s.words words' s.views id m.0 w o.locks me (λ p h. still (lock_word p)) (λ p. omega arith))
            (rows_stay t o.rows s.words words' o.row (λ p h. still (length_word p))
            (λ p c h b. (still (low_word p c), still (high_word t.places p c))))
            record {
              all = length-set m.0.rows.seen q more ∙ k.all;
              saw = rows_cases m.0.rows.seen q more (λ p l. StartsWith (row_of o.rows p) l) k.all near
                  (take_beginning (max (length seen) x) row) (λ p h ne. k.saw p h);
              near = k.near;
              whole = λ h. dite (ℕ_discrete m.0.rows.held q)
                  (λ e. rw e (grown ∙ take_whole row (max (length seen) x)
                  (let all : seen ≡ row = subst (λ (y : ℕ). row_of m.0.rows.seen y ≡ row_of o.rows y) e
                  (k.whole h) in omega (arith, ap length all))))
                  (λ ne. get_or-set_other m.0.rows.seen q m.0.rows.held more [] ne ∙ k.whole h);
              low = λ y e. let b = k.low y e in (
                b.0,
                still (low_word m.0.rows.held
                    (length (row_of o.rows m.0.rows.held))) ∙ b.1,
                b.2,
              );
              high = λ y e. let b = k.high y e in (
                b.0,
                still (high_word t.places m.0.rows.held
                    (length (row_of o.rows m.0.rows.held))) ∙ b.1,
                b.2,
              );
              marked = k.marked;
              marks = λ h c b. still (index_word t.places m.0.rows.held c) ∙ k.marks h c b;
            }
            (λ c u ne e. seat_stay t.places o.rows s.words words' u.rows (o.seats c u e)
            (λ p d h b. (still (low_word p d), still (high_word t.places p d)))
            (λ p d h b. still (index_word t.places p d)))
            (index_stay t.places o.rows s.words words' s.views id m.0 w o.wide o.index me
            (λ p c h b. still (index_word t.places p c)) (λ p c h b held writes owes. inr (held, writes, owes))),
        (
          refl,
          λ q2 j2 at2 near2 low2. let same : q ≡ q2 = omega (arith, at2, informed, near, near2) in
              subst (λ (y : ℕ). Scans m.0 y x w) same record {
                row = more;
                is = refl;
                more = take_starts row seen (max (length seen) x) (k.saw q near) (omega arith);
                long = take_length row (max (length seen) x) (omega (arith, named, before));
                within = omega (arith, named, o.row.short q near, informed);
              },
        ),
      ))

  -- the writer puts its place into the index, at the first zero among its word's index words
  pub files : (n id : ℕ) (m : Me S View) (i q k0 u0 j x new : ℕ) → m.0.rows.held ≡ q
      → get_or (row_of m.0.rows.seen q) k0 0 ≡ x → j ≡ slot t.places x u0 → i ≡ index_word t.places q j → new ≡ k0 + 1
      → m.0.rows.right ≡ writer → m.0.rows.unfiled ≡ k0 + 1 → k0 < length (row_of m.0.rows.seen q)
      → ((u : ℕ) → u < u0 → get_or m.0.rows.marks (slot t.places x u) 0 ≢ 0) → get_or m.0.rows.marks j 0 ≡ 0
      → Allows Rule n id m i (λ _. new) (λ _. Files (step n i new 0 none) m new)
  files n id m i q k0 u0 j x new held at-x at-j at is writes owes inside full empty s o wide me _ = let k =
      o.seats id m.0 me in let some-right : 0 < m.0.rows.right = omega (arith, writes) in
      let near : q < 13 = omega (arith, held, k.near) in
      let whole : row_of m.0.rows.seen q ≡ row_of o.rows q = subst (λ (y : ℕ). row_of m.0.rows.seen y ≡ row_of o.rows y)
      held (k.whole some-right) in
      let same : x ≡ get_or (row_of o.rows q) k0 0 = sym at-x ∙ ap (λ (r : List ℕ). get_or r k0 0) whole in
      let low : j < t.places = omega (arith, at-j, slot_lt t.places x u0 o.wide) in
      let a = index_word t.places q j in
      let marks : (c : ℕ) → c < t.places → get_or s.words (index_word t.places q c) 0 ≡ get_or m.0.rows.marks c 0 =
      λ c b. ap (λ (y : ℕ). get_or s.words (index_word t.places y c) 0) (sym held) ∙ k.marks some-right c b in
      rw at (rw is (let words' = set s.words a (k0 + 1) in let now = set m.0.rows.marks j (k0 + 1) in
      let w : View = record m.0 { rows = record m.0.rows { marks = now; unfiled = 0 } } in
      let else : (p c : ℕ) → p < 13 → (p ≡ q → c ≢ j) → get_or words' (index_word t.places p c) 0
      ≡ get_or s.words (index_word t.places p c) 0 = λ p c h ne. get_or-set_other s.words a
      (index_word t.places p c) (k0 + 1) 0 (λ e. ne (omega (arith, e, h, near)) (omega (arith, e, h, near))) in
      let far : (b : ℕ) → b < 216 + 26 * t.places → get_or words' b 0 ≡ get_or s.words b 0 =
      λ b h. get_or-set_other s.words a b (k0 + 1) 0 (λ e. omega (arith, e, h)) in
      let halves : (p c : ℕ) → p < 13 → c < t.places → Halves t.places s.words words' p c =
      λ p c h b. (far (low_word p c) (omega (arith, h, b)), far (high_word t.places p c) (omega (arith, h, b))) in
      let here : get_or words' a 0 ≡ k0 + 1 = get_or-set_same s.words a (k0 + 1) 0
      (omega (arith, o.sized, low, near)) in (
        w,
        keeps,
        tt,
        rows_turn t good S s o id a (k0 + 1) m w.rows (omega arith) (λ b lo hi e. omega (arith, e, hi)) me refl
            (o.pending.by_writers id m.0 me)
            (locks_stay s.words words' s.views id m.0 w o.locks me (λ p h. far (lock_word p) (omega (arith, h)))
            (λ p. omega arith))
            (rows_stay t o.rows s.words words' o.row (λ p h. far (length_word p) (omega (arith, h)))
            (λ p c h b. halves p c h (omega (arith, b, o.row.short p h))))
            record {
              all = k.all;
              saw = k.saw;
              near = k.near;
              whole = k.whole;
              low = λ y e. let b = k.low y e in (
                b.0,
                (halves m.0.rows.held (length (row_of o.rows m.0.rows.held))
                    k.near b.2).0 ∙ b.1,
                b.2,
              );
              high = λ y e. let b = k.high y e in (
                b.0,
                (halves m.0.rows.held (length (row_of o.rows m.0.rows.held))
                    k.near b.2).1 ∙ b.1,
                b.2,
              );
              marked = λ h. length-set m.0.rows.marks j (k0 + 1) ∙ k.marked h;
              marks = λ h c b. subst (λ (y : ℕ). get_or words' (index_word t.places y c) 0 ≡ get_or now c 0) (sym held)
                  (dite (ℕ_discrete c j)
                  (λ e. rw e (here ∙ sym (get_or-set_same m.0.rows.marks j (k0 + 1) 0
                  (omega (arith, low, k.marked h)))))
                  (λ ne. else q c near (λ _. ne) ∙ marks c b ∙ sym
                  (get_or-set_other m.0.rows.marks j c (k0 + 1) 0 ne)));
            }
            (λ c u ne e. seat_other t.places o.rows o.rows s.words words' q u.rows (o.seats c u e)
            (λ is-here. alone s.words s.views id c m.0 u o.locks k.near me e ne writes (is-here ∙ sym held))
            (λ p h. starts-refl (row_of o.rows p)) (λ p nq. refl) (λ p d h nq b. halves p d h b)
            (λ p d h nq b. else p d h (λ z. absurd (nq z))))
            (subst (λ (y : ℕ). IndexOk t.places o.rows (set s.words (index_word t.places q y) (k0 + 1))
            (set s.views id w)) (sym (at-j ∙ ap (λ (y : ℕ). slot t.places y u0) same))
            (index_mark t.places o.rows s.words s.views id m.0 w q k0 u0 o.wide o.sized o.index me near
            (omega (arith, inside, ap length whole)) held owes
            (subst (λ (z : ℕ). (u : ℕ) → u < u0 → get_or s.words (index_word t.places q (slot t.places z u)) 0 ≢ 0) same
            (λ u b e. full u b (sym (marks (slot t.places x u) (slot_lt t.places x u o.wide)) ∙ e)))
            (subst (λ (z : ℕ). get_or s.words (index_word t.places q z) 0 ≡ 0)
            (at-j ∙ ap (λ (y : ℕ). slot t.places y u0) same) (marks j low ∙ empty)))),
        (now, refl),
      )))
