-- The steps on locks, and the load of a row's length.
use Rattle.std.proofs.Common.{◌≡◌, ◌≢◌, ℕ, ◌+◌, ◌-◌, ◌*◌, ◌%◌, ◌^◌, ◌<◌, ◌≤◌, ◌⊎◌, zero, suc, List, [], length, get_or}
use Rattle.std.proofs.Common.{set, eqb, sym, refl, ap, ◌∙◌, subst, inl, arith, get_or-set_other, get_or-set_same}
use Rattle.std.proofs.Common.{length-set}
use mathlib.Core.Option.{none, some}
use lib.ListN.{get_elem?}
use prog.Atomic.{either}
use Rattle.atomic_table.specs.Table.{State, Me, step, Act, keeps, Valid, carried_after, stepped, Allows}
use Rattle.atomic_table.proofs.Lists.{exchanged}
use Rattle.board_rule.specs.Layout.{writer, lock_word, length_word, low_word, high_word, index_word, slot, window}
use Rattle.board_rule.specs.Lists.{row_of, StartsWith, first_values}
use Rattle.board_rule.specs.Views.{Fixed, OnRows}
use Rattle.board_rule.specs.Rule.{weight, Stands, SeatOk, IsKept}
use Rattle.board_rule.specs.Changes.{with_right, without_right}
use Rattle.board_rule.specs.Plays.{Takes, Peeks, IsAtShard, TakesRight, Leaves, Measures}
use Rattle.board_rule.specs.declared.view.View.{View}
use Rattle.board_rule.proofs.Sums.{term_le, starts-refl, rows_cases}
use Rattle.board_rule.proofs.Locks.{weight_here, weight_else, weight_idle, locks_turn}
use Rattle.board_rule.proofs.Rows.{rows_stay, seat_stay, seat_free}
use Rattle.board_rule.proofs.Index.{slot_lt, index_stay}
use Rattle.board_rule.proofs.Turns.{unmoved, rows_turn}

pub first_values-length : {A : Type 0} (f : ℕ → A) (n : ℕ) → length (first_values f n) ≡ n
first_values-length f zero = refl
first_values-length f (suc n) = ap suc (first_values-length (λ k. f (suc k)) n)

pub listed_at : {A : Type 0} (f : ℕ → A) (n k : ℕ) (d : A) → k < n → get_or (first_values f n) k d ≡ f k
listed_at f zero k d h = absurd (omega (arith, h))
listed_at f (suc n) zero d h = refl
listed_at f (suc n) (suc k) d h = listed_at (λ j. f (suc j)) n k d (omega (arith, h))

ap_bound : (i j : ℕ) (words : List ℕ) → i ≡ j → get_or words i 0 < 18446744073709551616
    → get_or words j 0 < 18446744073709551616
ap_bound i j words e h = subst (λ (x : ℕ). get_or words x 0 < 18446744073709551616) e h

module _ (t : Fixed) (good : ℕ → Type 0) (S : Type 0) where
  abbrev Rule : State S View → Type 0
  Rule = IsKept t good

  pub peeks : (n id : ℕ) (m : Me S View) (i : ℕ) → Allows Rule n id m i (λ y. y) (Peeks (step n i 0 0 none) m)
  peeks n id m i s o wide me _ = (m.0, keeps, tt, unmoved t good S s o i id m me, refl)

  pub places : (n id : ℕ) (m : Me S View) (i : ℕ) → Allows Rule n id m i (λ y. y) (IsAtShard (step n i 0 0 none) m)
  places n id m i s o wide me _ = (m.0, keeps, tt, unmoved t good S s o i id m me, (refl, (o.seats id m.0 me).near))

  -- under a right
  pub measures : (n id : ℕ) (m : Me S View) (i : ℕ) → m.0.places ≡ t.places → 0 < m.0.rows.right
      → Allows Rule n id m i (λ y. y) (Measures (step n i 0 0 none) m)
  measures n id m i informed right s o wide me _ = let k = o.seats id m.0 me in (
    m.0,
    keeps,
    tt,
    unmoved t good S s o i id m me,
    (
      refl,
      λ q at held. let here : get_or s.words i 0 ≡ length (row_of o.rows q) = ap (λ (x : ℕ). get_or s.words x 0) at
          ∙ o.row.stored q (omega (arith, held, k.near)) in (
            here ∙ ap (λ (x : ℕ). length (row_of o.rows x)) (sym held) ∙ ap length (sym (k.whole right))
                ∙ ap (λ (x : ℕ). length (row_of m.0.rows.seen x)) held,
            omega (arith, here, o.row.short q (omega (arith, held, k.near)), informed),
          ),
    ),
  )

  -- the index words of shard q as they are
  abbrev marks_of : List ℕ → ℕ → List ℕ
  marks_of words q = first_values (λ j. get_or words (index_word t.places q j) 0) t.places

  -- a step on the lock of q
  lock_turn : (s : State S View) (o : Rule s) (id q n : ℕ) (m : Me S View) (r : OnRows) → q < 13
      → get_elem? s.views id ≡ some m.0 → r.added ≡ m.0.rows.added → m.0.pending.announced * writer ≤ r.right
      → n ≤ writer → get_or s.words (lock_word q) 0 + weight q (record m.0 { rows = r }) ≤ n + weight q m.0
      → ((p : ℕ) → p ≢ q → weight p (record m.0 { rows = r }) ≤ weight p m.0)
      → ((p k : ℕ) → p < 13 → k < length (row_of o.rows p) → m.0.rows.held ≡ p → m.0.rows.right ≡ writer
      → m.0.rows.unfiled ≡ k + 1
      → Stands t.places (λ j. get_or s.words (index_word t.places p j) 0) (get_or (row_of o.rows p) k 0) k
      ⊎ ((r.held ≡ p) × (r.right ≡ writer) × (r.unfiled ≡ k + 1)))
      → SeatOk t.places o.rows (set s.words (lock_word q) n) r
      → Rule (stepped s (lock_word q) n id m.1 (record m.0 { rows = r }) keeps)
  lock_turn s o id q n m r near me same writers top gain less debt ok = let i = lock_word q in
      let words' = set s.words i n in let w : View = record m.0 { rows = r } in
      let far : (b : ℕ) → 112 ≤ b → get_or words' b 0 ≡ get_or s.words b 0 =
      λ b h. get_or-set_other s.words i b n 0 (λ e. omega (arith, e, h, near)) in
      rows_turn t good S s o id i n m r (omega arith) (λ a lo hi e. omega (arith, e, lo, near)) me same writers
      (locks_turn s.words s.views id q n m.0 w near (omega (arith, o.sized)) o.locks me top gain less)
      (rows_stay t o.rows s.words words' o.row (λ p h. far (length_word p) (omega arith))
      (λ p k h b. (far (low_word p k) (omega arith), far (high_word t.places p k) (omega arith))))
      ok
      (λ j u ne e. seat_stay t.places o.rows s.words words' u.rows (o.seats j u e)
      (λ p k h b. (far (low_word p k) (omega arith), far (high_word t.places p k) (omega arith)))
      (λ p k h b. far (index_word t.places p k) (omega arith)))
      (index_stay t.places o.rows s.words words' s.views id m.0 w o.wide o.index me
      (λ p k h b. far (index_word t.places p k) (omega arith)) debt)

  takes_right : (s : State S View) (o : Rule s) (id q n right : ℕ) (m : Me S View) → q < 13
      → get_elem? s.views id ≡ some m.0 → m.0.rows.right ≡ 0 → m.0.pending.announced ≡ 0
      → n ≤ writer → get_or s.words (lock_word q) 0 + right ≤ n
      → Rule (stepped s (lock_word q) n id m.1 (with_right m.0 q (row_of o.rows q) (marks_of s.words q) right)
      keeps)
  takes_right s o id q n right m near me none-yet none-on-way top gain = let row = row_of o.rows q in
      let w = with_right m.0 q row (marks_of s.words q) right in let k = o.seats id m.0 me in
      let here : weight q w ≡ right = weight_here w in
      let grown : row_of (set m.0.rows.seen q row) q ≡ row =
      get_or-set_same m.0.rows.seen q row [] (omega (arith, k.all, near)) in
      lock_turn s o id q n m w.rows near me refl (omega (arith, none-on-way)) top (omega (arith, here, gain))
      (λ p ne. omega (arith, weight_else p w (λ e. ne (sym e))))
      (λ p c h b held writes owes. absurd (omega (arith, none-yet, writes)))
      record {
        all = length-set m.0.rows.seen q row ∙ k.all;
        saw = rows_cases m.0.rows.seen q row (λ p l. StartsWith (row_of o.rows p) l) k.all near (starts-refl row)
            (λ p h ne. k.saw p h);
        near = near;
        whole = λ _. grown;
        low = λ x e. absurd (omega (arith, ap length e));
        high = λ x e. absurd (omega (arith, ap length e));
        marked = λ _. first_values-length (λ j. get_or s.words (index_word t.places q j) 0) t.places;
        marks = λ _ j b. get_or-set_other s.words (lock_word q) (index_word t.places q j) n 0
            (λ e. omega (arith, e, near)) ∙ sym (listed_at (λ j. get_or s.words (index_word t.places q j) 0) t.places j
            0 b);
      }

  -- an exchange of a lock word that brings a right
  takes : (right n id : ℕ) (m : Me S View) (i q old new : ℕ) → i ≡ lock_word q → q < 13 → m.0.places ≡ t.places
      → m.0.rows.right ≡ 0 → m.0.pending.announced ≡ 0 → new ≤ writer → old + right ≤ new
      → Allows Rule n id m i (λ y. either (eqb y old) new y) (TakesRight right (step n i old new none) m)
  takes right n id m i q old new at near informed none-yet none-on-way top gain s o wide me _ =
      rw at (let j = lock_word q in let row = row_of o.rows q in let marks = marks_of s.words q in
      let w = with_right m.0 q row marks right in let k = o.seats id m.0 me in
      exchanged (get_or s.words j 0) old new (λ y. (v : View) × (a : Act S) × Valid s.homes m.1 a
      × Rule (stepped s j y id m.1 v a) × TakesRight right (step n j old new none) m (get_or s.words j 0)
      (v, carried_after m.1 a))
      (λ hit. (
        w,
        keeps,
        tt,
        takes_right s o id q new right m near me none-yet none-on-way top (omega (arith, hit, gain)),
        (
          refl,
          (λ _ p e. let same : q ≡ p = omega (arith, e) in
              subst (λ (x : ℕ). Takes m.0 right x w) same record {
                row = row;
                marks = marks;
                is = refl;
                more = k.saw q near;
                short = omega (arith, o.row.short q near, informed);
              }),
          λ ne. absurd (ne hit),
        ),
      ))
      (λ miss. (m.0, keeps, tt, unmoved t good S s o j id m me, (refl, (λ e. absurd (miss e)), λ _. refl))))

  pub enters : (n id : ℕ) (m : Me S View) (i q old new : ℕ) → i ≡ lock_word q → q < 13 → m.0.places ≡ t.places
      → m.0.rows.right ≡ 0 → m.0.pending.announced ≡ 0 → new ≡ old + 1 → new < writer
      → Allows Rule n id m i (λ y. either (eqb y old) new y) (TakesRight 1 (step n i old new none) m)
  enters n id m i q old new at near informed none-yet none-on-way more under =
      takes 1 n id m i q old new at near informed none-yet none-on-way (omega (arith, under)) (omega (arith, more))

  pub seizes : (n id : ℕ) (m : Me S View) (i q : ℕ) → i ≡ lock_word q → q < 13 → m.0.places ≡ t.places
      → m.0.rows.right ≡ 0 → m.0.pending.announced ≡ 0
      → Allows Rule n id m i (λ y. either (eqb y 0) writer y) (TakesRight writer (step n i 0 writer none) m)
  seizes n id m i q at near informed none-yet none-on-way = takes writer n id m i q 0 writer at near informed none-yet
      none-on-way (omega arith) (omega arith)

  -- it owes nothing to the index, or its word's index words are full
  abbrev pub HasPaid : View → Type 0
  HasPaid v = (k u : ℕ) → v.rows.unfiled ≡ k + 1 → u < window v.places
      → get_or v.rows.marks (slot v.places (get_or (row_of v.rows.seen v.rows.held) k 0) u) 0 ≢ 0

  drops : (s : State S View) (o : Rule s) (id n : ℕ) (m : Me S View) → get_elem? s.views id ≡ some m.0
      → m.0.places ≡ t.places → m.0.pending.announced ≡ 0 → n ≤ writer
      → get_or s.words (lock_word m.0.rows.held) 0 ≤ n + m.0.rows.right → HasPaid m.0
      → Rule (stepped s (lock_word m.0.rows.held) n id m.1 (without_right m.0) keeps)
  drops s o id n m me informed none-on-way top gain paid = let q = m.0.rows.held in let w = without_right m.0 in
      let k = o.seats id m.0 me in
      lock_turn s o id q n m w.rows k.near me refl (omega (arith, none-on-way)) top
      (omega (arith, gain, weight_here m.0, weight_idle q w refl)) (λ p ne. omega (arith, weight_idle p w refl))
      (λ p c h b held writes owes. inl (λ u uw z. absurd (let some-right : 0 < m.0.rows.right = omega (arith, writes) in
      let x = get_or (row_of o.rows p) c 0 in
      let same : get_or (row_of m.0.rows.seen q) c 0 ≡ x = ap (λ (r : List ℕ). get_or r c 0) (k.whole some-right)
      ∙ ap (λ (y : ℕ). get_or (row_of o.rows y) c 0) held in
      paid c u owes (subst (λ (l : ℕ). u < window l) (sym informed) uw)
      (ap (λ (l : ℕ). get_or m.0.rows.marks (slot l (get_or (row_of m.0.rows.seen q) c 0) u) 0) informed
      ∙ ap (λ (y : ℕ). get_or m.0.rows.marks (slot t.places y u) 0) same
      ∙ sym (k.marks some-right (slot t.places x u) (slot_lt t.places x u o.wide))
      ∙ ap (λ (y : ℕ). get_or s.words (index_word t.places y (slot t.places x u)) 0) held ∙ z))))
      (seat_free t.places o.rows (set s.words (lock_word q) n) w.rows k.all k.saw k.near refl refl refl)

  -- a reader subtracts itself
  pub leaves : (n id : ℕ) (m : Me S View) (i : ℕ) → i ≡ lock_word m.0.rows.held → m.0.places ≡ t.places
      → m.0.rows.right ≡ 1 → m.0.pending.announced ≡ 0 → m.0.rows.unfiled ≡ 0
      → Allows Rule n id m i (λ y. (y + (2 ^ 64 - 1)) % 2 ^ 64) (Leaves (step n i 1 0 none) m)
  leaves n id m i at informed reads none-on-way none-unfiled s o wide me under =
      rw at (let q = m.0.rows.held in let k = o.seats id m.0 me in let x = get_or s.words (lock_word q) 0 in
      let low : 1 ≤ x = omega (
        arith,
        reads,
        (o.locks q k.near).0,
        weight_here m.0,
        term_le (weight q) s.views id m.0 me,
      ) in let top : x < 18446744073709551616 =
      ap_bound i (lock_word q) s.words at under in
      let down : (x + (2 ^ 64 - 1)) % 2 ^ 64 + 1 ≡ x = omega (arith, low, top) in (
        without_right m.0,
        keeps,
        tt,
        drops s o id ((x + (2 ^ 64 - 1)) % 2 ^ 64) m me informed none-on-way
            (omega (arith, down, (o.locks q k.near).1)) (omega (arith, down, reads))
            (λ c u owes. absurd (omega (arith, owes, none-unfiled))),
        refl,
      ))

  -- a writer stores 0
  pub gives : (n id : ℕ) (m : Me S View) (i : ℕ) → i ≡ lock_word m.0.rows.held → m.0.places ≡ t.places
      → m.0.rows.right ≡ writer → m.0.pending.announced ≡ 0 → HasPaid m.0
      → Allows Rule n id m i (λ _. 0) (λ _. Leaves (step n i 0 0 none) m 0)
  gives n id m i at informed writes none-on-way paid s o wide me _ = rw at (let k = o.seats id m.0 me in (
    without_right m.0,
    keeps,
    tt,
    drops s o id 0 m me informed none-on-way (omega arith)
        (omega (arith, writes, (o.locks m.0.rows.held k.near).1)) paid,
    refl,
  ))
