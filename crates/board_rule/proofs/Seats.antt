-- Seats that are split and joined.
use Rattle.std.proofs.Common.{◌≡◌, ℕ, zero, suc, ◌+◌, ◌*◌, ◌<◌, ◌≤◌, Bool, true, false, List, [], ◌∷◌, ◌++◌, length}
use Rattle.std.proofs.Common.{get_or, set, replicate, cond, ltb, eqb, eq-eqb, ne_eqb, lt-ltb, le-ltb, sym, refl, ap}
use Rattle.std.proofs.Common.{◌∙◌, subst, inl, inr, ◌⊎◌, ⊎_elim, arith, length-append}
use Rattle.std.specs.List.{All}
use Rattle.std.specs.Prelude.{max}
use Rattle.std.proofs.lemmas.List.Elements.{All-append}
use mathlib.Core.Logic.{dite}
use native.Mathlib.Decide.{ℕ_discrete, dec_le}
use mathlib.Core.Option.{some, some-injective}
use lib.ListN.{get_elem?}
use Rattle.atomic_table.specs.Table.{State, Splits, Joins}
use Rattle.atomic_table.proofs.Lists.{at_set, at_snoc, at_longer, set_here, set_else}
use Rattle.state_space.specs.Reach.{IsReached}
use Rattle.board_rule.specs.Layout.{writer, place_of}
use Rattle.board_rule.specs.Lists.{row_of, StartsWith, total, is_start, longer_row, longer_rows, agree}
use Rattle.board_rule.specs.Lives.{life_of, life_at, Passes}
use Rattle.board_rule.specs.Views.{Fixed}
use Rattle.board_rule.specs.Rule.{EachSeat, weight, times, claims_on, open_lives, SeatOk, IsUnfiled, IsKept, Overfills}
use Rattle.board_rule.specs.Changes.{either_one, both_views, with_half_share, fresh_seat, spent_view}
use Rattle.board_rule.specs.declared.view.View.{View}
use Rattle.board_rule.proofs.Sums.{starts-refl, starts-length, total-set, total-append, seats_turn}
use Rattle.board_rule.proofs.Locks.{weight_idle}
use Rattle.board_rule.proofs.Rows.{seat_free}
use Rattle.board_rule.proofs.Lives.{claim_none}
use Rattle.board_rule.proofs.Index.{index_within, index_stay}
use Rattle.board_rule.proofs.Shares.{shares_split, shares_join}

nils : (n q : ℕ) → row_of (replicate n []) q ≡ []
nils zero q = refl
nils (suc n) zero = refl
nils (suc n) (suc q) = nils n q

start_sound : (xs bs : List ℕ) → is_start xs bs ≡ true → StartsWith bs xs
start_sound [] bs e = (bs, refl)
start_sound (a ∷ xs) [] e = absurd (cc e)
start_sound (a ∷ xs) (b ∷ bs) e = dite (ℕ_discrete a b)
    (λ h. let t = start_sound xs bs (sym (ap {B = Bool} (λ t. cond t (is_start xs bs) false) (eq-eqb a b h)) ∙ e) in
    (t.0, λ i. sym h i ∷ t.1 i))
    (λ n. absurd (cc (sym (ap {B = Bool} (λ t. cond t (is_start xs bs) false) (ne_eqb a b n)) ∙ e)))

start_found : (xs rest : List ℕ) → is_start xs (xs ++ rest) ≡ true
start_found [] rest = refl
start_found (a ∷ xs) rest = ap {B = Bool} (λ t. cond t (is_start xs (xs ++ rest)) false) (eq-eqb a a refl)
    ∙ start_found xs rest

is_start_of : (xs bs : List ℕ) → StartsWith bs xs → is_start xs bs ≡ true
is_start_of xs bs s = subst (λ (l : List ℕ). is_start xs l ≡ true) (sym s.1) (start_found xs s.0)

-- of two beginnings of one row the shorter begins the longer
beginnings : (row a b : List ℕ) → StartsWith row a → StartsWith row b → length a ≤ length b → StartsWith b a
beginnings row [] b s u h = (b, refl)
beginnings row (x ∷ a) [] s u h = absurd (omega (arith, h))
beginnings [] (x ∷ a) (y ∷ b) s u h = absurd (cc (s.1))
beginnings (z ∷ row) (x ∷ a) (y ∷ b) s u h = let hx : z ≡ x = ap (λ (l : List ℕ). get_or l 0 0) s.1 in
    let hy : z ≡ y = ap (λ (l : List ℕ). get_or l 0 0) u.1 in
    let r = beginnings row a b (s.0, cc s.1) (u.0, cc u.1) (omega (arith, h)) in (r.0, λ i. (sym hy ∙ hx) i ∷ r.1 i)

-- what the test says of two rows
abbrev pub Agrees : List ℕ → List ℕ → Type 0
Agrees a b = StartsWith (longer_row a b) a × StartsWith (longer_row a b) b
    × (length (longer_row a b) ≡ max (length a) (length b))

pub rows_agree : (a b : List ℕ) → cond (ltb (length a) (length b)) (is_start a b) (is_start b a) ≡ true → Agrees a b
rows_agree a b e = dite (dec_le (suc (length a)) (length b))
    (λ h. let lt = lt-ltb (length a) (length b) h in let is : longer_row a b ≡ b =
    ap {B = List ℕ} (λ t. cond t b a) lt in (
      subst (λ (l : List ℕ). StartsWith l a) (sym is) (start_sound a b
          (sym (ap {B = Bool} (λ t. cond t (is_start a b) (is_start b a)) lt) ∙ e)),
      subst (λ (l : List ℕ). StartsWith l b) (sym is) (starts-refl b),
      omega (arith, ap length is, h),
    ))
    (λ n. let le = le-ltb (length a) (length b) (omega (arith, n)) in let is : longer_row a b ≡ a =
    ap {B = List ℕ} (λ t. cond t b a) le in (
      subst (λ (l : List ℕ). StartsWith l a) (sym is) (starts-refl a),
      subst (λ (l : List ℕ). StartsWith l b) (sym is) (start_sound b a
          (sym (ap {B = Bool} (λ t. cond t (is_start a b) (is_start b a)) le) ∙ e)),
      omega (arith, ap length is, n),
    ))

test_one : (a b : List ℕ) (t : Bool) → cond (cond (ltb (length a) (length b)) (is_start a b) (is_start b a)) t false
    ≡ true → (cond (ltb (length a) (length b)) (is_start a b) (is_start b a) ≡ true) × (t ≡ true)
test_one a b t e = go (cond (ltb (length a) (length b)) (is_start a b) (is_start b a)) e
  where
    go : (c : Bool) → cond c t false ≡ true → (c ≡ true) × (t ≡ true)
    go true f = (refl, f)
    go false f = absurd (cc f)

-- what two seats have seen that agree, row by row
pub merged_agrees : (xs bs : List (List ℕ)) (q : ℕ) → length xs ≡ length bs → agree xs bs ≡ true
    → (row_of (longer_rows xs bs) q ≡ longer_row (row_of xs q) (row_of bs q)) × Agrees (row_of xs q) (row_of bs q)
merged_agrees [] [] q l e = (refl, (([], refl), ([], refl), refl))
merged_agrees [] (b ∷ bs) q l e = absurd (omega (arith, l))
merged_agrees (a ∷ xs) [] q l e = absurd (omega (arith, l))
merged_agrees (a ∷ xs) (b ∷ bs) zero l e = (refl, rows_agree a b (test_one a b (agree xs bs) e).0)
merged_agrees (a ∷ xs) (b ∷ bs) (suc q) l e = merged_agrees xs bs q (omega (arith, l)) (test_one a b (agree xs bs) e).1

pub merged_length : (xs bs : List (List ℕ)) → length (longer_rows xs bs) ≡ length xs
merged_length [] bs = refl
merged_length (a ∷ xs) [] = refl
merged_length (a ∷ xs) (b ∷ bs) = ap suc (merged_length xs bs)

test_rows : (row a b : List ℕ) → StartsWith row a → StartsWith row b
    → cond (ltb (length a) (length b)) (is_start a b) (is_start b a) ≡ true
test_rows row a b s u = dite (dec_le (suc (length a)) (length b))
    (λ h. ap {B = Bool} (λ t. cond t (is_start a b) (is_start b a)) (lt-ltb (length a) (length b) h)
    ∙ is_start_of a b (beginnings row a b s u (omega (arith, h))))
    (λ n. ap {B = Bool} (λ t. cond t (is_start a b) (is_start b a)) (le-ltb (length a) (length b) (omega (arith, n)))
    ∙ is_start_of b a (beginnings row b a u s (omega (arith, n))))

-- beginnings of the same rows agree
beginnings_agree : (rows xs bs : List (List ℕ)) → length xs ≡ length rows → length bs ≡ length rows
    → ((q : ℕ) → q < length rows → StartsWith (row_of rows q) (row_of xs q))
    → ((q : ℕ) → q < length rows → StartsWith (row_of rows q) (row_of bs q)) → agree xs bs ≡ true
beginnings_agree [] [] bs l k s u = refl
beginnings_agree [] (a ∷ xs) bs l k s u = absurd (omega (arith, l))
beginnings_agree (r ∷ rows) [] bs l k s u = absurd (omega (arith, l))
beginnings_agree (r ∷ rows) (a ∷ xs) [] l k s u = refl
beginnings_agree (r ∷ rows) (a ∷ xs) (b ∷ bs) l k s u = ap {B = Bool} (λ t. cond t (agree xs bs) false)
    (test_rows r a b (s zero (omega arith)) (u zero (omega arith)))
    ∙ beginnings_agree rows xs bs (omega (arith, l)) (omega (arith, k)) (λ q h. s (suc q) (omega (arith, h)))
    (λ q h. u (suc q) (omega (arith, h)))

merged_at : (P : List ℕ → Type 0) (xs bs : List (List ℕ)) (q : ℕ) → P (row_of xs q) → P (row_of bs q)
    → P (row_of (longer_rows xs bs) q)
merged_at P [] bs q x y = x
merged_at P (a ∷ xs) [] q x y = x
merged_at P (a ∷ xs) (b ∷ bs) zero x y = elim (ltb (length a) (length b)) as (λ t. P (cond t b a)) [
  | true ↦ y
  | false ↦ x
]
merged_at P (a ∷ xs) (b ∷ bs) (suc q) x y = merged_at P xs bs q x y

merged_whole : (xs bs : List (List ℕ)) (q : ℕ) (row : List ℕ) → row_of xs q ≡ row → length (row_of bs q) ≤ length row
    → row_of (longer_rows xs bs) q ≡ row
merged_whole [] bs q row e h = e
merged_whole (a ∷ xs) [] q row e h = e
merged_whole (a ∷ xs) (b ∷ bs) zero row e h = ap {B = List ℕ} (λ t. cond t b a)
    (le-ltb (length a) (length b) (omega (arith, h, ap length e))) ∙ e
merged_whole (a ∷ xs) (b ∷ bs) (suc q) row e h = merged_whole xs bs q row e h

one_of_two : (a b : ℕ) → either_one a b ≡ 1 → (a ≡ 1) ⊎ (b ≡ 1)
one_of_two a b e = dite (ℕ_discrete a 1) (λ h. inl h) (λ n. inr (sym (ap {B = ℕ} (λ t. cond t a b) (ne_eqb a 1 n)) ∙ e))

-- a debt to the index is still there, where the seat that is given up has no right
unfiled_on : (views : List View) (q k i j : ℕ) (v w both gone : View) → get_elem? views i ≡ some v
    → get_elem? views j ≡ some w → ¬ (j ≡ i) → both.rows.held ≡ v.rows.held → both.rows.right ≡ v.rows.right
    → both.rows.unfiled ≡ v.rows.unfiled → w.rows.right ≡ 0
    → IsUnfiled views q k → IsUnfiled (set (set views i both) j gone) q k
unfiled_on views q k i j v w both gone me at-w apart held right unfiled no-right d = dite (ℕ_discrete d.0 i)
    (λ e. let same : d.1 ≡ v = some-injective d.1 v (sym d.2 ∙ ap (get_elem? views) e ∙ me) in (
      i,
      both,
      set_else (set views i both) j i gone (λ h. apart (sym h))
          ∙ set_here views i both (index_within views i v me),
      held ∙ ap (λ (x : View). x.rows.held) (sym same) ∙ d.3,
      right ∙ ap (λ (x : View). x.rows.right) (sym same) ∙ d.4,
      unfiled ∙ ap (λ (x : View). x.rows.unfiled) (sym same)
          ∙ d.5,
    ))
    (λ ni. dite (ℕ_discrete d.0 j)
    (λ e. let same : d.1 ≡ w = some-injective d.1 w (sym d.2 ∙ ap (get_elem? views) e ∙ at-w) in
    absurd (omega (arith, no-right, d.4, ap (λ (x : View). x.rows.right) same)))
    (λ nj. (d.0, d.1, set_else (set views i both) j d.0 gone nj ∙ set_else views i d.0 both ni ∙ d.2, d.3, d.4, d.5)))

-- a seat at one of the 13 shards was joined from two that agree
pub joined_agree : (v w : View) → (both_views v w).rows.held < 13 → agree v.rows.seen w.rows.seen ≡ true
joined_agree v w h = go (agree v.rows.seen w.rows.seen) h
  where
    go : (a : Bool) → cond a v.rows.held 13 < 13 → a ≡ true
    go true f = refl
    go false f = absurd (omega (arith, f))

-- the seat that two make, at the shard h
abbrev joined_at : View → View → ℕ → View
joined_at v w h = record (both_views v w) { rows = record (both_views v w).rows { held = h } }

module _ (t : Fixed) (good : ℕ → Type 0) (S : Type 0) where
  abbrev Rule : State S View → Type 0
  Rule = IsKept t good

  pub splits : (id : ℕ) (v : View) → Splits Rule id v (with_half_share v) (fresh_seat v)
  splits id v s o me = let w = with_half_share v in let u = fresh_seat v in let k = o.seats id v me in
      let left = set s.views id w in let vs = left ++ u ∷ [] in
      let each : (F : View → Type 0) → EachSeat F s.views → F w → F u
      → EachSeat F vs = λ F old one two j x e. ⊎_elim (λ h. seats_turn F s.views id w one (λ a y ne f. old a y f) j
      x h) (λ h. subst F h two) (at_snoc left u x j e) in
      let same : (g : View → ℕ) → g w ≡ g v → g u ≡ 0 → total g vs ≡ total g s.views =
      λ g like none. omega (arith, total-append g left (u ∷ []), total-set g s.views id v w me, like, none) in
      let stands = (index_stay t.places o.rows s.words s.words s.views id v w o.wide o.index me (λ q j h b. refl)
      (λ q j h b held writes owes. inr (held, writes, owes))).stands in record {
        rows = o.rows;
        lives = o.lives;
        wide = o.wide;
        sized = o.sized;
        informed = each (λ x. 0 < x.places → x.places ≡ t.places) o.informed (o.informed id v me) (o.informed id v me);
        rooted = o.rooted;
        locks = λ q h. (omega (arith, (o.locks q h).0, same (weight q) refl (weight_idle q u refl)), (o.locks q h).1);
        row = o.row;
        seats = each (λ x. SeatOk t.places o.rows s.words x.rows) o.seats k
            (seat_free t.places o.rows s.words u.rows k.all k.saw k.near refl refl refl);
        added = record {
          once = λ p. omega (arith, o.added.once p, same (times p) refl refl);
          many = omega (arith, o.added.many, same (λ x. length x.rows.added) refl refl);
        };
        life = record {
          all = o.life.all;
          even = o.life.even;
          shown = o.life.shown;
          fresh = o.life.fresh;
          claimed = λ q j h. omega (
            arith,
            o.life.claimed q j h,
            same (claims_on (place_of q j)) refl (omega (arith, claim_none u (place_of q j) refl)),
          );
          four = o.life.four;
          clean = o.life.clean;
          broken = o.life.broken;
          closed = o.life.closed;
          learned = each (λ x. All (λ m. Passes m.1 (life_of (life_at o.lives m.0))) x.lives.learned) o.life.learned
              (o.life.learned id v me) (o.life.learned id v me);
        };
        pending = let a = same (λ x. x.pending.announced) refl refl in let b = same (λ x. x.pending.owed) refl refl in
            record {
              sum = omega (arith, o.pending.sum, a, b);
              few = omega (arith, o.pending.few, b);
              verdicts = omega (arith, o.pending.verdicts, same (λ x. x.pending.verdicts) refl refl);
              by_writers = each (λ x. x.pending.announced * writer ≤ x.rows.right) o.pending.by_writers
                  (o.pending.by_writers id v me) (omega arith);
              done = let on : (x : View) → (x.pending.finished ≡ 1 → (open_lives o.lives ≡ 0)
                  × (total (λ y. y.pending.announced) s.views ≡ 0)) → x.pending.finished ≡ 1 → (open_lives o.lives ≡ 0)
                  × (total (λ y. y.pending.announced) vs ≡ 0) = λ x before f. let d = before f in
                  (d.0, omega (arith, a, d.1)) in
                  each (λ x. x.pending.finished ≡ 1 → (open_lives o.lives ≡ 0)
                  × (total (λ y. y.pending.announced) vs ≡ 0))
                  (λ j x e. on x (o.pending.done j x e)) (on v (o.pending.done id v me))
                  (on v (o.pending.done id v me));
            };
        counts = record {
          count = omega (arith, o.counts.count, same (λ x. x.count.uncounted) refl refl);
          over = each (λ x. x.count.over ≡ 1 → Overfills (IsReached t.next t.origin) t.limit t.places) o.counts.over
              (o.counts.over id v me) (o.counts.over id v me);
        };
        index = record {
          named = o.index.named;
          stands = λ q j h b. ⊎_elim (λ st. inl st) (λ d. inr
              (d.0, d.1, at_longer left (u ∷ []) d.0 d.1 d.2, d.3, d.4, d.5)) (stands q j h b);
        };
        shares = shares_split s.views id v o.shares me;
      }

  -- what joining needs, at the shard of the seat that stays
  joins_at : (id other : ℕ) (v w : View) → w.rows.right ≡ 0 → w.lives.claims ≡ 0 → w.pending.announced ≡ 0
      → w.pending.owed ≡ 0 → w.count.uncounted ≡ 0 → 0 < v.places
      → Joins Rule id v other w (joined_at v w v.rows.held) spent_view
  joins_at id other v w no-right no-claim none-announced none-owed none-uncounted wide s o me apart it = let both =
      joined_at v w v.rows.held in let vs = set (set s.views id both) other spent_view in
      let at-w : get_elem? s.views other ≡ some w = ⊎_elim (λ e. absurd (apart e.0)) (λ e. e.1)
      (at_set s.views id other both w it) in
      let k = o.seats id v me in let l = o.seats other w at-w in
      let sum : (g : View → ℕ) → total g vs + (g v + g w) ≡ total g s.views + (g both + g spent_view) =
      λ g. omega (
        arith,
        total-set g s.views id v both me,
        total-set g (set s.views id both) other w spent_view it,
      ) in
      let same : (g : View → ℕ) → g both ≡ g v → g w ≡ 0 → g spent_view ≡ 0
      → total g vs ≡ total g s.views = λ g e f h. omega (arith, sum g, e, f, h) in
      let each : (F : View → Type 0) → F both → F spent_view → EachSeat F s.views → EachSeat F vs = λ F b p rest.
      seats_turn F (set s.views id both) other spent_view p
      (λ j x ne e. seats_turn F s.views id both b (λ i y n f. rest i y f) j x e) in record {
        rows = o.rows;
        lives = o.lives;
        wide = o.wide;
        sized = o.sized;
        informed = each (λ x. 0 < x.places → x.places ≡ t.places) (o.informed id v me)
            (λ h. absurd (omega (arith, h))) o.informed;
        rooted = o.rooted;
        locks = λ q h. (
          omega (
            arith,
            (o.locks q h).0,
            same (weight q) refl (weight_idle q w no-right)
                (weight_idle q spent_view refl),
          ),
          (o.locks q h).1,
        );
        row = o.row;
        seats = each (λ x. SeatOk t.places o.rows s.words x.rows)
            record {
              all = merged_length v.rows.seen w.rows.seen ∙ k.all;
              saw = λ q h. merged_at (StartsWith (row_of o.rows q)) v.rows.seen w.rows.seen q (k.saw q h) (l.saw q h);
              near = k.near;
              whole = λ h. merged_whole v.rows.seen w.rows.seen v.rows.held (row_of o.rows v.rows.held) (k.whole h)
                  (starts-length (row_of o.rows v.rows.held) (row_of w.rows.seen v.rows.held)
                  (l.saw v.rows.held k.near));
              low = k.low;
              high = k.high;
              marked = k.marked;
              marks = k.marks;
            }
            (seat_free t.places o.rows s.words spent_view.rows refl
            (λ q h. subst (StartsWith (row_of o.rows q)) (sym (nils 13 q)) (row_of o.rows q, refl)) (omega arith)
            refl refl refl)
            o.seats;
        added = record {
          once = λ p. let mine : times p both ≡ times p v + times p w =
              total-append (λ x. cond (eqb x p) 1 0) v.rows.added w.rows.added in
              omega (arith, o.added.once p, sum (times p), mine);
          many = omega (arith, o.added.many, sum (λ x. length x.rows.added), length-append v.rows.added w.rows.added);
        };
        life = record {
          all = o.life.all;
          even = o.life.even;
          shown = o.life.shown;
          fresh = o.life.fresh;
          claimed = λ q j h. let p = place_of q j in let mine : claims_on p both ≡ claims_on p v + claims_on p w =
              omega (
                arith,
                total-append (λ x. cond (eqb x p) 1 0) v.lives.given_up w.lives.given_up,
                claim_none w p no-claim,
              ) in omega (
                arith,
                o.life.claimed q j h,
                sum (claims_on p),
                mine,
                claim_none spent_view p refl,
              );
          four = o.life.four;
          clean = o.life.clean;
          broken = o.life.broken;
          closed = o.life.closed;
          learned = each (λ x. All (λ m. Passes m.1 (life_of (life_at o.lives m.0))) x.lives.learned)
              (All-append (λ m. Passes m.1 (life_of (life_at o.lives m.0))) v.lives.learned w.lives.learned
              (o.life.learned id v me) (o.life.learned other w at-w)) (λ j d h. absurd (omega (arith, h)))
              o.life.learned;
        };
        pending = let announced = same (λ x. x.pending.announced) refl none-announced refl in
            let owed = same (λ x. x.pending.owed) refl none-owed refl in record {
              sum = omega (arith, o.pending.sum, announced, owed);
              few = omega (arith, o.pending.few, owed);
              verdicts = omega (arith, o.pending.verdicts, sum (λ x. x.pending.verdicts));
              by_writers = each (λ x. x.pending.announced * writer ≤ x.rows.right) (o.pending.by_writers id v me)
                  (omega arith) o.pending.by_writers;
              done = let before : EachSeat (λ x. x.pending.finished ≡ 1 → (open_lives o.lives ≡ 0)
                  × (total (λ y. y.pending.announced) vs ≡ 0)) s.views = λ j x e f. let d = o.pending.done j x e f in
                  (d.0, omega (arith, d.1, announced)) in
                  each (λ x. x.pending.finished ≡ 1 → (open_lives o.lives ≡ 0)
                  × (total (λ y. y.pending.announced) vs ≡ 0))
                  (λ f. ⊎_elim (λ h. before id v me h) (λ h. before other w at-w h)
                  (one_of_two v.pending.finished w.pending.finished f)) (λ f. absurd (omega (arith, f))) before;
            };
        counts = record {
          count = omega (arith, o.counts.count, same (λ x. x.count.uncounted) refl none-uncounted refl);
          over = each (λ x. x.count.over ≡ 1 → Overfills (IsReached t.next t.origin) t.limit t.places)
              (λ f. ⊎_elim (λ h. o.counts.over id v me h) (λ h. o.counts.over other w at-w h)
              (one_of_two v.count.over w.count.over f)) (λ f. absurd (omega (arith, f))) o.counts.over;
        };
        index = record {
          named = o.index.named;
          stands = λ q j h b. ⊎_elim (λ st. inl st) (λ d. inr
              (unfiled_on s.views q j id other v w both spent_view me at-w apart refl refl refl no-right d))
              (o.index.stands q j h b);
        };
        shares = shares_join s.views id other v w both o.shares me at-w it refl refl wide;
      }

  -- the seat given up has no right, no claim and no debt
  pub joins : (id other : ℕ) (v w : View) → w.rows.right ≡ 0 → w.lives.claims ≡ 0 → w.pending.announced ≡ 0
      → w.pending.owed ≡ 0 → w.count.uncounted ≡ 0 → 0 < v.places → Joins Rule id v other w (both_views v w) spent_view
  joins id other v w a b c d e f s o me apart it =
      let at-w : get_elem? s.views other ≡ some w = ⊎_elim (λ h. absurd (apart h.0)) (λ h. h.1)
      (at_set s.views id other (both_views v w) w it) in let k = o.seats id v me in let l = o.seats other w at-w in
      let agreed : agree v.rows.seen w.rows.seen ≡ true = beginnings_agree o.rows v.rows.seen w.rows.seen
      (k.all ∙ sym o.row.all) (l.all ∙ sym o.row.all) (λ q h. k.saw q (omega (arith, h, o.row.all)))
      (λ q h. l.saw q (omega (arith, h, o.row.all))) in
      let same : joined_at v w v.rows.held ≡ both_views v w =
      ap (joined_at v w) (sym (ap {B = ℕ} (λ t. cond t v.rows.held 13) agreed)) in
      subst (λ (b : View). Rule record {
        words = s.words;
        homes = s.homes;
        views = set (set s.views id b) other spent_view;
      }) same
      (joins_at id other v w a b c d e f s o me apart (subst (λ (b : View). get_elem? (set s.views id b) other ≡ some w)
      (sym same) it))
