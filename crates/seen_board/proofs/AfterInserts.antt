-- A seat after a word was put in.
use Rattle.std.proofs.Common.{◌≡◌, ◌≢◌, ℕ, ◌+◌, ◌/◌, ◌%◌, ◌<◌, List, [], ◌∷◌, ◌++◌, length, get_or, set, refl, ap, ◌∙◌}
use Rattle.std.proofs.Common.{subst, sym, arith, length-append, get_or-set_same}
use Rattle.std.specs.List.{Contains}
use Rattle.atomic_table.specs.Seated.{TableId}
use Rattle.board_rule.specs.Layout.{place_of}
use Rattle.board_rule.specs.Lists.{row_of}
use Rattle.board_rule.specs.Changes.{with_entry, without_right}
use Rattle.board_rule.specs.Plays.{IsIdle}
use Rattle.board_rule.specs.declared.view.View.{View}
use Rattle.board_rule.proofs.Sums.{starts-length, starts-at, last-here}
use Rattle.seen_board.specs.Known.{Known, known_of, Counts}
use Rattle.seen_board.specs.Clauses.{SeesOn, Sees, Gains, Names, Lacks, number, with_given_up}
use Rattle.seen_board.specs.Inserts.{Follows, IsSuccessor, Returns, PutOk, AddOk, Filed, Appends}
use Rattle.seen_board.specs.declared.answers.Place.{Place}
use Rattle.seen_board.specs.declared.answers.Put.{Put}
use Rattle.seen_board.specs.declared.answers.Put.TheVariants.{New, Known as Found, Busy, Over}
use Rattle.seen_board.proofs.AfterRights.{sees_set, counts_set}
use Rattle.seen_board.proofs.Chains.{sees_on_refl, sees_on_trans}

-- the row of the right has one more word
pub entry_row : (v : View) (word q : ℕ) → v.rows.held ≡ q → q < 13 → length v.rows.seen ≡ 13
    → row_of (with_entry v word).rows.seen q ≡ row_of v.rows.seen q ++ word ∷ []
entry_row v word q held near all = rw held (get_or-set_same v.rows.seen q (row_of v.rows.seen q ++ word ∷ []) []
    (omega (arith, near, all)))

pub entry_there : (v : View) (word q at : ℕ) → v.rows.held ≡ q → q < 13 → length v.rows.seen ≡ 13
    → at ≡ length (row_of v.rows.seen q) → (at < length (row_of (with_entry v word).rows.seen q))
    × (get_or (row_of (with_entry v word).rows.seen q) at 0 ≡ word)
entry_there v word q at held near all is = let e = entry_row v word q held near all in (
  omega (arith, is, ap length e, length-append (row_of v.rows.seen q) (word ∷ [])),
  rw e (rw is (last-here (row_of v.rows.seen q) word)),
)

pub append_is : (v : View) (word : ℕ) (f w : View) (over : ℕ) → Filed (with_entry v word) f
    → w ≡ record (without_right f) { count = record f.count { uncounted = 0; over = over } } → Appends v word w
append_is v word f w over filed e = record { marks = f.rows.marks; over = over; is = e ∙ rw filed refl }

-- what holds of a place and of a word goes on where more is seen
pub lacks_before : (seen rows : List (List ℕ)) (q x : ℕ) → q < 13 → SeesOn seen rows → Lacks (row_of rows q) x
    → Lacks (row_of seen q) x
lacks_before seen rows q x near sees absent k h e = absent k
    (omega (arith, h, starts-length (row_of rows q) (row_of seen q) (sees q near)))
    (starts-at (row_of rows q) (row_of seen q) k (sees q near) h ∙ e)

-- the part of a row that was seen before lacks the word
pub before_lacks : (seen rows : List (List ℕ)) (q x n : ℕ) → q < 13 → SeesOn seen rows → n ≡ length (row_of seen q)
    → Lacks (row_of seen q) x → (k : ℕ) → k < n → get_or (row_of rows q) k 0 ≢ x
before_lacks seen rows q x n near sees is absent k h e = let b : k < length (row_of seen q) = omega (arith, h, is) in
    absent k b (sym (starts-at (row_of rows q) (row_of seen q) k (sees q near) b) ∙ e)

pub follows_on : (next : ℕ → List ℕ) (seen rows : List (List ℕ)) (p x : ℕ) → SeesOn seen rows → Follows next seen p x
    → Follows next rows p x
follows_on next seen rows p x sees f = let q = p % 13 in let s = sees q (omega arith) in (
  omega (arith, f.0, starts-length (row_of rows q) (row_of seen q) s),
  subst (λ (y : ℕ). Contains (next y) x) (sym (starts-at (row_of rows q) (row_of seen q) (p / 13) s f.0)) f.1,
)

module _ {v w : View} {word : ℕ} (t : Appends v word w) (q at : ℕ) (held : v.rows.held ≡ q) (near : q < 13)
    (all : length v.rows.seen ≡ 13) (is : at ≡ length (row_of v.rows.seen q)) where
  pub appends_knows : (id id' : TableId) (over : ℕ) → id' ≡ id → w.count.over ≡ over
      → known_of id' w ≡ record (known_of id v) {
        seen = w.rows.seen;
        right = 0;
        added = v.rows.added ++ place_of q at ∷ [];
        over = over;
      }
  appends_knows id id' over same e = rw same (rw (← e) (rw t.is (rw held (rw is refl))))

  -- and where the seat stops then
  pub appends_over : (id id' : TableId) → id' ≡ id → w.count.over ≡ 1
      → with_given_up (known_of id' w) ≡ record (with_given_up (known_of id v)) {
        seen = w.rows.seen;
        right = 0;
        added = w.rows.added;
        over = 1;
      }
  appends_over id id' same e = ap (λ (s : Known). record (with_given_up s) { added = w.rows.added })
      (appends_knows id id' 1 same e)

  pub appends_sees : SeesOn v.rows.seen w.rows.seen
  appends_sees = rw t.is (rw held (sees_set v.rows.seen q (row_of v.rows.seen q ++ word ∷ []) all near
      (word ∷ [], refl)))

  pub appends_there : (at < length (row_of w.rows.seen q)) × (get_or (row_of w.rows.seen q) at 0 ≡ word)
  appends_there = rw t.is (entry_there v word q at held near all is)

  pub appends_idle : IsIdle v → IsIdle w
  appends_idle o = rw t.is record {
    low = refl;
    high = refl;
    unfiled = refl;
    announced = refl;
    owed = o.owed;
    uncounted = refl;
  }

  pub appends_places : w.places ≡ v.places
  appends_places = ap (λ (x : View). x.places) t.is

  pub appends_counts : (counts : List ℕ) → length counts ≡ 13 → Counts v.places counts v.rows.seen → at < v.places
      → Counts w.places (set counts q (at + 1)) w.rows.seen
  appends_counts counts thirteen o room = let more = length-append (row_of v.rows.seen q) (word ∷ []) in
      rw t.is (rw held (counts_set v.places counts v.rows.seen q (at + 1) (row_of v.rows.seen q ++ word ∷ []) thirteen o
      near (omega (arith, is, more)) (omega (arith, is, more, room))))

-- a right that was had and given up again
pub returns_from : (u v w : Known) (right q : ℕ) → Gains u right q v → w ≡ record v { right = 0 } → Returns u w
returns_from u v w right q gains e = rw e (ap (λ (s : Known). record s { right = 0; held = v.held }) gains.0, gains.1)

pub returns_same : (u v : Known) → u.right ≡ 0 → v ≡ u → Returns u v
returns_same u v none e = rw e (ap (λ (n : ℕ). record u { right = n }) none, sees_on_refl u.seen)

-- under a right that was had, the claim is as it was and its word was seen before
pub gains_successor : (next : ℕ → List ℕ) (u v w : Known) (right q x : ℕ) → Gains u right q v → w ≡ v
    → IsSuccessor next u x → IsSuccessor next w x
gains_successor next u v w right q x gains e succ = let c : v.claims ≡ u.claims =
    ap (λ (s : Known). s.claims) gains.0 in let p : v.place ≡ u.place = ap (λ (s : Known). s.place) gains.0 in
    rw e (c ∙ succ.0, rw p (follows_on next u.seen v.seen u.place x gains.1 succ.1))

-- where the right is given up, the word was not put in
pub put_known : (u v w : Known) (right q x : ℕ) (place : Place) → Gains u right q v → w ≡ record v { right = 0 }
    → Names v.seen place x → PutOk x u w (Found place)
put_known u v w right q x place gains e named = (returns_from u v w right q gains e, rw e named)

pub put_over : (u v w : Known) (right q x : ℕ) → Gains u right q v
    → w ≡ record (with_given_up v) { right = 0; over = 1 } → PutOk x u w Over
put_over u v w right q x gains e = rw e (
  ap (λ (s : Known).
      record (with_given_up s) { right = 0; held = v.held; added = v.added; over = 1 }) gains.0,
  gains.1,
)

-- and where a word was added, it was
pub put_added : (u v w : Known) (right q x : ℕ) (put : Put) → Gains u right q v → Lacks (row_of u.seen (x % 13)) x
    → AddOk x v w put → PutOk x u w put
put_added u v w right q x (New place) gains absent (e, sees, named) = (
  subst (λ (h : ℕ). w ≡ record u { seen = w.seen; right = 0; held = h; added = u.added ++ number place ∷ [] })
      (sym (ap (λ (s : Known). s.held) e)) (e ∙ ap (λ (s : Known).
      record s { seen = w.seen; right = 0; held = v.held; added = s.added ++ number place ∷ [] }) gains.0),
  sees_on_trans u.seen v.seen w.seen gains.1 sees,
  named,
  absent,
)
put_added u v w right q x (Found place) gains absent no_such = absurd no_such
put_added u v w right q x Busy gains absent no_such = absurd no_such
put_added u v w right q x Over gains absent (e, sees) = (
  subst (λ (h : ℕ). w ≡ record (with_given_up u) { seen = w.seen; right = 0; held = h; added = w.added; over = 1 })
      (sym (ap (λ (s : Known). s.held) e)) (e ∙ ap (λ (s : Known).
      record (with_given_up s) { seen = w.seen; right = 0; held = v.held; added = w.added; over = 1 }) gains.0),
  sees_on_trans u.seen v.seen w.seen gains.1 sees,
)

pub returns_after : (u v w : Known) → Sees u v → Returns v w → Returns u w
returns_after u v w sees back = (
  back.0 ∙ ap (λ (s : Known). record s { seen = w.seen; held = w.held; right = 0 })
      sees.0,
  sees_on_trans u.seen v.seen w.seen sees.1 back.1,
)

pub returns_successor : (next : ℕ → List ℕ) (u w : Known) (x : ℕ) → Returns u w → IsSuccessor next u x
    → IsSuccessor next w x
returns_successor next u w x back succ = (
  ap (λ (s : Known). s.claims) back.0 ∙ succ.0,
  rw (ap (λ (s : Known). s.place) back.0) (follows_on next u.seen w.seen u.place x back.1 succ.1),
)

-- what a try to put a word in leaves, of the seat as it was before it had seen more
pub put_after : (u v w : Known) (x : ℕ) (put : Put) → Returns u v → PutOk x v w put → PutOk x u w put
put_after u v w x (New place) back (e, sees, named, absent) = (
  e ∙ ap (λ (s : Known). record s { seen = w.seen; held = w.held; right = 0; added = s.added ++ number place ∷ [] })
      back.0,
  sees_on_trans u.seen v.seen w.seen back.1 sees,
  named,
  lacks_before u.seen v.seen (x % 13) x (omega arith) back.1 absent,
)
put_after u v w x (Found place) back ((e, sees), named) = (
  (
    e ∙ ap (λ (s : Known). record s { seen = w.seen; held = w.held; right = 0 }) back.0,
    sees_on_trans u.seen v.seen w.seen back.1 sees,
  ),
  named,
)
put_after u v w x Busy back (e, sees) = (
  e ∙ ap (λ (s : Known). record s { seen = w.seen; held = w.held; right = 0 })
      back.0,
  sees_on_trans u.seen v.seen w.seen back.1 sees,
)
put_after u v w x Over back (e, sees) = (
  e ∙ ap (λ (s : Known).
      record (with_given_up s) { seen = w.seen; held = w.held; right = 0; added = w.added; over = 1 }) back.0,
  sees_on_trans u.seen v.seen w.seen back.1 sees,
)
