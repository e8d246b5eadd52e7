-- A new board keeps the rule.
use Rattle.std.proofs.Common.{◌≡◌, ◌≢◌, ℕ, zero, suc, ◌-◌, ◌*◌, ◌/◌, ◌%◌, ◌^◌, ◌<◌, ◌≤◌, List, [], ◌∷◌, length, get_or}
use Rattle.std.proofs.Common.{set, replicate, cond, eq-eqb, ne_eqb, sym, refl, ap, ◌∙◌, subst, inl, ◌⊎◌, arith}
use Rattle.std.proofs.Common.{length-set, get_or-set_other, get_or-set_same}
use Rattle.std.specs.List.{All}
use Rattle.std.proofs.lemmas.List.{length-replicate}
use mathlib.Core.Logic.{dite}
use native.Mathlib.Decide.{ℕ_discrete}
use mathlib.Core.Option.{some, some-injective, some-ne-none}
use lib.ListN.{get_elem?}
use Rattle.atomic_table.specs.Table.{opening}
use Rattle.state_space.specs.Reach.{IsReached}
use Rattle.state_space.proofs.Runs.{reached_start}
use Rattle.board_rule.specs.Layout.{half, writer, lock_word, length_word, low_word, high_word, life_word, index_word}
use Rattle.board_rule.specs.Layout.{size_for, place_of, slot}
use Rattle.board_rule.specs.Lists.{row_of, total}
use Rattle.board_rule.specs.Lives.{life_of, life_at, is_claimed, is_unsettled, is_settled, Passes}
use Rattle.board_rule.specs.Views.{Fixed}
use Rattle.board_rule.specs.Rule.{EachSeat, start_place, open_lives, SeatOk, Stands, IsUnfiled, IsBare, IsKept}
use Rattle.board_rule.specs.Rule.{Overfills}
use Rattle.board_rule.specs.Changes.{opening_rows, opening_words, first_view}
use Rattle.board_rule.specs.declared.view.View.{View}
use Rattle.board_rule.proofs.Sums.{rows_cases, starts-refl, total_set_or}
use Rattle.board_rule.proofs.Locks.{weight_idle}
use Rattle.board_rule.proofs.Rows.{seat_free}
use Rattle.board_rule.proofs.Lives.{claim_none}
use Rattle.board_rule.proofs.Added.{published_yes, published_no}
use Rattle.board_rule.proofs.Index.{slot_lt}

zero_at : (n i : ℕ) → get_or {A = ℕ} (replicate n 0) i 0 ≡ 0
zero_at zero i = refl
zero_at (suc n) zero = refl
zero_at (suc n) (suc i) = zero_at n i

one_zero : (k : ℕ) → get_or {A = ℕ} (0 ∷ []) k 0 ≡ 0
one_zero zero = refl
one_zero (suc k) = refl

nil_at : (n q : ℕ) → row_of (replicate n []) q ≡ []
nil_at zero q = refl
nil_at (suc n) zero = refl
nil_at (suc n) (suc q) = nil_at n q

first_only : (v : View) (a : ℕ) (u : View) → get_elem? (v ∷ []) a ≡ some u → v ≡ u
first_only v zero u e = some-injective v u e
first_only v (suc a) u e = absurd (some-ne-none u (sym e))

-- what the words of a new board are
pub record Opened (places start : ℕ) (words : List ℕ) : Type 0 where
  pub sized : length words ≡ size_for places
  pub pending : get_or words 0 0 ≡ 1
  pub count : get_or words 1 0 ≡ 1
  pub one : get_or words (length_word (start % 13)) 0 ≡ 1
  pub low : get_or words (low_word (start % 13) 0) 0 ≡ start % half
  pub high : get_or words (high_word places (start % 13) 0) 0 ≡ start / half
  pub mark : get_or words (index_word places (start % 13) (slot places start 0)) 0 ≡ 1
  pub blank : (a : ℕ) → 2 ≤ a → a ≢ length_word (start % 13) → a ≢ low_word (start % 13) 0
      → a ≢ high_word places (start % 13) 0 → a ≢ index_word places (start % 13) (slot places start 0)
      → get_or words a 0 ≡ 0

-- six words of a blank list are set, each at another place
sets : (n a b c d v u : ℕ) → 2 ≤ a → a < b → b < c → c < d → d < n → let w0 : List ℕ = replicate n 0 in
    let w6 = set (set (set (set (set (set w0 0 1) 1 1) a 1) b v) c u) d 1 in
    (length w6 ≡ n) × (get_or w6 0 0 ≡ 1) × (get_or w6 1 0 ≡ 1) × (get_or w6 a 0 ≡ 1) × (get_or w6 b 0 ≡ v)
    × (get_or w6 c 0 ≡ u) × (get_or w6 d 0 ≡ 1) × ((x : ℕ) → 2 ≤ x → x ≢ a → x ≢ b → x ≢ c → x ≢ d
    → get_or w6 x 0 ≡ 0)
sets n a b c d v u ha hb hc hd hn = let w0 : List ℕ = replicate n 0 in let w1 = set w0 0 1 in let w2 = set w1 1 1 in
    let w3 = set w2 a 1 in let w4 = set w3 b v in let w5 = set w4 c u in
    let l0 : length w0 ≡ n = length-replicate n 0 in let l1 : length w1 ≡ n = length-set w0 0 1 ∙ l0 in
    let l2 : length w2 ≡ n = length-set w1 1 1 ∙ l1 in let l3 : length w3 ≡ n = length-set w2 a 1 ∙ l2 in
    let l4 : length w4 ≡ n = length-set w3 b v ∙ l3 in let l5 : length w5 ≡ n = length-set w4 c u ∙ l4 in
    let off5 : (x : ℕ) → x ≢ d → get_or (set w5 d 1) x 0 ≡ get_or w5 x 0 = λ x ne. get_or-set_other w5 d x 1 0 ne in
    let off4 : (x : ℕ) → x ≢ c → get_or w5 x 0 ≡ get_or w4 x 0 = λ x ne. get_or-set_other w4 c x u 0 ne in
    let off3 : (x : ℕ) → x ≢ b → get_or w4 x 0 ≡ get_or w3 x 0 = λ x ne. get_or-set_other w3 b x v 0 ne in
    let off2 : (x : ℕ) → x ≢ a → get_or w3 x 0 ≡ get_or w2 x 0 = λ x ne. get_or-set_other w2 a x 1 0 ne in
    let off1 : (x : ℕ) → x ≢ 1 → get_or w2 x 0 ≡ get_or w1 x 0 = λ x ne. get_or-set_other w1 1 x 1 0 ne in
    let off0 : (x : ℕ) → x ≢ 0 → get_or w1 x 0 ≡ get_or w0 x 0 = λ x ne. get_or-set_other w0 0 x 1 0 ne in (
      length-set w5 d 1 ∙ l5,
      off5 0 (λ e. omega (arith, e)) ∙ off4 0 (λ e. omega (arith, e)) ∙ off3 0 (λ e. omega (arith, e))
          ∙ off2 0 (λ e. omega (arith, e)) ∙ off1 0 (λ e. omega (arith, e))
          ∙ get_or-set_same w0 0 1 0 (omega (arith, l0)),
      off5 1 (λ e. omega (arith, e)) ∙ off4 1 (λ e. omega (arith, e)) ∙ off3 1 (λ e. omega (arith, e))
          ∙ off2 1 (λ e. omega (arith, e)) ∙ get_or-set_same w1 1 1 0 (omega (arith, l1)),
      off5 a (λ e. omega (arith, e)) ∙ off4 a (λ e. omega (arith, e)) ∙ off3 a (λ e. omega (arith, e))
          ∙ get_or-set_same w2 a 1 0 (omega (arith, l2)),
      off5 b (λ e. omega (arith, e)) ∙ off4 b (λ e. omega (arith, e)) ∙ get_or-set_same w3 b v 0 (omega (arith, l3)),
      off5 c (λ e. omega (arith, e)) ∙ get_or-set_same w4 c u 0 (omega (arith, l4)),
      get_or-set_same w5 d 1 0 (omega (arith, l5)),
      λ x h na nb nc nd. off5 x nd ∙ off4 x nc ∙ off3 x nb ∙ off2 x na ∙ off1 x (λ e. omega (arith, e, h))
          ∙ off0 x (λ e. omega (arith, e, h)) ∙ zero_at n x,
    )

opened : (places start : ℕ) → 0 < places → Opened places start (opening_words places start)
opened places start wide = let q = start % 13 in let near : q < 13 = omega arith in
    let low : slot places start 0 < places = slot_lt places start 0 wide in
    let t = sets (size_for places) (length_word q) (low_word q 0) (high_word places q 0)
    (index_word places q (slot places start 0)) (start % half) (start / half) (omega arith) (omega (arith, near))
    (omega (arith, wide)) (omega (arith, wide)) (omega (arith, near, low)) in
    record { sized = t.0; pending = t.1; count = t.2; one = t.3; low = t.4; high = t.5; mark = t.6; blank = t.7 }

pub opens : (t : Fixed) (good : ℕ → Type 0) (S : Type 0) → 0 < t.places
    → IsKept t good {S = S} (opening (opening_words t.places t.origin) [] (first_view t.limit t.places t.origin))
opens t good S wide = let start = t.origin in let places = t.places in let q = start % 13 in
    let near : q < 13 = omega arith in let words = opening_words places start in let w = opened places start wide in
    let nils : List (List ℕ) = replicate 13 [] in let rows = opening_rows start in let lives = set nils q (0 ∷ []) in
    let v = first_view t.limit places start in let j0 = slot places start 0 in let low : j0 < places =
    slot_lt places start 0 wide in
    let only : (F : View → Type 0) → F v → EachSeat F (v ∷ []) = λ F h a u e. subst F (first_only v a u e) h in
    let empty : (p : ℕ) → length (row_of nils p) ≡ 0 = λ p. ap length (nil_at 13 p) in
    let row : row_of rows q ≡ start ∷ [] = get_or-set_same nils q (start ∷ []) [] (omega arith) in
    let each-life : (p k : ℕ) → p < 13 → get_or (row_of lives p) k 0 ≡ 0 =
    λ p k h. rows_cases nils q (0 ∷ []) (λ p l. (k : ℕ) → get_or l k 0 ≡ 0) refl near (λ k. one_zero k)
    (λ p h ne k. ap (λ (l : List ℕ). get_or l k 0) (nil_at 13 p)) p h k in
    let lives_blank : (p k : ℕ) → p < 13 → k < places → get_or words (life_word places p k) 0 ≡ 0 =
    λ p k h b. w.blank (life_word places p k) (omega arith) (λ e. omega (arith, e)) (λ e. omega (arith, e, wide))
    (λ e. omega (arith, e, wide)) (λ e. omega (arith, e, b, h, near)) in
    let lives_short : (p : ℕ) → p < 13 → length (row_of lives p) ≤ places =
    rows_cases nils q (0 ∷ []) (λ p l. length l ≤ places) refl near (omega (arith, wide))
    (λ p h ne. omega (arith, empty p)) in
    -- a fact of each entry is one of the start
    let each : (F : ℕ → ℕ → ℕ → Type 0) → F q 0 start → (p k : ℕ) → p < 13 → k < length (row_of rows p)
    → F p k (get_or (row_of rows p) k 0) = λ F h p k b. rows_cases nils q (start ∷ [])
    (λ p l. (k : ℕ) → k < length l → F p k (get_or l k 0)) refl near
    (λ k c. let z : k ≡ 0 = omega (arith, c) in rw z h) (λ p h ne k c. absurd (omega (arith, c, empty p))) p b k in
    let sum : (g : List ℕ → ℕ) → total g nils ≡ 0 → g [] ≡ 0 → (l : List ℕ)
    → total g (set nils q l) ≡ g l = λ g none nil l. omega
    (arith, total_set_or g nils q l [] (omega arith), none, nil, ap g (nil_at 13 q)) in
    let marks : (p j : ℕ) → p < 13 → j < places → (p ≡ q → j ≢ j0) → get_or words (index_word places p j) 0 ≡ 0 =
    λ p j h b ne. w.blank (index_word places p j) (omega arith) (λ e. omega (arith, e))
    (λ e. omega (arith, e, wide)) (λ e. omega (arith, e, wide))
    (λ e. ne (omega (arith, e, h, near)) (omega (arith, e, h, near))) in record {
      rows = rows;
      lives = lives;
      wide = wide;
      sized = w.sized;
      informed = only (λ u. 0 < u.places → u.places ≡ places) (λ _. refl);
      rooted = (0, omega (arith, ap length row), ap (λ (l : List ℕ). get_or l 0 0) row);
      locks = λ p h. let z = w.blank (lock_word p) (omega arith) (λ e. omega (arith, e, h)) (λ e. omega (arith, e, h))
          (λ e. omega (arith, e, h)) (λ e. omega (arith, e, h)) in
          (omega (arith, weight_idle p v refl, z), omega (arith, z));
      row = record {
        all = length-set nils q (start ∷ []);
        short = rows_cases nils q (start ∷ []) (λ p r. length r ≤ places) refl near (omega (arith, wide))
            (λ p h ne. omega (arith, empty p));
        stored = rows_cases nils q (start ∷ []) (λ p r. get_or words (length_word p) 0 ≡ length r) refl near w.one
            (λ p h ne. w.blank (length_word p) (omega arith) (λ e. ne (omega (arith, e))) (λ e. omega (arith, e, h))
            (λ e. omega (arith, e, h)) (λ e. omega (arith, e, h)) ∙ sym (empty p));
        lows = each (λ p k x. get_or words (low_word p k) 0 ≡ x % half) w.low;
        highs = each (λ p k x. get_or words (high_word places p k) 0 ≡ x / half) w.high;
        at_home = each (λ p k x. x % 13 ≡ p) refl;
        distinct = λ p a b h c d e. let f : (y : ℕ) → y < length (row_of rows p)
            → y ≡ 0 = λ y i. each (λ p k x. k ≡ 0) refl p y h i in f a c ∙ sym (f b d);
        reached = each (λ p k x. IsReached t.next start x) (reached_start t.next start);
      };
      seats = only (λ u. SeatOk places rows words u.rows) (seat_free places rows words v.rows
          (length-set nils q (start ∷ [])) (λ p h. starts-refl (row_of rows p)) (omega arith) refl refl refl);
      added = record {
        once = λ p. dite (ℕ_discrete p (start_place start))
            (λ e. omega (
              arith,
              ap {B = ℕ} (λ b. cond b 1 0) (eq-eqb p (start_place start) e),
              published_yes rows p (let here : p % 13 ≡ q = omega (arith, e) in
                  subst (λ (y : ℕ). p / 13 < length (row_of rows y)) (sym here) (omega (arith, e, ap length row))),
            ))
            (λ ne. omega (
              arith,
              ap {B = ℕ} (λ b. cond b 1 0) (ne_eqb p (start_place start) ne),
              published_no rows p (rows_cases nils q (start ∷ []) (λ y l. p % 13 ≡ y → length l ≤ p / 13) refl near
                  (λ e. omega (arith, e, ne)) (λ y h other _. omega (arith, empty y)) (p % 13) (omega arith) refl),
            ));
        many = omega (arith, sum length refl refl (start ∷ []));
      };
      life = record {
        all = length-set nils q (0 ∷ []);
        even = rows_cases nils q (0 ∷ []) (λ p l. length l ≡ length (row_of rows p)) refl near (sym (ap length row))
            (λ p h ne. ap length (sym (get_or-set_other nils q p (start ∷ []) [] ne)));
        shown = λ p k h b. lives_blank p k h (omega (arith, b, lives_short p h)) ∙ sym (each-life p k h);
        fresh = λ p k h b c. lives_blank p k h c;
        claimed = λ p k h. omega (arith, claim_none v (place_of p k) refl, ap is_claimed (each-life p k h));
        four = λ p k h. omega (arith, each-life p k h);
        clean = λ p k h e. absurd (omega (arith, e, each-life p k h));
        broken = λ p k h e. absurd (omega (arith, e, each-life p k h));
        closed = λ p k y h two. absurd (omega (arith, two, each-life p k h));
        learned = only (λ u. All (λ m. Passes m.1 (life_of (life_at lives m.0))) u.lives.learned)
            (λ k d h. absurd (omega (arith, h)));
      };
      pending = record {
        sum = omega (arith, w.pending, sum (total is_unsettled) refl refl (0 ∷ []));
        few = omega arith;
        verdicts = omega (arith, sum (total is_settled) refl refl (0 ∷ []));
        by_writers = only (λ u. u.pending.announced * writer ≤ u.rows.right) (omega arith);
        done = only (λ u. u.pending.finished ≡ 1 → (open_lives lives ≡ 0)
            × (total (λ x. x.pending.announced) (v ∷ []) ≡ 0)) (λ f. absurd (omega (arith, f)));
      };
      counts = record {
        count = omega (arith, w.count, sum length refl refl (start ∷ []));
        over = only (λ u. u.count.over ≡ 1 → Overfills (IsReached t.next start) t.limit places)
            (λ f. absurd (omega (arith, f)));
      };
      index = record {
        named = λ p j h b. dite (ℕ_discrete p q)
            (λ e. dite (ℕ_discrete j j0) (λ d. rw e (rw d (omega (arith, w.mark, ap length row))))
            (λ nd. omega (arith, marks p j h b (λ _. nd))))
            (λ ne. omega (arith, marks p j h b (λ e. absurd (ne e))));
        stands = each (λ p k x. Stands places (λ j. get_or words (index_word places p j) 0) x k
            ⊎ IsUnfiled (v ∷ []) p k) (inl (λ u uw z. dite (ℕ_discrete u 0)
            (λ e. absurd (omega (
              arith,
              w.mark,
              z,
              ap (λ (y : ℕ).
                  get_or words (index_word places q (slot places start y)) 0) e,
            ))) (λ ne. (0, omega (arith, ne), w.mark))));
      };
      shares = record {
        from = 0;
        cut = only (λ u. u.share.cuts ≤ 0) (omega arith);
        whole = λ k h. omega (arith, ap (λ (j : ℕ). 2 ^ j) (let z : k - 0 ≡ k = omega arith in z));
        positive = only (λ u. 0 < u.places → 0 < u.share.parts) (λ _. omega arith);
        bare = only (λ u. u.places ≡ 0 → IsBare u) (λ none. absurd (omega (arith, none, wide)));
      };
    }
