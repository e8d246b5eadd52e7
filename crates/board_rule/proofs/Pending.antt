-- Pending and the count after a step.
use Rattle.std.proofs.Common.{◌≡◌, ℕ, ◌+◌, ◌*◌, ◌<◌, ◌≤◌, List, [], ◌∷◌, ◌++◌, length, get_or, set, cond, ap, arith}
use Rattle.std.proofs.Common.{lt-ltb}
use mathlib.Core.Option.{some}
use lib.ListN.{get_elem?}
use Rattle.state_space.specs.Reach.{IsReached}
use Rattle.board_rule.specs.Layout.{writer}
use Rattle.board_rule.specs.Lists.{row_of, total}
use Rattle.board_rule.specs.Lives.{is_unsettled, is_settled}
use Rattle.board_rule.specs.Views.{Fixed}
use Rattle.board_rule.specs.Rule.{open_lives, PendingOk, CountOk, Overfills}
use Rattle.board_rule.specs.declared.view.View.{View}
use Rattle.board_rule.proofs.Sums.{total-set, total-append, total_set_or, total_term, seats_turn}

-- the sum over all lives, after one of them changes
pub lives_sum : (g : ℕ → ℕ) (lives : List (List ℕ)) (q k n : ℕ) → q < length lives → k < length (row_of lives q)
    → total (total g) (set lives q (set (row_of lives q) k n)) + g (get_or (row_of lives q) k 0) ≡ total (total g) lives
    + g n
lives_sum g lives q k n h b = omega (
  arith,
  total_set_or (total g) lives q (set (row_of lives q) k n) [] h,
  total_set_or g (row_of lives q) k n 0 b,
)

-- the sum over all lives, after a row has one more
pub lives_more : (g : ℕ → ℕ) (lives : List (List ℕ)) (q n : ℕ) → q < length lives
    → total (total g) (set lives q (row_of lives q ++ n ∷ [])) ≡ total (total g) lives + g n
lives_more g lives q n h = omega (
  arith,
  total_set_or (total g) lives q (row_of lives q ++ n ∷ []) [] h,
  total-append g (row_of lives q) (n ∷ []),
)

pub lives_term : (g : ℕ → ℕ) (lives : List (List ℕ)) (q k : ℕ) → q < length lives → k < length (row_of lives q)
    → g (get_or (row_of lives q) k 0) ≤ total (total g) lives
lives_term g lives q k h b = omega (arith, total_term (total g) lives q [] h, total_term g (row_of lives q) k 0 b)

pub unsettled_low : (n : ℕ) → n < 2 → is_unsettled n ≡ 1
unsettled_low n h = ap {B = ℕ} (λ b. cond b 1 0) (lt-ltb n 2 h)

pub pending_turn : (lives lives' : List (List ℕ)) (words words' : List ℕ) (views : List View) (i : ℕ) (v w : View)
    → PendingOk lives words views → get_elem? views i ≡ some v
    → get_or words' 0 0 + (open_lives lives + (v.pending.announced + v.pending.owed)) ≡ get_or words 0 0
    + (open_lives lives' + (w.pending.announced + w.pending.owed))
    → w.pending.owed + total (total is_settled) lives ≤ v.pending.owed + total (total is_settled) lives'
    → w.pending.verdicts + total (total is_settled) lives ≡ v.pending.verdicts + total (total is_settled) lives'
    → w.pending.announced * writer ≤ w.rows.right
    → (open_lives lives ≡ 0 → total (λ u. u.pending.announced) views ≡ 0 → (open_lives lives' ≡ 0)
    × (w.pending.announced ≤ v.pending.announced))
    → (w.pending.finished ≡ 1 → (open_lives lives' ≡ 0) × (total (λ u. u.pending.announced) (set views i w) ≡ 0))
    → PendingOk lives' words' (set views i w)
pending_turn lives lives' words words' views i v w o me sum few verdicts writers done own = let a =
    total-set (λ u. u.pending.announced) views i v w me in let b = total-set (λ u. u.pending.owed) views i v w me in
    record {
      sum = omega (arith, o.sum, sum, a, b);
      few = omega (arith, o.few, few, b);
      verdicts = omega (arith, o.verdicts, verdicts, total-set (λ u. u.pending.verdicts) views i v w me);
      by_writers = seats_turn (λ u. u.pending.announced * writer ≤ u.rows.right) views i w writers
          (λ j u ne e. o.by_writers j u e);
      done = seats_turn (λ u. u.pending.finished ≡ 1 → (open_lives lives' ≡ 0)
          × (total (λ u. u.pending.announced) (set views i w) ≡ 0)) views i w own
          (λ j u ne e f. let t = o.done j u e f in let d = done t.0 t.1 in (d.0, omega (arith, a, t.1, d.1)));
    }

-- a step that touches neither pending nor the lives nor what the seat owes
pub pending_stay : (lives : List (List ℕ)) (words words' : List ℕ) (views : List View) (i : ℕ) (v w : View)
    → PendingOk lives words views → get_elem? views i ≡ some v
    → get_or words' 0 0 ≡ get_or words 0 0 → w.pending ≡ v.pending → w.pending.announced * writer ≤ w.rows.right
    → PendingOk lives words' (set views i w)
pending_stay lives words words' views i v w o me same debts writers = let a =
    total-set (λ u. u.pending.announced) views i v w me in
    let ann : w.pending.announced ≡ v.pending.announced = ap (λ p. p.announced) debts in
    let owe : w.pending.owed ≡ v.pending.owed = ap (λ p. p.owed) debts in
    pending_turn lives lives words words' views i v w o me (omega (arith, same, ann, owe)) (omega (arith, owe))
    (omega (arith, ap (λ p. p.verdicts) debts)) writers (λ none-open none-on-way. (none-open, omega (arith, ann)))
    (λ f. let d = o.done i v me (let g : v.pending.finished ≡ 1 = omega (arith, f, ap (λ p. p.finished) debts) in g) in
    (d.0, omega (arith, a, d.1, ann)))

pub count_turn : (t : Fixed) (rows rows' : List (List ℕ)) (words words' : List ℕ) (views : List View) (i : ℕ)
    (v w : View) → CountOk t rows words views → get_elem? views i ≡ some v
    → get_or words' 1 0 + (w.count.uncounted + total length rows) ≡ get_or words 1 0
    + (v.count.uncounted + total length rows') → (w.count.over ≡ 1
    → Overfills (IsReached t.next t.origin) t.limit t.places) → CountOk t rows' words' (set views i w)
count_turn t rows rows' words words' views i v w o me sum over = record {
  count = omega (arith, o.count, sum, total-set (λ u. u.count.uncounted) views i v w me);
  over = seats_turn (λ u. u.count.over ≡ 1 → Overfills (IsReached t.next t.origin) t.limit t.places) views i w over
      (λ j u ne e. o.over j u e);
}
