-- Locks after a step.
use Rattle.std.proofs.Common.{◌≡◌, ℕ, ◌+◌, ◌<◌, ◌≤◌, ◌≢◌, List, length, get_or, set, cond, eq-eqb, ne_eqb, refl, ap}
use Rattle.std.proofs.Common.{◌∙◌, sym, subst, arith, get_or-set_other, get_or-set_same}
use mathlib.Core.Logic.{dite}
use native.Mathlib.Decide.{ℕ_discrete}
use mathlib.Core.Option.{some}
use lib.ListN.{get_elem?}
use Rattle.board_rule.specs.Layout.{writer, lock_word}
use Rattle.board_rule.specs.Lists.{total}
use Rattle.board_rule.specs.Rule.{weight, LocksOk}
use Rattle.board_rule.specs.declared.view.View.{View}
use Rattle.board_rule.proofs.Sums.{total-set, terms_le}

pub weight_here : (v : View) → weight v.rows.held v ≡ v.rows.right
weight_here v = ap (λ b. cond b v.rows.right 0) (eq-eqb v.rows.held v.rows.held refl)

pub weight_else : (q : ℕ) (v : View) → v.rows.held ≢ q → weight q v ≡ 0
weight_else q v n = ap (λ b. cond b v.rows.right 0) (ne_eqb v.rows.held q n)

pub weight_idle : (q : ℕ) (v : View) → v.rows.right ≡ 0 → weight q v ≡ 0
weight_idle q v e = dite (ℕ_discrete v.rows.held q) (λ h. ap (λ b. cond b v.rows.right 0) (eq-eqb v.rows.held q h) ∙ e)
    (λ n. weight_else q v n)

-- no second seat has a right while there is a writer
pub alone : (words : List ℕ) (views : List View) (i j : ℕ) (v u : View) → LocksOk words views → v.rows.held < 13
    → get_elem? views i ≡ some v → get_elem? views j ≡ some u → j ≢ i → v.rows.right ≡ writer
    → u.rows.held ≡ v.rows.held → u.rows.right ≡ 0
alone words views i j v u l near a b n full same = let q = v.rows.held in
    let both = terms_le (weight q) views i j v u n a b in let here = weight_here v in
    let there : weight q u ≡ u.rows.right = ap (λ x. weight x u) (sym same) ∙ weight_here u in
    omega (arith, both, here, there, full, (l q near).0, (l q near).1)

-- a step off the locks, after which the seat weighs no more
pub locks_stay : (words words' : List ℕ) (views : List View) (i : ℕ) (v w : View) → LocksOk words views
    → get_elem? views i ≡ some v
    → ((q : ℕ) → q < 13 → get_or words' (lock_word q) 0 ≡ get_or words (lock_word q) 0)
    → ((q : ℕ) → weight q w ≤ weight q v) → LocksOk words' (set views i w)
locks_stay words words' views i v w l me same less q h =
    (omega (arith, total-set (weight q) views i v w me, l q h, same q h, less q), omega (arith, l q h, same q h))

-- a step on the lock of shard q
pub locks_turn : (words : List ℕ) (views : List View) (i q n : ℕ) (v w : View) → q < 13 → 216 ≤ length words
    → LocksOk words views → get_elem? views i ≡ some v
    → n ≤ writer → get_or words (lock_word q) 0 + weight q w ≤ n + weight q v
    → ((p : ℕ) → p ≢ q → weight p w ≤ weight p v) → LocksOk (set words (lock_word q) n) (set views i w)
locks_turn words views i q n v w near long l me top gain less p h = dite (ℕ_discrete p q)
    (λ e. subst (λ (x : ℕ). (total (weight x) (set views i w) ≤ get_or (set words (lock_word q) n) (lock_word x) 0)
    × (get_or (set words (lock_word q) n) (lock_word x) 0 ≤ writer)) (sym e)
    (let here = get_or-set_same words (lock_word q) n 0 (omega arith) in
    (omega (arith, total-set (weight q) views i v w me, l q near, here, gain), omega (arith, here, top))))
    (λ ne. let other = get_or-set_other words (lock_word q) (lock_word p) n 0 (λ e. ne (omega arith)) in
    (omega (arith, total-set (weight p) views i v w me, l p h, other, less p ne), omega (arith, l p h, other)))
