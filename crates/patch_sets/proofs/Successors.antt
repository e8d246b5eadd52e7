-- Ready ids, successors, and the closed sets as those that one ready id after another leads to.
use Rattle.std.proofs.Common.{◌≡◌, ℕ, zero, suc, ◌%◌, ◌^◌, ◌<◌, Bool, true, false, List, [], ◌∷◌, map, length, arith}
use Rattle.std.proofs.Common.{refl, sym, subst, ap, ◌∙◌, inl, inr}
use Rattle.std.specs.Prelude.{bit_and, slice_index, not, ◌&&◌, ◌==◌}
use Rattle.std.specs.Int.{bit_at}
use Rattle.std.specs.List.{Contains}
use Rattle.std.proofs.Math.Nat.{mod-eq_of_lt}
use Rattle.state_space.specs.Reach.{IsReached}
use Rattle.state_space.proofs.Runs.{reached_start, reached_next, along}
use Rattle.patch_sets.specs.Sets.{Has, has, with_id, ids_below}
use Rattle.patch_sets.specs.Closed.{AreEarlier, IsClosed}
use Rattle.patch_sets.specs.Ready.{IsReady, is_ready, successors_of}
use Rattle.patch_sets.proofs.Bits.{eq_or_not, none_in_empty, same_set, subset_from_and, and_from_subset, in_with_same}
use Rattle.patch_sets.proofs.Bits.{in_with_old, in_with_cases, in_low, from_low, small_from_below}
use Rattle.patch_sets.proofs.Ids.{true_from_eq, eq_from_true, false_from_ne, ne_from_false, from_ids, to_ids}

-- a word of a mapped list is that of one of the list
pub from_map : (f : ℕ → ℕ) (xs : List ℕ) (y : ℕ) → Contains (map f xs) y → (x : ℕ) × Contains xs x × (y ≡ f x)
from_map f [] y (k, within, is) = absurd (omega arith)
from_map f (x ∷ xs) y (zero, within, is) = (x, (zero, omega arith, refl), sym is)
from_map f (x ∷ xs) y (suc k, within, is) = let it = from_map f xs y (k, omega arith, is) in
    (it.0, (suc it.1.0, omega (arith, it.1.1), it.1.2), it.2)

-- and that of each of the list is one of it
pub to_map : (f : ℕ → ℕ) (xs : List ℕ) (x : ℕ) → Contains xs x → Contains (map f xs) (f x)
to_map f [] x (k, within, is) = absurd (omega arith)
to_map f (y ∷ xs) x (zero, within, is) = (zero, omega arith, ap f is)
to_map f (y ∷ xs) x (suc k, within, is) = let it = to_map f xs x (k, omega arith, is) in
    (suc it.0, omega (arith, it.1), it.2)

-- ---- ready ids

split_and : (a b : Bool) → (not a && b) ≡ true → (a ≡ false) × (b ≡ true)
split_and false true h = (refl, refl)
split_and false false h = cc
split_and true b h = cc

join_and : (a b : Bool) → a ≡ false → b ≡ true → (not a && b) ≡ true
join_and false true p q = refl
join_and false false p q = q
join_and true b p q = cc

module _ (deps : List ℕ) (set id : ℕ) where
  pub ready_from_test : id < length deps → is_ready deps set id ≡ true → IsReady deps set id
  ready_from_test known passes = let parts = split_and (has set id)
      (bit_and (slice_index deps id) set == slice_index deps id) passes in record {
        known = known;
        outside = ne_from_false (bit_at set id) 1 parts.0;
        depended = subset_from_and (slice_index deps id) set (eq_from_true (bit_and (slice_index deps id) set)
            (slice_index deps id) parts.1);
      }

  pub test_from_ready : IsReady deps set id → is_ready deps set id ≡ true
  test_from_ready ready = join_and (has set id) (bit_and (slice_index deps id) set == slice_index deps id)
      (false_from_ne (bit_at set id) 1 ready.outside)
      (true_from_eq (bit_and (slice_index deps id) set) (slice_index deps id)
      (and_from_subset (slice_index deps id) set ready.depended))

-- ---- successors

-- a successor is the set with a ready id more
pub from_successor : (deps : List ℕ) (set after : ℕ) → Contains (successors_of deps set) after → (id : ℕ)
    × IsReady deps set id × (after ≡ with_id set id)
from_successor deps set after is =
    let it = from_map (with_id set) (ids_below (length deps) (is_ready deps set)) after is in
    let at = from_ids (length deps) (is_ready deps set) it.0 it.1 in
    (it.0, ready_from_test deps set it.0 at.0 at.1, it.2)

pub to_successor : (deps : List ℕ) (set id : ℕ) → IsReady deps set id
    → Contains (successors_of deps set) (with_id set id)
to_successor deps set id ready =
    to_map (with_id set) (ids_below (length deps) (is_ready deps set)) id
    (to_ids (length deps) (is_ready deps set) id ready.known (test_from_ready deps set id ready))

module _ (deps : List ℕ) where
  pub empty_closed : IsClosed deps 0
  empty_closed = record {
    known = λ id is. absurd (none_in_empty id is);
    whole = λ q p is dep. absurd (none_in_empty q is);
  }

  pub successor_closed : (set : ℕ) → IsClosed deps set → (after : ℕ) → Contains (successors_of deps set) after
      → IsClosed deps after
  successor_closed set closed after is =
      let it = from_successor deps set after is in
      subst (IsClosed deps) (sym it.2) record {
        known = λ id inside. elim (in_with_cases set it.0 id inside) [
          | inl new ↦ subst (λ i. i < length deps) (sym new) it.1.known
          | inr old ↦ closed.known id old
        ];
        whole = λ q p inside dep. elim (in_with_cases set it.0 q inside) [
          | inl new ↦ in_with_old set it.0 p (it.1.depended p (subst (λ i. Has (slice_index deps i) p) new dep))
          | inr old ↦ in_with_old set it.0 p (closed.whole q p old dep)
        ];
      }

  pub reached_closed : (set : ℕ) → IsReached (successors_of deps) 0 set → IsClosed deps set
  reached_closed = along (successors_of deps) 0 (IsClosed deps) empty_closed successor_closed

  -- the members below k are reached one after another
  module _ (earlier : AreEarlier deps) (set : ℕ) (closed : IsClosed deps set) where
    low_more : (k : ℕ) → Has set k → with_id (set % 2 ^ k) k ≡ set % 2 ^ suc k
    low_more k is = same_set (with_id (set % 2 ^ k) k) (set % 2 ^ suc k)
        (λ id inside. elim (in_with_cases (set % 2 ^ k) k id inside) [
          | inl e ↦ in_low set (suc k) id (omega (arith, e)) ∙ (ap (bit_at set) e ∙ is)
          | inr old ↦ let it = from_low set k id old in in_low set (suc k) id (omega (arith, it.0)) ∙ it.1
        ])
        (λ id inside. let it = from_low set (suc k) id inside in elim (eq_or_not id k) [
          | inl e ↦ subst (λ i. Has (with_id (set % 2 ^ k) k) i) (sym e) (in_with_same (set % 2 ^ k) k)
          | inr ne ↦ in_with_old (set % 2 ^ k) k id (in_low set k id (omega (arith, it.0)) ∙ it.1)
        ])

    low_same : (k : ℕ) → (Has set k → ⊥) → set % 2 ^ k ≡ set % 2 ^ suc k
    low_same k is_not = same_set (set % 2 ^ k) (set % 2 ^ suc k)
        (λ id inside. let it = from_low set k id inside in in_low set (suc k) id (omega (arith, it.0)) ∙ it.1)
        (λ id inside. let it = from_low set (suc k) id inside in elim (eq_or_not id k) [
          | inl e ↦ absurd (is_not (ap (bit_at set) (sym e) ∙ it.1))
          | inr ne ↦ in_low set k id (omega (arith, it.0)) ∙ it.1
        ])

    low_ready : (k : ℕ) → Has set k → IsReady deps (set % 2 ^ k) k
    low_ready k is = record {
      known = closed.known k is;
      outside = λ inside. let it = from_low set k k inside in absurd (omega (arith, it.0));
      depended = λ p dep. in_low set k p (earlier k p dep) ∙ closed.whole k p is dep;
    }

    reached_low : (k : ℕ) → IsReached (successors_of deps) 0 (set % 2 ^ k)
    reached_low zero = subst (IsReached (successors_of deps) 0) (omega arith) (reached_start (successors_of deps) 0)
    reached_low (suc k) = elim (eq_or_not (bit_at set k) 1) [
      | inl is ↦ subst (IsReached (successors_of deps) 0) (low_more k is)
          (reached_next (successors_of deps) 0 (set % 2 ^ k) (with_id (set % 2 ^ k) k) (reached_low k)
          (to_successor deps (set % 2 ^ k) k (low_ready k is)))
      | inr is_not ↦ subst (IsReached (successors_of deps) 0) (low_same k is_not) (reached_low k)
    ]

    pub closed_reached : IsReached (successors_of deps) 0 set
    closed_reached = subst (IsReached (successors_of deps) 0)
        (mod-eq_of_lt (small_from_below set (length deps) closed.known)) (reached_low (length deps))
