-- One patch more, in the loops over a graph's patches.
use Rattle.std.proofs.Common.{◌≡◌, ℕ, ◌+◌, ◌<◌, Bool, true, false, cond, List, [], ◌∷◌, ◌++◌, length, arith, sym, subst}
use Rattle.std.proofs.Common.{ap, ◌∙◌, inl, inr, append-nil, length-append}
use Rattle.std.specs.Prelude.{◌↔◌, slice_index}
use Rattle.std.proofs.lemmas.List.{get_or-map, length-map}
use Rattle.patch_sets.specs.Sets.{Has, IsSubset, with_id, ids_below}
use Rattle.patch_sets.specs.Ready.{IsReady, is_ready, successors_of}
use Rattle.patch_sets.proofs.Bits.{eq_or_not, none_in_empty, in_with_same, in_with_old, in_with_cases}
use Rattle.patch_sets.proofs.Ids.{ids_more, ids_push, id_at, fewer_before}

-- ---- ids that are collected

-- the set has the ids below n with the property
abbrev pub Collects : (ℕ → Type 0) → ℕ → ℕ → Type 0
Collects P n set = (id : ℕ) → Has set id ↔ ((id < n) × P id)

pub collects_none : (P : ℕ → Type 0) → Collects P 0 0
collects_none P id = (λ is. absurd (none_in_empty id is), λ it. absurd (omega (arith, it.0)))

module _ (P : ℕ → Type 0) (n set : ℕ) (so_far : Collects P n set) where
  pub collects_one : P n → Collects P (n + 1) (with_id set n)
  collects_one is id = (
    λ inside. elim (in_with_cases set n id inside) [
      | inl e ↦ (omega (arith, e), subst P (sym e) is)
      | inr old ↦ let it = (so_far id).0 old in (omega (arith, it.0), it.1)
    ],
    λ it. elim (eq_or_not id n) [
      | inl e ↦ subst (Has (with_id set n)) (sym e) (in_with_same set n)
      | inr ne ↦ in_with_old set n id ((so_far id).1 (omega (arith, it.0), it.1))
    ],
  )

  pub collects_skip : (P n → ⊥) → Collects P (n + 1) set
  collects_skip is_not id = (
    λ old. let it = (so_far id).0 old in (omega (arith, it.0), it.1),
    λ it. elim (eq_or_not id n) [
      | inl e ↦ absurd (is_not (subst P e it.1))
      | inr ne ↦ (so_far id).1 (omega (arith, it.0), it.1)
    ],
  )

-- ---- ready ids

module _ (deps : List ℕ) (set id own : ℕ) (inside : id < length deps) (at : slice_index deps id ≡ own) where
  pub ready_of : ¬ (Has set id) × IsSubset own set → IsReady deps set id
  ready_of it = record { known = inside; outside = it.0; depended = subst (λ d. IsSubset d set) (sym at) it.1 }

  pub of_ready : IsReady deps set id → ¬ (Has set id) × IsSubset own set
  of_ready ready = (ready.outside, subst (λ d. IsSubset d set) at ready.depended)

pub count_one : (n : ℕ) (pass : ℕ → Bool) → pass n ≡ true
    → length (ids_below (n + 1) pass) ≡ length (ids_below n pass) + 1
count_one n pass is = ap length (ids_push n pass is) ∙ length-append (ids_below n pass) (n ∷ [])

pub count_skip : (n : ℕ) (pass : ℕ → Bool) → pass n ≡ false
    → length (ids_below (n + 1) pass) ≡ length (ids_below n pass)
count_skip n pass is_not = ap length (ids_more n pass ∙ (ap (λ b. ids_below n pass ++ cond b (n ∷ []) []) is_not
    ∙ append-nil (ids_below n pass)))

pub count_successors : (deps : List ℕ) (set : ℕ) → length (successors_of deps set)
    ≡ length (ids_below (length deps) (is_ready deps set))
count_successors deps set = length-map (ids_below (length deps) (is_ready deps set)) (with_id set)

-- the successor by an id is at the place that is the number of ready ids before it
pub successor_at : (deps : List ℕ) (set id k : ℕ) → id < length deps → is_ready deps set id ≡ true
    → k ≡ length (ids_below id (is_ready deps set)) → slice_index (successors_of deps set) k ≡ with_id set id
successor_at deps set id k inside passes k_is =
    let pass = is_ready deps set in
    ap (slice_index (successors_of deps set)) k_is
    ∙ (get_or-map (with_id set) (ids_below (length deps) pass) (length (ids_below id pass)) 0 0
    (fewer_before (length deps) pass id inside passes)
    ∙ ap (with_id set) (id_at (length deps) pass id inside passes))
