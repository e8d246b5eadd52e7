-- The ready ids of a closed set, which come one by one from what is left of the ids outside it.
use Rattle.std.proofs.Common.{◌≡◌, ◌≢◌, ℕ, zero, suc, ◌+◌, ◌-◌, ◌<◌, ◌≤◌, Bool, true, false, List, length, arith, refl}
use Rattle.std.proofs.Common.{sym, subst, ap, ◌∙◌, inl, inr}
use Rattle.std.specs.Prelude.{◌↔◌, slice_index, bit_and}
use Rattle.std.specs.Int.{bit_at}
use Rattle.std.proofs.lemmas.List.{length-map}
use Rattle.std.proofs.lemmas.Nat.{and_le_l}
use Rattle.std.proofs.lemmas.Nat.Bits.{bit_at_and, bit_at-lt}
use Rattle.patch_sets.specs.Sets.{Has, with_id, ids_below}
use Rattle.patch_sets.specs.Closed.{AreEarlier, IsClosed}
use Rattle.patch_sets.specs.Ready.{IsReady, is_ready, successors_of}
use Rattle.patch_sets.specs.Ends.{IsLowest, IsDifference}
use Rattle.patch_sets.proofs.Bits.{eq_or_not, none_in_empty}
use Rattle.patch_sets.proofs.Ids.{fewer_before}
use Rattle.patch_sets.proofs.Successors.{ready_from_test, test_from_ready}
use Rattle.crash_model.specs.declared.patches.Patch.{Patch}
use Rattle.crash_model.specs.Patches.{deps_of}
use Rattle.patch_graph.specs.Independent.{AreIndependent}
use Rattle.patch_graph.specs.Fronts.{Leaves}
use Rattle.patch_graph.proofs.Independent.{inside_apart}
use Rattle.patch_graph.proofs.Steps.{count_one, count_skip, count_successors, successor_at}

pub in_and : (a b id : ℕ) → Has a id → Has b id → Has (bit_and a b) id
in_and a b id one two = omega (arith, bit_at_and a b id, one, two)

pub from_and : (a b id : ℕ) → Has (bit_and a b) id → Has a id × Has b id
from_and a b id is =
    let both = bit_at_and a b id in
    let low = bit_at-lt a id in
    let other = bit_at-lt b id in
    (omega (arith, both, low, other, is), omega (arith, both, low, other, is))

-- fewer are left without an id
pub fewer_left : (front mask p : ℕ) → Has front p → ¬ (Has mask p) → bit_and front mask < front
fewer_left front mask p is gone =
    let le = and_le_l front mask in
    let ne : bit_and front mask ≢ front = λ e. gone (from_and front mask p (subst (λ s. Has s p) (sym e) is)).1 in
    omega (arith, le, ne)

-- as many ids pass below two numbers, where none between passes
skip : (pass : ℕ → Bool) (from gap : ℕ) → ((q : ℕ) → from ≤ q → q < from + gap → pass q ≡ false)
    → length (ids_below (from + gap) pass) ≡ length (ids_below from pass)
skip pass from zero none = let same : from + zero ≡ from = omega arith in ap (λ n. length (ids_below n pass)) same
skip pass from (suc gap) none =
    let next : from + suc gap ≡ (from + gap) + 1 = omega arith in
    ap (λ n. length (ids_below n pass)) next
    ∙ (count_skip (from + gap) pass (none (from + gap) (omega arith) (omega arith))
    ∙ skip pass from gap (λ q low high. none q low (omega (arith, high))))

none_between : (pass : ℕ → Bool) (from to : ℕ) → from ≤ to → ((q : ℕ) → from ≤ q → q < to → pass q ≡ false)
    → length (ids_below to pass) ≡ length (ids_below from pass)
none_between pass from to le none =
    let whole : from + (to - from) ≡ to = omega (arith, le) in
    ap (λ n. length (ids_below n pass)) (sym whole) ∙ skip pass from (to - from)
    (λ q low high. none q low (omega (arith, high, whole)))

module _ (deps : List ℕ) (set : ℕ) (earlier : AreEarlier deps) where
  pub leaves_start : (front : ℕ) → ((id : ℕ) → Has front id ↔ ((id < length deps) × ¬ (Has set id)))
      → Leaves deps set front 0
  leaves_start front outside = record {
    from = 0;
    within = omega arith;
    few = omega arith;
    is = record {
      known = λ q is. (outside q).0 is;
      whole = λ q d is dep. elim (eq_or_not (bit_at set d) 1) [
        | inl has ↦ inl has
        | inr lacks ↦ inr ((outside d).1 (
          let near = (outside q).0 is in let less = earlier q d dep in
              omega (arith, near.0, less),
          lacks,
        ))
      ];
      above = λ q is. omega arith;
      every = λ q low ready. (outside q).1 (ready.known, ready.outside);
    };
    counted = refl;
  }

  module _ (front count : ℕ) (leaves : Leaves deps set front count) where
    not_ready : (q : ℕ) → q < length deps → (IsReady deps set q → ⊥) → is_ready deps set q ≡ false
    not_ready q known never = by_cases (is_ready deps set q) refl
      where
        by_cases : (b : Bool) → is_ready deps set q ≡ b → is_ready deps set q ≡ false
        by_cases true e = absurd (never (ready_from_test deps set q known e))
        by_cases false e = e

    module _ (p : ℕ) (low : IsLowest front p) where
      pub lowest_known : p < length deps
      lowest_known = (leaves.is.known p low.inside).0

      lowest_ready : IsReady deps set p
      lowest_ready = record {
        known = lowest_known;
        outside = (leaves.is.known p low.inside).1;
        depended = λ d dep. elim (leaves.is.whole p d low.inside dep) [
          | inl has ↦ has
          | inr left ↦ let less = earlier p d dep in let least = low.least d left in absurd (omega (arith, less, least))
        ];
      }

      pub lowest_passes : is_ready deps set p ≡ true
      lowest_passes = test_from_ready deps set p lowest_ready

      pub before_lowest : count ≡ length (ids_below p (is_ready deps set))
      before_lowest = leaves.counted ∙ sym (none_between (is_ready deps set) leaves.from p
          (leaves.is.above p low.inside)
          (λ q from less. not_ready q (let near = lowest_known in omega (arith, near, less))
          (λ ready. let least = low.least q (leaves.is.every q from ready) in omega (arith, least, less))))

      pub lowest_successor : slice_index (successors_of deps set) count ≡ with_id set p
      lowest_successor = successor_at deps set p count lowest_known lowest_passes before_lowest

      pub lowest_comes : count < length (successors_of deps set)
      lowest_comes = omega (
        arith,
        before_lowest,
        count_successors deps set,
        fewer_before (length deps) (is_ready deps set) p lowest_known lowest_passes,
      )

      pub leaves_next : (independent : List ℕ) → AreIndependent deps independent → IsClosed deps set
          → Leaves deps set (bit_and front (slice_index independent p)) (count + 1)
      leaves_next independent are closed =
          let mask = slice_index independent p in
          let other : (q : ℕ) → Has mask q → p ≢ q = λ q has e. are.itself p lowest_known
          (subst (Has mask) (sym e) has) in
          let from = leaves.is.above p low.inside in
          record {
            from = p + 1;
            within = let near = lowest_known in omega (arith, near);
            few = let few = leaves.few in omega (arith, few, from);
            is = record {
              known = λ q is. leaves.is.known q (from_and front mask q is).0;
              whole = λ q d is dep. let both = from_and front mask q is in elim (leaves.is.whole q d both.0 dep) [
                | inl has ↦ inl has
                | inr left ↦ inr (in_and front mask d left ((are.exactly p q lowest_known (leaves.is.known q both.0).0
                    (other q both.1)).0 both.1 d dep))
              ];
              above = λ q is. let both = from_and front mask q is in let least = low.least q both.0 in
                  let ne = other q both.1 in omega (arith, least, ne);
              every = λ q past ready. in_and front mask q (leaves.is.every q (omega (arith, past, from)) ready)
                  (let ne : p ≢ q = λ e. omega (arith, e, past) in
                  (are.exactly p q lowest_known ready.known ne).1
                  (λ d dep. inside_apart deps independent are earlier set p closed lowest_known
                  (leaves.is.known p low.inside).1 d (ready.depended d dep)));
            };
            counted = ap (λ n. n + 1) before_lowest ∙ sym (count_one p (is_ready deps set) lowest_passes);
          }

      -- fewer are left without it and the ids that depend on it
      pub lowest_fewer : (independent : List ℕ) → AreIndependent deps independent
          → bit_and front (slice_index independent p) < front
      lowest_fewer independent are =
          fewer_left front (slice_index independent p) p low.inside (are.itself p lowest_known)

    -- where none is left, all ready ids have come
    pub leaves_all : front ≡ 0 → count ≡ length (successors_of deps set)
    leaves_all none =
        let rest : length (ids_below (length deps) (is_ready deps set))
        ≡ length (ids_below leaves.from (is_ready deps set)) =
        none_between (is_ready deps set) leaves.from (length deps) leaves.within
        (λ q from known. not_ready q known (λ ready. none_in_empty q
        (subst (λ f. Has f q) none (leaves.is.every q from ready)))) in
        leaves.counted ∙ (sym rest ∙ sym (count_successors deps set))

-- at first those are left that are outside the set
pub leaves_outside : (patches : List Patch) (set ids front : ℕ) → AreEarlier (deps_of patches)
    → ((id : ℕ) → Has ids id ↔ (id < length patches)) → IsDifference ids set front
    → Leaves (deps_of patches) set front 0
leaves_outside patches set ids front earlier all difference =
    let long : length (deps_of patches) ≡ length patches = length-map patches (λ p. p.deps) in
    leaves_start (deps_of patches) set earlier front (λ id. (
      λ is. let it = (difference.exactly id).0 is in let low = (all id).0 it.0 in (omega (arith, low, long), it.1),
      λ it. (difference.exactly id).1 ((all id).1 (omega (arith, it.0, long)), it.1),
    ))
