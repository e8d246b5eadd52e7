-- The run of consecutive ids that a set begins with.
use Rattle.std.proofs.Common.{◌≡◌, ◌≢◌, ℕ, ◌+◌, ◌-◌, ◌^◌, ◌<◌, ◌≤◌, ◌++◌, arith, refl, sym, subst, ap, ◌∙◌, inl, inr}
use Rattle.std.specs.Prelude.{◌↔◌, bit_and, bit_or}
use Rattle.std.specs.Int.{bit_at, bit_not, w128}
use Rattle.std.specs.Int.Count.{count_trailing_zeros}
use Rattle.std.specs.List.{range_with_len, AllPairs, Contains}
use mathlib.Core.Logic.{dite}
use native.Mathlib.Decide.{ℕ_discrete}
use Rattle.std.proofs.lemmas.Bool.{cases_lt}
use Rattle.std.proofs.lemmas.List.Elements.{Contains-append_cases, Contains-append_left, Contains-append_right}
use Rattle.std.proofs.lemmas.List.FromFn.{length-range_with_len, get_or-range_with_len}
use Rattle.std.proofs.lemmas.Nat.{and_le_r, or_lt}
use Rattle.std.proofs.lemmas.Nat.Bits.{bit_at_and, bit_at_or, bit_at_not, bit_at-lt, bit_at_ones}
use Rattle.patch_sets.specs.Sets.{Has, has, ids_of}
use Rattle.patch_sets.specs.Ends.{IsLowest, IsDifference}
use Rattle.patch_sets.specs.Iter.{most_ids}
use Rattle.patch_sets.specs.Leading.{ComesBefore, BeginsWith}
use Rattle.patch_sets.proofs.Bits.{eq_or_not, none_in_empty, below_from_small, and_from_subset}
use Rattle.patch_sets.proofs.Ids.{from_ids_of, to_ids_of, ids_ascend}
use Rattle.patch_sets.proofs.Lists.{one_ascending, pairs_append}
use Rattle.patch_sets.proofs.LowestHighest.{lowest_id, one_less, zero_bit}

-- ---- what a run and the rest of a set list

range_ascends : (from count : ℕ) → AllPairs (λ x y. x < y) (range_with_len from count)
range_ascends from count i j d before within =
    let long = length-range_with_len from count in
    let low = get_or-range_with_len from count i d (omega (arith, before, within, long)) in
    let high = get_or-range_with_len from count j d (omega (arith, within, long)) in
    omega (arith, low, high, before)

from_range : (from count id : ℕ) → Contains (range_with_len from count) id → (from ≤ id) × (id < from + count)
from_range from count id (k, within, is) =
    let long = length-range_with_len from count in
    let at = get_or-range_with_len from count k id (omega (arith, within, long)) in
    (omega (arith, at, is), omega (arith, at, is, within, long))

to_range : (from count id : ℕ) → from ≤ id → id < from + count → Contains (range_with_len from count) id
to_range from count id low high =
    let long = length-range_with_len from count in
    let at = get_or-range_with_len from count (id - from) id (omega arith) in
    (id - from, omega (arith, long), at ∙ (let e : from + (id - from) ≡ id = omega arith in e))

-- the ids of a run and the ids from its end on
pub run_and_rest : (n from end set rest : ℕ) → from ≤ end → end ≤ n → ((id : ℕ) → from ≤ id → id < end → Has set id)
    → ((id : ℕ) → Has set id → from ≤ id)
    → ((id : ℕ) → Has rest id ↔ (Has set id × (end ≤ id)))
    → ids_of n set ≡ range_with_len from (end - from) ++ ids_of n rest
run_and_rest n from end set rest ordered within all least others =
    one_ascending (ids_of n set) (range_with_len from (end - from) ++ ids_of n rest)
    (ids_ascend n (has set))
    (pairs_append (λ x y. x < y) (range_with_len from (end - from)) (ids_of n rest) (range_ascends from (end - from))
    (ids_ascend n (has rest))
    (λ x y a b.
    let low = from_range from (end - from) x a in
    let high = (others y).0 (from_ids_of n rest y b).1 in
    omega (arith, low.1, high.1, ordered)))
    (λ z is. let it = from_ids_of n set z is in elim (cases_lt z end) [
      | inl early ↦ Contains-append_left (range_with_len from (end - from)) (ids_of n rest) z
          (to_range from (end - from) z (least z it.1) (omega arith))
      | inr late ↦ Contains-append_right (range_with_len from (end - from)) (ids_of n rest) z
          (to_ids_of n rest z it.0 ((others z).1 (it.1, late)))
    ])
    (λ z is. elim (Contains-append_cases (range_with_len from (end - from)) (ids_of n rest) z is) [
      | inl early ↦ let it = from_range from (end - from) z early in
          to_ids_of n set z (omega (arith, it.1, ordered, within)) (all z it.0 (omega (arith, it.1, ordered)))
      | inr late ↦ let it = from_ids_of n rest z late in to_ids_of n set z it.0 ((others z).0 it.1).0
    ])

-- ---- `!set & (set - 1)`, with all ones for one less than 0

module _ (set less id : ℕ) (small : set < 2 ^ 128) (inside : id < 128) where
  both : bit_at set id ≡ 0 → bit_at less id ≡ 1 → Has (bit_and (bit_not w128 set) less) id
  both out is =
      let t = bit_at_and (bit_not w128 set) less id in
      let flipped = bit_at_not w128 set id small inside in
      omega (arith, t, flipped, out, is)

  either : Has (bit_and (bit_not w128 set) less) id → (bit_at set id ≡ 0) × (bit_at less id ≡ 1)
  either is =
      let t = bit_at_and (bit_not w128 set) less id in
      let flipped = bit_at_not w128 set id small inside in
      let a = bit_at-lt set id in
      let b = bit_at-lt less id in
      (omega (arith, t, flipped, is, a, b), omega (arith, t, flipped, is, a, b))

less_than_both : (a b id : ℕ) → Has (bit_and a b) id → Has b id
less_than_both a b id is = let t = bit_at_and a b id in let x = bit_at-lt a id in let y = bit_at-lt b id in
    omega (arith, t, x, y, is)

before_lowest : (set low id : ℕ) → IsLowest set low → ComesBefore set id ↔ (id < low)
before_lowest set low id lowest = (
  λ before. before low lowest.inside,
  λ less other is. let least =
      lowest.least other is in omega (arith, less, least),
)

pub below_ids : (set less : ℕ) → set < 2 ^ 128 → less < 2 ^ 128 → (set ≡ 0 → less ≡ 2 ^ 128 - 1)
    → (set ≢ 0 → less ≡ set - 1) → (id : ℕ)
    → Has (bit_and (bit_not w128 set) less) id ↔ ((id < 128) × ComesBefore set id)
below_ids set less small fits of_none of_some id = elim (eq_or_not set 0) [
  | inl none ↦ (
    λ is. (inside is, λ other has_it. absurd (none_in_empty other (subst (λ s. Has s other) none has_it))),
    λ it. both set less id small it.0 (zero_bit set id (λ has_it. none_in_empty id (subst (λ s. Has s id) none has_it)))
        (ap (λ (n : ℕ). bit_at n id) (of_none none) ∙ bit_at_ones 128 id it.0),
  )
  | inr some ↦
      let lowest = lowest_id set some small in
      let bits = one_less set _ lowest in
      let same : (q : ℕ) → bit_at less q ≡ bit_at (set - 1) q = λ q. ap (λ (n : ℕ). bit_at n q) (of_some some) in (
        λ is. (inside is, (before_lowest set _ id lowest).1 (under _ lowest bits.gone bits.above same is)),
        λ it. let early = (before_lowest set _ id lowest).0 it.1 in
            both set less id small it.0 (zero_bit set id (λ has_it. let again = it.1 id has_it in omega (arith, again)))
            (same id ∙ bits.below id early),
      )
]
  where
    inside : Has (bit_and (bit_not w128 set) less) id → id < 128
    inside is = below_from_small less 128 id fits (less_than_both (bit_not w128 set) less id is)

    under : (low : ℕ) → IsLowest set low → bit_at (set - 1) low ≡ 0
        → ((q : ℕ) → low < q → bit_at (set - 1) q ≡ bit_at set q) → ((q : ℕ) → bit_at less q ≡ bit_at (set - 1) q)
        → Has (bit_and (bit_not w128 set) less) id → id < low
    under low lowest gone above same is =
        let it = either set less id small (inside is) is in
        let one = same id in
        elim (cases_lt id low) [
          | inl less_it ↦ less_it
          | inr more ↦ elim (eq_or_not id low) [
            | inl e ↦ absurd (let zero_here : bit_at (set - 1) id ≡ 0 = ap (λ (q : ℕ). bit_at (set - 1) q) e ∙ gone in
                omega (arith, zero_here, one, it.1))
            | inr ne ↦ absurd (let still = above id (omega (arith, more, ne)) in omega (arith, still, one, it.0, it.1))
          ]
        ]

-- ---- the run that a set begins with

-- the lowest id of the gaps after a run, 128 if there is none
pub record IsEnd (gaps end : ℕ) : Type 0 where
  pub within : end ≤ 128
  pub least : (id : ℕ) → Has gaps id → end ≤ id
  pub here : end < 128 → Has gaps end

all_zeros : count_trailing_zeros 128 0 ≡ 128
unfolding count_trailing_zeros
all_zeros = refl

pub end_of : (gaps : ℕ) → gaps < 2 ^ 128 → IsEnd gaps (count_trailing_zeros 128 gaps)
end_of gaps small = elim (eq_or_not gaps 0) [
  | inl none ↦
      let whole : count_trailing_zeros 128 gaps ≡ 128 = ap (count_trailing_zeros 128) none ∙ all_zeros in
      record {
        within = omega (arith, whole);
        least = λ id is. absurd (none_in_empty id (subst (λ s. Has s id) none is));
        here = λ less. absurd (omega (arith, whole, less));
      }
  | inr some ↦
      let lowest = lowest_id gaps some small in
      let less = below_from_small gaps 128 _ small lowest.inside in
      record { within = omega (arith, less); least = lowest.least; here = λ inside. lowest.inside }
]

-- the ids above the lowest that the set hasn't
pub are_gaps : (set low below : ℕ) → IsLowest set low → set < 2 ^ 128 → below < 2 ^ 128
    → ((id : ℕ) → Has below id ↔ ((id < 128) × ComesBefore set id)) → (id : ℕ) → id < 128
    → Has (bit_not w128 (bit_or set below)) id ↔ ((Has set id → ⊥) × (low ≤ id))
are_gaps set low below lowest small fits each id inside =
    let flipped = bit_at_not w128 (bit_or set below) id (or_lt 128 set below small fits) inside in
    let joined = bit_at_or set below id in
    let a = bit_at-lt set id in
    let b = bit_at-lt below id in (
      λ is.
          let out : bit_at below id ≡ 0 = omega (arith, flipped, joined, a, b, is) in (
            (λ has_it. omega (arith, flipped, joined, a, b, is, has_it)),
            elim (cases_lt id low) [
              | inl less ↦ absurd (let there = (each id).1 (inside, (before_lowest set low id lowest).1 less) in
                  omega (arith, out, there))
              | inr more ↦ more
            ],
          ),
      λ it.
          let not_below : bit_at below id ≡ 0 = zero_bit below id
          (λ is. let less = (before_lowest set low id lowest).0 ((each id).0 is).1 in omega (arith, less, it.1)) in
          let not_set : bit_at set id ≡ 0 = zero_bit set id it.0 in
          omega (arith, flipped, joined, not_below, not_set),
    )

all_words : (end : ℕ) → end ≤ 128 → end ≤ most_ids
unfolding most_ids
all_words end within = within

module _ (set low gaps end below rest : ℕ) (lowest : IsLowest set low) (small : set < 2 ^ 128)
    (gap : (id : ℕ) → id < 128 → Has gaps id ↔ ((Has set id → ⊥) × (low ≤ id))) (is_end : IsEnd gaps end)
    (before_gaps : (id : ℕ) → Has below id ↔ ((id < 128) × ComesBefore gaps id))
    (others : IsDifference set below rest) where
  within_words : (id : ℕ) → Has set id → id < 128
  within_words id is = below_from_small set 128 id small is

  -- the run goes on as far as it can
  pub not_longer : Has set end → ⊥
  not_longer is = let inside = within_words end is in ((gap end inside).0 (is_end.here inside)).0 is

  pub run_some : low < end
  run_some = elim (cases_lt low end) [
    | inl less ↦ less
    | inr more ↦ absurd (let inside : end < 128 = (let low_in = within_words low lowest.inside in
        omega (arith, low_in, more)) in
        let it = (gap end inside).0 (is_end.here inside) in
        it.0 (subst (Has set) (let e : low ≡ end = omega (arith, it.1, more) in e) lowest.inside))
  ]

  pub run_whole : (id : ℕ) → low ≤ id → id < end → Has set id
  run_whole id from less = dite (ℕ_discrete (bit_at set id) 1) (λ is. is) (λ no. absurd (
      let past = is_end.least id ((gap id (let within = is_end.within in omega (arith, within, less))).1 (no, from)) in
      omega (arith, past, less)))

  pub rest_ids : (id : ℕ) → Has rest id ↔ (Has set id × (end ≤ id))
  rest_ids id = (
    λ is. let it = (others.exactly id).0 is in (
      it.0,
      elim (cases_lt id end) [
        | inl less ↦ absurd (it.1 ((before_gaps id).1 (
          within_words id it.0,
          λ other is_gap. let past =
              is_end.least other is_gap in omega (arith, past, less),
        )))
        | inr more ↦ more
      ],
    ),
    λ it. (others.exactly id).1 (
      it.0,
      λ is.
          let inside = within_words id it.0 in
          let early = ((before_gaps id).0 is).1 end (is_end.here (omega (arith, inside, it.1))) in
          omega (arith, early, it.1),
    ),
  )

  pub rest_smaller : rest < set
  rest_smaller =
      let part : bit_and rest set ≡ rest = and_from_subset rest set (λ id is. ((rest_ids id).0 is).0) in
      let less = and_le_r rest set in
      let other : rest ≢ set = λ e. (let back = (rest_ids low).0 (subst (λ s. Has s low) (sym e) lowest.inside) in
      let some = run_some in omega (arith, back.1, some)) in
      omega (arith, part, less, other)

  pub run_listed : ids_of most_ids set ≡ range_with_len low (end - low) ++ ids_of most_ids rest
  run_listed = run_and_rest most_ids low end set rest (let some = run_some in omega (arith, some))
      (all_words end is_end.within) run_whole lowest.least rest_ids

  pub is_run : BeginsWith set record { from = low; end = end; rest = rest }
  is_run = record {
    ordered = run_some;
    within = is_end.within;
    ids = run_listed;
    smaller = rest_smaller;
    longest = not_longer;
  }
