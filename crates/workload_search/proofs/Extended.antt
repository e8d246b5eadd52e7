-- The sequences of a level, made of the beginnings with one operation fewer.
use Rattle.std.proofs.Common.{◌≡◌, ℕ, zero, suc, get_or, ◌+◌, ◌*◌, ◌<◌, ◌≤◌, List, [], ◌∷◌, ◌++◌, length, map, refl}
use Rattle.std.proofs.Common.{sym, subst, ap, ◌∙◌, inl, inr, arith, length-append}
use Rattle.std.specs.Prelude.{◌↔◌, ◌⊎◌, slice_index_or}
use Rattle.std.proofs.lemmas.Bool.{cases_lt}
use Rattle.std.specs.List.{All, AllPairs, Contains, filter, range_with_len}
use Rattle.std.proofs.lemmas.List.{map-append}
use Rattle.std.proofs.lemmas.List.Elements.{All-append, All-contains, Contains-append_left, Contains-append_right}
use Rattle.std.proofs.lemmas.List.Elements.{Contains-append_cases}
use Rattle.std.proofs.lemmas.List.FromFn.{length-map-range_with_len}
use Rattle.std.proofs.lemmas.List.Kept.{AllPairs-filter}
use Rattle.patch_sets.proofs.Lists.{in_front, in_none}
use Rattle.question_model.specs.Sequences.{IsSequenceBefore}
use Rattle.question_model.specs.Workloads.{Search, IsBeginning, IsWorkload, Fails}
use Rattle.workload_search.specs.Tallies.{Tried, is_passing}
use Rattle.workload_search.specs.Tries.{extensions_of, extensions, passing_of}
use Rattle.workload_search.proofs.Counted.{places_of, IsRight, AreAllTried}
use Rattle.workload_search.proofs.Lists.{pairs_join, pairs_map, pairs_unmap, no_pairs, front_all, rest_pairs, in_map}
use Rattle.workload_search.proofs.Lists.{from_map, in_flat, from_flat, in_range, from_range, range_ascends, in_filter}
use Rattle.workload_search.proofs.Lists.{from_filter, all_from}
use Rattle.workload_search.proofs.Order.{before_pushed, before_last}
use Rattle.workload_search.proofs.Sequences.{IsTriedSequence, tried_workload, workload_tried}
use Rattle.workload_search.proofs.Verdicts as says

-- the sequences are all beginnings with this number of operations, in order
pub record AreBeginnings (s : Search) (number : ℕ) (fronts : List (List ℕ)) : Type 0 where
  pub ordered : AllPairs IsSequenceBefore fronts
  pub exactly : (front : List ℕ) → (Contains fronts front ↔ ((length front ≡ number) × IsBeginning s front))

-- the sequences are all that are tried with this number of operations, in order
pub record AreLevel (s : Search) (number : ℕ) (sequences : List (List ℕ)) : Type 0 where
  pub ordered : AllPairs IsSequenceBefore sequences
  pub exactly : (places : List ℕ)
      → (Contains sequences places ↔ ((length places ≡ number) × IsTriedSequence s places))

-- ---- extensions

pub length_extensions : (pool : ℕ) (fronts : List (List ℕ)) → length (extensions pool fronts) ≡ length fronts * pool
length_extensions pool [] = omega arith
length_extensions pool (front ∷ fronts) =
    length-append (extensions_of pool front) (extensions pool fronts)
    ∙ omega (arith, length-map-range_with_len (λ place. front ++ place ∷ []) 0 pool, length_extensions pool fronts)

in_extensions : (pool : ℕ) (fronts : List (List ℕ)) (front : List ℕ) (place : ℕ) → Contains fronts front → place < pool
    → Contains (extensions pool fronts) (front ++ place ∷ [])
in_extensions pool fronts front place there low = in_flat (extensions_of pool) fronts front (front ++ place ∷ []) there
    (in_map (λ place. front ++ place ∷ []) (range_with_len 0 pool) place (in_range pool place low))

pub record IsExtension (pool : ℕ) (fronts : List (List ℕ)) (places : List ℕ) : Type 0 where
  pub front : List ℕ
  pub there : Contains fronts front
  pub place : ℕ
  pub low : place < pool
  pub whole : front ++ place ∷ [] ≡ places

from_extensions : (pool : ℕ) (fronts : List (List ℕ)) (places : List ℕ) → Contains (extensions pool fronts) places
    → IsExtension pool fronts places
from_extensions pool fronts places is =
    let it = from_flat (extensions_of pool) fronts places is in
    let last = from_map (λ place. it.0 ++ place ∷ []) (range_with_len 0 pool) places it.2 in
    record {
      front = it.0;
      there = it.1;
      place = last.0;
      low = from_range pool last.0 last.1;
      whole = last.2;
    }

one_ordered : (pool : ℕ) (front : List ℕ) → AllPairs IsSequenceBefore (extensions_of pool front)
one_ordered pool front = pairs_map IsSequenceBefore (λ place. front ++ place ∷ []) (range_with_len 0 pool)
    (λ i j d less within. before_last front (get_or (range_with_len 0 pool) i d) (get_or (range_with_len 0 pool) j d)
    (range_ascends pool i j d less within))

extensions_ordered : (number pool : ℕ) (fronts : List (List ℕ)) → AllPairs IsSequenceBefore fronts
    → All (λ front. length front ≡ number) fronts → AllPairs IsSequenceBefore (extensions pool fronts)
extensions_ordered number pool [] up long = no_pairs IsSequenceBefore
extensions_ordered number pool (front ∷ fronts) up long =
    let rest_long : All (λ front. length front ≡ number) fronts = λ k d within. long (suc k) d (omega arith) in
    pairs_join IsSequenceBefore (extensions_of pool front) (extensions pool fronts) (one_ordered pool front)
    (extensions_ordered number pool fronts (rest_pairs IsSequenceBefore front fronts up) rest_long)
    (λ a b isa isb.
    let first = from_map (λ place. front ++ place ∷ []) (range_with_len 0 pool) a isa in
    let later = from_extensions pool fronts b isb in
    subst (λ x. IsSequenceBefore x b) first.2 (subst (IsSequenceBefore (front ++ first.0 ∷ [])) later.whole
    (before_pushed front later.front first.0 later.place
    (long zero front (omega arith)
    ∙ sym (All-contains (λ front. length front ≡ number) fronts later.front rest_long later.there))
    (All-contains (IsSequenceBefore front) fronts later.front (front_all IsSequenceBefore front fronts up)
    later.there))))

-- the beginnings, each followed by each operation, are the next level
pub next_level : (s : Search) (number : ℕ) (fronts : List (List ℕ)) → AreBeginnings s number fronts
    → AreLevel s (number + 1) (extensions (length s.pool) fronts)
next_level s number fronts are = record {
  ordered = extensions_ordered number (length s.pool) fronts are.ordered
      (all_from (λ front. length front ≡ number) fronts (λ front there. ((are.exactly front).0 there).0));
  exactly = λ places. (
    λ is.
        let it = from_extensions (length s.pool) fronts places is in
        let begins = (are.exactly it.front).0 it.there in (
          omega (arith, ap length it.whole, length-append it.front (it.place ∷ []), begins.0),
          record {
            front = it.front;
            place = it.place;
            whole = it.whole;
            beginning = begins.1;
            among = it.low;
          },
        ),
    λ is.
        let it = is.1 in
        let short : length it.front ≡ number =
        omega (arith, ap length it.whole, length-append it.front (it.place ∷ []), is.0) in
        subst (Contains (extensions (length s.pool) fronts)) it.whole
        (in_extensions (length s.pool) fronts it.front it.place
        ((are.exactly it.front).1 (short, it.beginning)) it.among),
  );
}

-- ---- the next beginnings

-- the sequences of a level that pass are the beginnings of the next
pub next_beginnings : (s : Search) (number : ℕ) (tried : List Tried) → number ≤ s.most → 0 < number
    → AreLevel s number (map places_of tried) → All (IsRight s) tried → AreBeginnings s number (passing_of tried)
next_beginnings s number tried low some level right = record {
  ordered = pairs_map IsSequenceBefore places_of (filter (λ t. is_passing t.verdict) tried)
      (AllPairs-filter (λ a b. IsSequenceBefore a.places b.places) (λ t. is_passing t.verdict) tried
      (pairs_unmap IsSequenceBefore places_of tried level.ordered));
  exactly = λ front. (
    λ is.
        let it = from_map places_of (filter (λ t. is_passing t.verdict) tried) front is in
        let kept = from_filter (λ t. is_passing t.verdict) tried it.0 it.1 in
        let inside = (level.exactly it.0.places).0 (in_map places_of tried it.0 kept.0) in
        let passes = says.passing s it.0.places it.0.verdict
        (All-contains (IsRight s) tried it.0 right kept.0) kept.1 in
        subst (λ (xs : List ℕ). (length xs ≡ number) × IsBeginning s xs) it.2 (
          inside.0,
          inr (tried_workload s it.0.places inside.1 (omega (arith, inside.0, low)) passes.0, passes.1),
        ),
    λ is. elim is.1 [
      | inl none ↦ absurd (omega (arith, ap length none, is.0, some))
      | inr w ↦
          let it = from_map places_of tried front ((level.exactly front).1 (is.0, workload_tried s front w.0)) in
          subst (Contains (passing_of tried)) it.2
          (in_map places_of (filter (λ t. is_passing t.verdict) tried) it.0
          (in_filter (λ t. is_passing t.verdict) tried it.0 it.1
          (says.passing_back s it.0.places it.0.verdict (All-contains (IsRight s) tried it.0 right it.1)
          (subst (λ (xs : List ℕ). IsWorkload s xs) (sym it.2) w.0).accepted
          (subst (λ (xs : List ℕ). ¬ (Fails s xs)) (sym it.2) w.1))))
    ],
  );
}

-- the empty sequence is the only one without operations
pub first_beginnings : (s : Search) → AreBeginnings s 0 ([] ∷ [])
first_beginnings s = record {
  ordered = λ i j d less within. absurd (omega arith);
  exactly = λ front. (
    λ is. by front (All-contains (λ (x : List ℕ). x ≡ []) ([] ∷ []) front (λ k d within. only k d (omega arith)) is),
    λ is. back front is.0,
  );
}
  where
    only : (k : ℕ) (d : List ℕ) → k ≡ 0 → slice_index_or ([] ∷ []) k d ≡ []
    only k d e = subst (λ (n : ℕ). slice_index_or ([] ∷ []) n d ≡ []) (sym e) refl

    by : (front : List ℕ) → front ≡ [] → (length front ≡ 0) × IsBeginning s front
    by front e = (ap length e, inl e)

    back : (front : List ℕ) → length front ≡ 0 → Contains ([] ∷ []) front
    back [] e = in_front [] []
    back (x ∷ xs) e = absurd (omega arith)

-- ---- the levels together

pub no_levels : (s : Search) → AreAllTried s 0 []
no_levels s = record {
  ordered = no_pairs IsSequenceBefore;
  exactly = λ places. (
    λ is. absurd (in_none places is),
    λ is. absurd (let it = is.0 in let short = is.1 in
        omega (arith, ap length it.whole, length-append it.front (it.place ∷ []))),
  );
  right = λ k d within. absurd (omega arith);
}

pub one_level_more : (s : Search) (number : ℕ) (tried more : List Tried) → AreAllTried s number tried
    → AreLevel s (number + 1) (map places_of more) → All (IsRight s) more → AreAllTried s (number + 1) (tried ++ more)
one_level_more s number tried more all level right = record {
  ordered = subst (AllPairs IsSequenceBefore) (sym (map-append places_of tried more))
      (pairs_join IsSequenceBefore (map places_of tried) (map places_of more) all.ordered level.ordered
      (λ a b isa isb. inl (
      let low = ((all.exactly a).0 isa).1 in let high = ((level.exactly b).0 isb).0 in omega arith
      )));
  exactly = λ places. (
    λ is. elim (Contains-append_cases (map places_of tried) (map places_of more) places
        (subst (λ (xs : List (List ℕ)). Contains xs places) (map-append places_of tried more) is)) [
          | inl early ↦ let it = (all.exactly places).0 early in (it.0, omega (arith, it.1))
          | inr late ↦ let it = (level.exactly places).0 late in (it.1, omega (arith, it.0))
        ],
    λ is. subst (λ (xs : List (List ℕ)). Contains xs places) (sym (map-append places_of tried more))
        (elim (split (length places) number is.1) [
          | inl low ↦ Contains-append_left (map places_of tried) (map places_of more) places
              ((all.exactly places).1 (is.0, low))
          | inr high ↦ Contains-append_right (map places_of tried) (map places_of more) places
              ((level.exactly places).1 (high, is.0))
        ]),
  );
  right = All-append (IsRight s) tried more all.right right;
}
  where
    split : (a b : ℕ) → a ≤ b + 1 → (a ≤ b) ⊎ (a ≡ b + 1)
    split a b low = elim (cases_lt b a) [ inl more ↦ inr (omega arith) | inr less ↦ inl less ]
