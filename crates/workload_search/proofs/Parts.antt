-- The parts of a level, joined in order.
use Rattle.std.proofs.Common.{◌≡◌, ℕ, zero, suc, ◌+◌, ◌*◌, ◌/◌, ◌%◌, ◌<◌, ◌≤◌, ◌^◌, min, List, [], ◌∷◌, ◌++◌}
use Rattle.std.proofs.Common.{length, map, take, get_or, Bool, Result, Ok, IfOk, refl, sym, subst, ap, ◌∙◌}
use Rattle.std.proofs.Common.{arith, suc-mul, zero-mul, mul-le-mul_right, append-nil, append_assoc, length-append}
use Rattle.std.proofs.Common.{take-add, take_all, length-take}
use Rattle.std.specs.Fork.{slice_chunk}
use Rattle.std.proofs.Math.Nat.{mod-lt}
use Rattle.std.proofs.lemmas.List.{map-append, take_more, length-map, get_or_at}
use Rattle.std.proofs.lemmas.List.Concat.{flat_map-append}
use Rattle.std.proofs.lemmas.List.FromFn.{length-map-range_with_len, map-range_with_len_more}
use Rattle.std.proofs.lemmas.Nat.{div-add-mod'}
use Rattle.arrayvec.specs.ArrayVec.{ArrayVec}
use Rattle.question_model.specs.Workloads.{Search}
use Rattle.workload_search.specs.Tries.{IsBatch, BatchHasRoom, HaveRoomFor, ArePartsOf, extensions_of}
use Rattle.workload_search.specs.Tries.{extensions, items_of}
use Rattle.workload_search.specs.declared.batch.Batch.{Batch}
use Rattle.workload_search.proofs.Extended.{length_extensions}

-- ---- extensions of more beginnings

pub extensions_join : (pool : ℕ) (xs ys : List (ArrayVec ℕ)) → extensions pool (map items_of (xs ++ ys))
    ≡ extensions pool (map items_of xs) ++ extensions pool (map items_of ys)
extensions_join pool xs ys =
    ap (extensions pool) (map-append items_of xs ys)
    ∙ flat_map-append (extensions_of pool) (map items_of xs) (map items_of ys)

append_none : (pool : ℕ) (x : List ℕ) → extensions pool (x ∷ []) ≡ extensions_of pool x
append_none pool x = append-nil (extensions_of pool x)

-- one beginning more
pub extensions_more : (pool : ℕ) (xs : List (ArrayVec ℕ)) (i : ℕ) (d : ArrayVec ℕ) → i < length xs
    → extensions pool (map items_of (take (i + 1) xs))
    ≡ extensions pool (map items_of (take i xs)) ++ extensions_of pool (get_or xs i d).items
extensions_more pool xs i d within =
    ap (λ (ys : List (ArrayVec ℕ)). extensions pool (map items_of ys)) (take_more xs i d within)
    ∙ (extensions_join pool (take i xs) (get_or xs i d ∷ [])
    ∙ ap (λ (es : List (List ℕ)). extensions pool (map items_of (take i xs)) ++ es)
    (append_none pool (get_or xs i d).items))

-- one more operation after a beginning
pub places_more : (sequences : List (List ℕ)) (front : List ℕ) (n : ℕ)
    → (sequences ++ extensions_of n front) ++ (front ++ n ∷ []) ∷ [] ≡ sequences ++ extensions_of (n + 1) front
places_more sequences front n =
    append_assoc sequences (extensions_of n front) ((front ++ n ∷ []) ∷ [])
    ∙ ap (λ (es : List (List ℕ)). sequences ++ es)
    (sym (map-range_with_len_more (λ place. front ++ place ∷ []) 0 n n (omega arith)))

-- one more can be counted
pub one_room : {A : Type 0} (s : Search) (keeps : Bool) (pool : ℕ) (sequences : List (List ℕ)) (front : List ℕ) (n : ℕ)
    (batch : Batch A) → IsBatch s keeps (sequences ++ extensions_of n front) batch → n < pool
    → length sequences + pool < 2 ^ 128 → BatchHasRoom s keeps 1 batch
one_room s keeps pool sequences front n batch is low room = record {
  sequences = sequences ++ extensions_of n front;
  is = is;
  room = omega (
    arith,
    length-append sequences (extensions_of n front),
    length-map-range_with_len (λ place. front ++ place ∷ []) 0 n,
  );
}

-- ---- parts of a number of beginnings

module _ (xs : List (ArrayVec ℕ)) (size : ℕ) where
  one_more : (n : ℕ) → (n + 1) * size ≡ n * size + size
  one_more n = let next : n + 1 ≡ suc n = omega arith in ap (λ (k : ℕ). k * size) next ∙ suc-mul n size

  -- the parts reach over all
  cover : (count : ℕ) → 0 < size → count ≡ length xs / size + min 1 (length xs % size) → length xs ≤ count * size
  cover count some number = by_rest (length xs % size) refl
    where
      by_rest : (r : ℕ) → length xs % size ≡ r → length xs ≤ count * size
      by_rest zero e =
          let number_is : count ≡ length xs / size = omega (arith, number, e) in
          omega (arith, div-add-mod' (length xs) size, e, ap (λ (k : ℕ). k * size) number_is)
      by_rest (suc r) e =
          let number_is : count ≡ length xs / size + 1 = omega (arith, number, e) in
          omega (
            arith,
            div-add-mod' (length xs) size,
            mod-lt (length xs) some,
            ap (λ (k : ℕ). k * size) number_is,
            one_more (length xs / size),
          )

  -- the parts before the first are none
  before_first : take (0 * size) xs ≡ []
  before_first = ap (λ (k : ℕ). take k xs) (zero-mul size)

  -- what is before a part, and the part
  before_and_part : (n : ℕ) → take (n * size) xs ++ slice_chunk xs size n ≡ take ((n + 1) * size) xs
  before_and_part n = sym (ap (λ (k : ℕ). take k xs) (one_more n) ∙ take-add (n * size) size xs)

  -- the extensions of what is before a part and of the part
  extensions_before : (pool n : ℕ) → extensions pool (map items_of (take (n * size) xs))
      ++ extensions pool (map items_of (slice_chunk xs size n))
      ≡ extensions pool (map items_of (take ((n + 1) * size) xs))
  extensions_before pool n =
      sym (extensions_join pool (take (n * size) xs) (slice_chunk xs size n))
      ∙ ap (λ (ys : List (ArrayVec ℕ)). extensions pool (map items_of ys)) (before_and_part n)

before_long : (pool : ℕ) (xs : List (ArrayVec ℕ)) (k : ℕ)
    → length (extensions pool (map items_of (take k xs))) ≤ length xs * pool
before_long pool xs k =
    let few : length (take k xs) ≤ length xs = omega (arith, length-take k xs) in
    omega (
      arith,
      length_extensions pool (map items_of (take k xs)),
      ap (λ n. n * pool) (length-map (take k xs) items_of),
      mul-le-mul_right pool few,
    )

-- ---- what is found of the parts

-- what is found of the part of that number
abbrev pub IsPart : {A : Type 0} → Search → Bool → ℕ → List (ArrayVec ℕ) → ℕ → ℕ → Batch A → Type 0
IsPart s keeps pool xs size n batch = IsBatch s keeps (extensions pool (map items_of (slice_chunk xs size n))) batch

-- what is found of the parts before the one of that number
abbrev pub AreBefore : {A : Type 0} → Search → Bool → ℕ → List (ArrayVec ℕ) → ℕ → ℕ → Batch A → Type 0
AreBefore s keeps pool xs size n batch = IsBatch s keeps (extensions pool (map items_of (take (n * size) xs))) batch

module _ {A : Type 0} (s : Search) (keeps : Bool) (pool : ℕ) (xs : List (ArrayVec ℕ)) (size : ℕ) where
  -- a part comes after those before it
  pub part_found : {E : Type 0} (all before after : List (Result (Batch A) E)) (one : Result (Batch A) E)
      (part : Batch A) → ArePartsOf s keeps pool xs size all → before ++ one ∷ after ≡ all → one ≡ Ok part
      → IsPart s keeps pool xs size (length before) part
  part_found {E = E} all before after one part are whole ok =
      let n = length before in
      let within : n < length all = omega (arith, ap length whole, length-append before (one ∷ after)) in
      let here : get_or all n one ≡ one = ap (λ (ys : List (Result (Batch A) E)). get_or ys n one) (sym whole)
      ∙ get_or_at before one after one n refl in
      subst (λ (r : Result (Batch A) E). IfOk r (IsPart s keeps pool xs size n)) (here ∙ ok) (are n one within)

  -- before the first part nothing is found
  pub none_before : (batch : Batch A) → IsBatch s keeps [] batch → AreBefore s keeps pool xs size 0 batch
  none_before batch is =
      subst (λ (ys : List (ArrayVec ℕ)). IsBatch s keeps (extensions pool (map items_of ys)) batch)
      (sym (before_first xs size)) is

  -- a part can be counted with those before it
  pub part_room : (n : ℕ) (before part : Batch A) → length xs * pool < 2 ^ 128
      → AreBefore s keeps pool xs size n before → IsPart s keeps pool xs size n part → HaveRoomFor before part
  part_room n before part room so_far is =
      let fronts = extensions pool (map items_of (take (n * size) xs)) in
      let others = extensions pool (map items_of (slice_chunk xs size n)) in
      record {
        s = s;
        keeps = keeps;
        sequences = fronts;
        others = others;
        is = so_far;
        after = is;
        room = omega (
          arith,
          length-append fronts others,
          ap length (extensions_before xs size pool n),
          before_long pool xs ((n + 1) * size),
        );
      }

  -- one part more
  pub part_more : (n m : ℕ) (batch : Batch A) → m ≡ n + 1
      → IsBatch s keeps (extensions pool (map items_of (take (n * size) xs))
      ++ extensions pool (map items_of (slice_chunk xs size n))) batch
      → AreBefore s keeps pool xs size m batch
  part_more n m batch next is =
      subst (λ (k : ℕ). AreBefore s keeps pool xs size k batch) (sym next)
      (subst (λ (es : List (List ℕ)). IsBatch s keeps es batch) (extensions_before xs size pool n) is)

  -- the parts before the end are all
  pub all_found : (n count : ℕ) (batch : Batch A) → 0 < size → n ≡ count
      → count ≡ length xs / size + min 1 (length xs % size)
      → AreBefore s keeps pool xs size n batch → IsBatch s keeps (extensions pool (map items_of xs)) batch
  all_found n count batch some all number is =
      subst (λ (ys : List (ArrayVec ℕ)). IsBatch s keeps (extensions pool (map items_of ys)) batch)
      (take_all (n * size) xs (cover xs size n some (all ∙ number))) is
