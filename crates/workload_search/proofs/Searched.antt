-- The search, level by level.
use Rattle.std.proofs.Common.{◌≡◌, ℕ, ◌+◌, ◌*◌, ◌<◌, ◌≤◌, ◌^◌, List, [], ◌∷◌, ◌++◌, length, map, Bool, true}
use Rattle.std.proofs.Common.{sym, subst, ap, ◌∙◌, arith, length-append, mul-le-mul_right, suc-mul, add-one}
use Rattle.std.specs.Prelude.{if◌then◌else◌}
use Rattle.std.specs.List.{All}
use Rattle.std.proofs.lemmas.List.{length-map}
use Rattle.arrayvec.specs.ArrayVec.{ArrayVec}
use Rattle.question_model.specs.Workloads.{Search}
use Rattle.question_model.specs.Verdict.{IsAccepted}
use Rattle.workload_search.specs.Tallies.{Tried, IsTally, HaveRoom}
use Rattle.workload_search.specs.Tries.{IsBatch, IsExtendable, extensions, items_of, passing_of}
use Rattle.workload_search.specs.declared.batch.Batch.{Batch}
use Rattle.workload_search.specs.declared.tally.SearchTally.{SearchTally}
use Rattle.workload_search.proofs.Counted.{AreAllTried, places_of}
use Rattle.workload_search.proofs.Extended.{AreBeginnings, AreLevel, next_level, next_beginnings, first_beginnings}
use Rattle.workload_search.proofs.Extended.{no_levels, one_level_more, length_extensions}
use Rattle.workload_search.proofs.Lists.{in_map, all_from}
use Rattle.workload_search.proofs.Sequences.{beginning_among, beginning_accepted}

-- all sequences of up to this number of operations are tried and counted, and the beginnings for longer ones are there
pub record IsSearchedTo {A : Type 0} (s : Search) (pool made : ℕ) (tally : SearchTally A)
    (beginnings : List (ArrayVec ℕ))
    : Type 0 where
  pub tried : List Tried
  pub all : AreAllTried s made tried
  pub is : IsTally tried tally
  pub fronts : made < s.most → AreBeginnings s made (map items_of beginnings)
  pub room : length tried ≤ made * (2 ^ 63 * pool)

module _ (s : Search) (pool : ℕ) where
  -- each beginning can be made longer
  pub all_extendable : (number : ℕ) (beginnings : List (ArrayVec ℕ)) → IsAccepted s [] → pool ≡ length s.pool
      → number < 8 → AreBeginnings s number (map items_of beginnings) → All (IsExtendable s pool) beginnings
  all_extendable number beginnings begins same low are = all_from (IsExtendable s pool) beginnings (λ places there.
      let it = (are.exactly places.items).0 (in_map items_of beginnings places there) in
      record {
        short = omega (arith, it.0, low);
        among = subst (λ n. All (λ place. place < n) places.items) (sym same) (beginning_among s places.items it.1);
        accepted = beginning_accepted s places.items begins it.1;
      })

-- how many sequences a level has
level_long : (pool : ℕ) (beginnings : List (ArrayVec ℕ)) → length (extensions pool (map items_of beginnings))
    ≡ length beginnings * pool
level_long pool beginnings = length_extensions pool (map items_of beginnings)
    ∙ ap (λ n. n * pool) (length-map beginnings items_of)

pub level_most : (pool : ℕ) (beginnings : List (ArrayVec ℕ)) → length beginnings ≤ 2 ^ 63
    → length beginnings * pool ≤ 2 ^ 63 * pool
level_most pool beginnings few = mul-le-mul_right pool few

-- what is found of the same beginnings
pub batch_of : {A : Type 0} (s : Search) (keeps : Bool) (pool : ℕ) (xs ys : List (ArrayVec ℕ)) (batch : Batch A)
    → xs ≡ ys → IsBatch s keeps (extensions pool (map items_of xs)) batch
    → IsBatch s keeps (extensions pool (map items_of ys)) batch
batch_of s keeps pool xs ys batch same is =
    subst (λ (zs : List (ArrayVec ℕ)). IsBatch s keeps (extensions pool (map items_of zs)) batch) same is

-- the sequences of a level can be counted
pub level_room : (pool : ℕ) (beginnings : List (ArrayVec ℕ)) → length beginnings ≤ 2 ^ 63 → pool < 2 ^ 62
    → length beginnings * pool < 2 ^ 128
level_room pool beginnings few small = omega (arith, level_most pool beginnings few)

module _ {A : Type 0} (s : Search) (pool : ℕ) where
  unfoldable pub searched_none : (tally : SearchTally A) (beginnings : List (ArrayVec ℕ)) → IsTally [] tally
      → map items_of beginnings ≡ [] ∷ [] → IsSearchedTo s pool 0 tally beginnings
  searched_none tally beginnings is one = record {
    tried = [];
    all = no_levels s;
    is = is;
    fronts = λ more. subst (AreBeginnings s 0) (sym one) (first_beginnings s);
    room = omega arith;
  }

  pub tried_long : (keeps : Bool) (beginnings : List (ArrayVec ℕ)) (batch : Batch A)
      (b : IsBatch s keeps (extensions pool (map items_of beginnings)) batch)
      → length b.tried ≡ length beginnings * pool
  tried_long keeps beginnings batch b =
      sym (length-map b.tried places_of)
      ∙ (ap length b.are ∙ level_long pool beginnings)

  pub next_room : (made : ℕ) (beginnings : List (ArrayVec ℕ)) (tally : SearchTally A) (keeps : Bool) (batch : Batch A)
      → length beginnings ≤ 2 ^ 63 → (so_far : IsSearchedTo s pool made tally beginnings)
      (b : IsBatch s keeps (extensions pool (map items_of beginnings)) batch)
      → length so_far.tried + length b.tried ≤ (made + 1) * (2 ^ 63 * pool)
  next_room made beginnings tally keeps batch few so_far b =
      let room = so_far.room in
      let step : (made + 1) * (2 ^ 63 * pool) ≡ made * (2 ^ 63 * pool) + 2 ^ 63 * pool =
      ap (λ n. n * (2 ^ 63 * pool)) (add-one made) ∙ suc-mul made (2 ^ 63 * pool) in
      omega (arith, room, step, tried_long keeps beginnings batch b, level_most pool beginnings few)

  -- what a level counts can be counted with what was counted before
  pub join_room : (made : ℕ) (beginnings : List (ArrayVec ℕ)) (tally : SearchTally A) (keeps : Bool) (batch : Batch A)
      → length beginnings ≤ 2 ^ 63 → made < 8 → pool < 2 ^ 62 → IsSearchedTo s pool made tally beginnings
      → IsBatch s keeps (extensions pool (map items_of beginnings)) batch → HaveRoom tally batch.tally
  join_room made beginnings tally keeps batch few low small so_far b = record {
    tried = so_far.tried;
    others = b.tried;
    is = so_far.is;
    after = b.tally;
    room =
        let most : (made + 1) * (2 ^ 63 * pool) ≤ 8 * (2 ^ 63 * pool) =
        mul-le-mul_right (2 ^ 63 * pool) (let few : made + 1 ≤ 8 = omega arith in few) in
        omega (arith, next_room made beginnings tally keeps batch few so_far b, most, small);
  }

  -- one level more
  unfoldable pub searched_more : (made : ℕ) (beginnings : List (ArrayVec ℕ)) (tally next : SearchTally A) (keeps : Bool)
      (batch : Batch A) → pool ≡ length s.pool → length beginnings ≤ 2 ^ 63 → made < s.most
      → (made + 1 < s.most → keeps ≡ true) → (so_far : IsSearchedTo s pool made tally beginnings)
      (b : IsBatch s keeps (extensions pool (map items_of beginnings)) batch)
      → IsTally (so_far.tried ++ b.tried) next → IsSearchedTo s pool (made + 1) next batch.passing.items
  searched_more made beginnings tally next keeps batch same few low keep so_far b is = record {
    tried = so_far.tried ++ b.tried;
    all = one_level_more s made so_far.tried b.tried so_far.all level b.right;
    is = is;
    fronts = λ more. subst (AreBeginnings s (made + 1)) (sym (b.passing
        ∙ ap (λ (k : Bool). if k then passing_of b.tried else []) (keep more)))
        (next_beginnings s (made + 1) b.tried (omega arith) (omega arith) level b.right);
    room = omega (
      arith,
      length-append so_far.tried b.tried,
      next_room made beginnings tally keeps batch few so_far b,
    );
  }
    where
      level : AreLevel s (made + 1) (map places_of b.tried)
      level = subst (AreLevel s (made + 1)) (sym b.are)
          (subst (λ n. AreLevel s (made + 1) (extensions n (map items_of beginnings))) (sym same)
          (next_level s made (map items_of beginnings) (so_far.fronts low)))

  -- after the last level all are tried
  pub all_searched : (made : ℕ) (tally : SearchTally A) (beginnings : List (ArrayVec ℕ)) → made ≡ s.most
      → (so_far : IsSearchedTo s pool made tally beginnings) → AreAllTried s s.most so_far.tried
  all_searched made tally beginnings whole so_far = subst (λ n. AreAllTried s n so_far.tried) whole so_far.all
