-- The operations of workloads in a list.
use Rattle.std.proofs.Common.{◌≡◌, ℕ, ◌+◌, ◌<◌, List, length, map, get_or, sym, ap, ◌∙◌, below_more}
use Rattle.std.specs.List.{All}
use Rattle.std.proofs.lemmas.List.{get_or-map}
use Rattle.arrayvec.specs.ArrayVec.{ArrayVec}
use Rattle.question_model.specs.Sequences.{AreAllSequences}
use Rattle.question_model.specs.Workloads.{Search}
use Rattle.question_model.specs.EnoughFor.{IsPassing}
use Rattle.workload_search.specs.Tries.{items_of}
use Rattle.workload_search.proofs.Lists.{all_from, in_map}

pub item_at : (xs : List (ArrayVec ℕ)) (i : ℕ) (item : ArrayVec ℕ) (d : List ℕ) → i < length xs
    → item ≡ get_or xs i item → get_or (map items_of xs) i d ≡ item.items
item_at xs i item d within is = get_or-map items_of xs i item d within ∙ ap items_of (sym is)

-- what holds of the sequences so far and of the next holds of one more
pub one_more : (P : List ℕ → Type 0) (xs : List (ArrayVec ℕ)) (n : ℕ)
    → ((i : ℕ) (d : List ℕ) → i < n → P (get_or (map items_of xs) i d))
    → ((d : List ℕ) → P (get_or (map items_of xs) n d))
    → (i : ℕ) (d : List ℕ) → i < n + 1 → P (get_or (map items_of xs) i d)
one_more P xs n so_far here i d less =
    below_more (λ k. P (get_or (map items_of xs) k d)) n (λ k low. so_far k d low) (here d) i less

-- the workloads that do not fail are such
pub all_passing : (s : Search) (passing : List (ArrayVec ℕ))
    → AreAllSequences (IsPassing s) (map items_of passing)
    → All (λ (places : ArrayVec ℕ). IsPassing s places.items) passing
all_passing s passing are = all_from (λ (places : ArrayVec ℕ). IsPassing s places.items) passing
    (λ places there. (are.exactly places.items).0 (in_map items_of passing places there))

pub some_passing : (s : Search) (passing : List (ArrayVec ℕ)) → AreAllSequences (IsPassing s) (map items_of passing)
    → ∥ All (λ (places : ArrayVec ℕ). IsPassing s places.items) passing ∥₁
some_passing s passing are = ∣ all_passing s passing are ∣₁
