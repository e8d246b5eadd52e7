use Rattle.std.proofs.Common.{◌≢◌, ◌+◌, get_or, arith, rules}
use Rattle.std.specs.Prelude.{count_ones}
use Rattle.std.specs.List.{AllPairs, Contains}
use Rattle.std.proofs.lemmas.List.Sorted.{answers_always, Contains-permutation, length_permutation}
use Rattle.std.proofs.lemmas.List.Elements.{All-from_get_or, Contains-get_or}
use Rattle.state_space.proofs.Counting.{distinct_again}
use Rattle.patch_sets.proofs.Canonical.{ordered_from_next, before_by_keys}
use Rattle.patch_sets.proofs.order.in_order.Goals as goal

pub returns-clause-ordered : goal.returns-clause-ordered
returns-clause-ordered g c =
    let xs = c.args.sets.items in
    let ys = c.sort_unstable_by_key.new.self.items in
    let moved = c.sort_unstable_by_key.ensures.permutation in
    let apart : AllPairs (λ x y. x ≢ y) ys = distinct_again xs ys c.requires (length_permutation xs ys moved)
    (All-from_get_or (Contains ys) xs 0 (λ i within. Contains-permutation xs ys (get_or xs i 0) moved
    (Contains-get_or xs i 0 within))) in
    let sorted = c.sort_unstable_by_key.ensures.sorted (λ x. (count_ones x, x))
    (answers_always _ _ _ (λ f a r f' k. search rules)) in
    ordered_from_next ys (λ k within. before_by_keys (get_or ys k 0) (get_or ys (k + 1) 0)
    (sorted k 0 (omega arith) within) (apart k (k + 1) 0 (omega arith) within))
