-- Sets of ids from one number on and below another, and whether patches from one on meet ranges.
use Rattle.std.proofs.Common.{◌≡◌, ℕ, zero, suc, ◌+◌, ◌≤◌, List, [], ◌∷◌, drop, map, get_or, true}
use Rattle.std.proofs.Common.{false}
use Rattle.std.proofs.Common.{nat_le, arith, tests, refl, sym, ap, subst, ◌∙◌, bit_or, ◌⊎◌, inl, inr}
use Rattle.std.specs.Prelude.{◌^◌}
use Rattle.std.specs.Int.Bits.{or_zero_l, or_zero_r}
use Rattle.std.proofs.Math.Seq.{drop-cons}
use Rattle.std.proofs.lemmas.List.{drop-map}
use Rattle.std.proofs.lemmas.Option.{slice_get_within}
use Rattle.patch_sets.specs.Sets.{with_id}
use Rattle.crash_model.specs.Patches.{Place, place, places_of}
use Rattle.crash_model.specs.Promises.{ids_between}
use Rattle.crash_model.specs.declared.patches.Patch.{Patch}
use Rattle.patch_graph.specs.Graph.{IsAt}
use Rattle.promise_steps.proofs.Finished.{or_assoc}

-- ---- ids

pub ids_none : (from to : ℕ) → to ≤ from → ids_between from to ≡ 0
ids_none from zero most = refl
ids_none from (suc to) most = let no : nat_le from to ≡ false = grind (arith, tests, most) in rw no refl

ids_next : (from to : ℕ) → from ≤ to → ids_between from (to + 1) ≡ with_id (ids_between from to) to
ids_next from to least =
    let next : suc to ≡ to + 1 = omega arith in
    let yes : nat_le from to ≡ true = grind (arith, tests, least) in
    subst (λ (n : ℕ). ids_between from n ≡ with_id (ids_between from to) to) next (rw yes refl)

pub with_none : (set from : ℕ) → set ≡ bit_or set (ids_between from from)
with_none set from = sym (ap (bit_or set) (ids_none from from (omega arith)) ∙ or_zero_r set)

pub with_next : (set more from id : ℕ) → from ≤ id → more ≡ bit_or set (ids_between from id)
    → with_id more id ≡ bit_or set (ids_between from (id + 1))
with_next set more from id least so_far =
    ap (λ (m : ℕ). with_id m id) so_far
    ∙ (or_assoc set (ids_between from id) (2 ^ id) ∙ ap (bit_or set) (sym (ids_next from id least)))

-- behind the last id
pub with_all : (set more from id number : ℕ) → more ≡ bit_or set (ids_between from id) → number ≤ id
    → (id ≤ number) ⊎ (id ≡ from) → more ≡ bit_or set (ids_between from number)
with_all set more from id number so_far least (inl most) =
    let same : id ≡ number = omega (arith, least, most) in
    so_far ∙ ap (λ (n : ℕ). bit_or set (ids_between from n)) same
with_all set more from id number so_far least (inr none) =
    so_far ∙ ap (bit_or set)
    (ids_none from id (omega (arith, none)) ∙ sym (ids_none from number (omega (arith, least, none))))

-- the set of one id, as a number
pub only_id : (id : ℕ) → with_id 0 id ≡ 2 ^ id
only_id id = or_zero_l (2 ^ id)

-- ---- patches

get_is : (xs : List Patch) (k : ℕ) (x d : Patch) → IsAt xs k x → get_or xs k d ≡ x
get_is [] zero x d at = cc
get_is [] (suc k) x d at = cc
get_is (y ∷ ys) zero x d at = cc
get_is (y ∷ ys) (suc k) x d at = get_is ys k x d at

pub places_from : (patches : List Patch) (id : ℕ) (p : Patch) → IsAt patches id p
    → drop id (places_of patches) ≡ place p.block p.offset p.new.items ∷ drop (id + 1) (places_of patches)
places_from patches id p at =
    let next : suc id ≡ id + 1 = omega arith in
    let to_place : Patch → Place = λ q. place q.block q.offset q.new.items in
    drop-map to_place id patches
    ∙ (ap (map to_place) (drop-cons patches id p (slice_get_within patches id p at))
    ∙ (ap (λ (q : Patch). to_place q ∷ map to_place (drop (suc id) patches)) (get_is patches id p p at)
    ∙ (ap (λ (n : ℕ). to_place p ∷ map to_place (drop n patches)) next
    ∙ ap (λ (ps : List Place). to_place p ∷ ps) (sym (drop-map to_place (id + 1) patches)))))
