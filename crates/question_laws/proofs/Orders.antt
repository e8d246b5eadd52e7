-- Lists in an order, and lists that have one thing for each key, in the order of the keys.
use Rattle.std.proofs.Common.{◌≡◌, zero, suc, List, [], ◌∷◌, map, arith, refl, sym, subst, ap, ◌∙◌, inl, inr, get_or}
use Rattle.std.proofs.Common.{All}
use Rattle.std.specs.Prelude.{◌⊎◌}
use Rattle.std.specs.List.{AllPairs, Contains}
use Rattle.std.proofs.lemmas.List.{get_or_default}
use Rattle.std.proofs.lemmas.List.Elements.{All-contains, All-head, All-tail}
use Rattle.uniqueness_laws.proofs.OneGraph.{heads, tails}
use Rattle.patch_sets.proofs.Lists.{front_or_rest, in_front, in_rest, in_none}

module _ {X : Type 0} (R : X → X → Type 0) where
  -- each is before all after it
  abbrev pub Ascends : List X → Type 0
  Ascends [] = Unit {0}
  Ascends (x ∷ xs) = ((z : X) → Contains xs z → R x z) × Ascends xs

  pub ascends : (xs : List X) → AllPairs R xs → Ascends xs
  ascends [] up = tt
  ascends (x ∷ xs) up = (before, ascends xs (λ i j d less within. up (suc i) (suc j) d (omega arith) (omega arith)))
    where
      before : (z : X) → Contains xs z → R x z
      before z (k, within, is) = subst (R x) is (up zero (suc k) z (omega arith) (omega arith))

  pub in_pairs : (xs : List X) → Ascends xs → AllPairs R xs
  in_pairs [] up i j d less within = absurd (omega arith)
  in_pairs (x ∷ xs) up zero zero d less within = absurd (omega arith)
  in_pairs (x ∷ xs) up zero (suc j) d less within =
      up.0 (get_or xs j d) (j, omega arith, get_or_default xs j (get_or xs j d) d (omega arith))
  in_pairs (x ∷ xs) up (suc i) zero d less within = absurd (omega arith)
  in_pairs (x ∷ xs) up (suc i) (suc j) d less within = in_pairs xs up.1 i j d (omega arith) (omega arith)

  -- two lists in order with the same elements are one
  module _ (not_both : (a b : X) → R a b → R b a → ⊥) where
    pub one_order : (xs ys : List X) → Ascends xs → Ascends ys → ((z : X) → Contains xs z → Contains ys z)
        → ((z : X) → Contains ys z → Contains xs z) → xs ≡ ys
    one_order [] [] up also to from = refl
    one_order [] (y ∷ ys) up also to from = absurd (in_none y (from y (in_front y ys)))
    one_order (x ∷ xs) [] up also to from = absurd (in_none x (to x (in_front x xs)))
    one_order (x ∷ xs) (y ∷ ys) up also to from =
        let front : x ≡ y = by (front_or_rest y ys x (to x (in_front x xs)))
        (front_or_rest x xs y (from y (in_front y ys))) in
        let rest : xs ≡ ys = one_order xs ys up.1 also.1
        (λ z is. behind_y front z is (front_or_rest y ys z (to z (in_rest x xs z is))))
        (λ z is. behind_x front z is (front_or_rest x xs z (from z (in_rest y ys z is)))) in
        cc (front, rest)
      where
        by : (y ≡ x) ⊎ Contains ys x → (x ≡ y) ⊎ Contains xs y → x ≡ y
        by (inl e) other = sym e
        by (inr after) (inl e) = e
        by (inr after) (inr behind) = absurd (not_both y x (also.0 x after) (up.0 y behind))

        behind_y : x ≡ y → (z : X) → Contains xs z → (y ≡ z) ⊎ Contains ys z → Contains ys z
        behind_y front z is (inl e) =
            let alone : R z z = subst (λ w. R w z) (front ∙ e) (up.0 z is) in absurd (not_both z z alone alone)
        behind_y front z is (inr after) = after

        behind_x : x ≡ y → (z : X) → Contains ys z → (x ≡ z) ⊎ Contains xs z → Contains xs z
        behind_x front z is (inl e) =
            let alone : R z z = subst (λ w. R w z) (sym front ∙ e) (also.0 z is) in absurd (not_both z z alone alone)
        behind_x front z is (inr after) = after

-- what has a key, of a list that has the key
pub at_key : {X K : Type 0} (key : X → K) (k : K) (xs : List X) → Contains (map key xs) k → (x : X) × Contains xs x
    × (key x ≡ k)
at_key key k [] is = absurd (in_none k is)
at_key key k (x ∷ xs) is = elim (front_or_rest (key x) (map key xs) k is) [
  | inl e ↦ (x, in_front x xs, e)
  | inr after ↦ let it = at_key key k xs after in (it.0, in_rest x xs it.0 it.1, it.2)
]

-- two lists are one if both have each thing with a property for its key, and none that has not the property
module _ {X K : Type 0} (R : K → K → Type 0) (not_both : (a b : K) → R a b → R b a → ⊥) (key : X → K) (P : X → Type 0)
    (one : (a b : X) → P a → P b → key a ≡ key b → a ≡ b) where
  among : (xs ys : List X) → All P xs → All P ys → ((x : X) → P x → Contains (map key ys) (key x)) → (z : X)
      → Contains xs z → Contains ys z
  among xs ys are also every z is =
      let here = All-contains P xs z are is in
      let at = at_key key (key z) ys (every z here) in
      subst (Contains ys) (one at.0 z (All-contains P ys at.0 also at.1) here at.2) at.1

  pub one_keyed : (xs ys : List X) → AllPairs (λ a b. R (key a) (key b)) xs → AllPairs (λ a b. R (key a) (key b)) ys
      → All P xs → All P ys → ((x : X) → P x → Contains (map key xs) (key x))
      → ((x : X) → P x → Contains (map key ys) (key x)) → xs ≡ ys
  one_keyed xs ys up also are are_too every each =
      one_order (λ a b. R (key a) (key b)) (λ a b. not_both (key a) (key b)) xs ys
      (ascends (λ a b. R (key a) (key b)) xs up) (ascends (λ a b. R (key a) (key b)) ys also)
      (among xs ys are are_too each) (among ys xs are_too are every)

-- two lists are one if they have the same keys in the same order, and a key determines what has it
pub same_keyed : {X K : Type 0} (key : X → K) (P : X → Type 0)
    (one : (a b : X) → P a → P b → key a ≡ key b → a ≡ b) (xs ys : List X) → map key xs ≡ map key ys → All P xs
    → All P ys → xs ≡ ys
same_keyed key P one [] [] same are also = refl
same_keyed key P one [] (y ∷ ys) same are also = cc
same_keyed key P one (x ∷ xs) [] same are also = cc
same_keyed key P one (x ∷ xs) (y ∷ ys) same are also =
    let front : x ≡ y = one x y (All-head P x xs are) (All-head P y ys also) (heads same) in
    let rest : xs ≡ ys = same_keyed key P one xs ys (tails same) (All-tail P x xs are) (All-tail P y ys also) in
    cc (front, rest)
