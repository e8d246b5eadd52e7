-- Lists in a strict order.
use Rattle.std.proofs.Common.{◌≡◌, ℕ, zero, suc, ◌+◌, ◌-◌, ◌<◌, List, [], ◌∷◌, ◌++◌, length, get_or, arith, refl, sym}
use Rattle.std.proofs.Common.{subst, ap, ap₂, ◌∙◌, inl, inr, length-append}
use Rattle.std.specs.Prelude.{◌⊎◌}
use Rattle.std.specs.List.{AllPairs, Contains}
use Rattle.std.proofs.lemmas.Bool.{cases_lt}
use Rattle.std.proofs.lemmas.List.{get_or_append_left, get_or-append_right, get_or_default}
use Rattle.std.proofs.Math.Seq as seq
use Rattle.std.proofs.lemmas.List.Quantifiers.{all_pairs_push}
use Rattle.std.proofs.lemmas.List.Elements.{Contains-get_or}

-- where an element of x ∷ xs is
pub front_or_rest : {X : Type 0} (x : X) (xs : List X) (z : X) → Contains (x ∷ xs) z → (x ≡ z) ⊎ Contains xs z
front_or_rest x xs z (zero, within, is) = inl is
front_or_rest x xs z (suc k, within, is) = inr (k, omega arith, is)

pub in_front : {X : Type 0} (x : X) (xs : List X) → Contains (x ∷ xs) x
in_front x xs = (zero, omega arith, refl)

pub in_rest : {X : Type 0} (x : X) (xs : List X) (z : X) → Contains xs z → Contains (x ∷ xs) z
in_rest x xs z (k, within, is) = (suc k, omega arith, is)

pub in_none : {X : Type 0} (z : X) → Contains [] z → ⊥
in_none z (k, within, is) = omega arith

module _ (R : ℕ → ℕ → Type 0) where
  -- the first comes before each later one
  pub front_before : (x : ℕ) (xs : List ℕ) → AllPairs R (x ∷ xs) → (z : ℕ) → Contains xs z → R x z
  front_before x xs up z (k, within, is) = subst (R x) is (up zero (suc k) z (omega arith) (omega arith))

  pub rest_ordered : (x : ℕ) (xs : List ℕ) → AllPairs R (x ∷ xs) → AllPairs R xs
  rest_ordered x xs up i j d lt within = up (suc i) (suc j) d (omega arith) (omega arith)

  -- what is in the first part comes before what is in the second
  pub across : (xs ys : List ℕ) → AllPairs R (xs ++ ys) → (a b : ℕ) → Contains xs a → Contains ys b → R a b
  across xs ys up a b (i, inside, is_a) (j, within, is_b) =
      let at_a : get_or (xs ++ ys) i 0 ≡ a = get_or_append_left xs ys 0 i inside
      ∙ (get_or_default xs i 0 a inside ∙ is_a) in
      let at_b : get_or (xs ++ ys) (length xs + j) 0 ≡ b = get_or-append_right xs ys (length xs) (length xs + j) 0 refl
      (omega arith) ∙ (ap (λ k. get_or ys k 0) (omega arith) ∙ (get_or_default ys j 0 b within ∙ is_b)) in
      subst (R a) at_b (subst (λ x. R x (get_or (xs ++ ys) (length xs + j) 0)) at_a
      (up i (length xs + j) 0 (omega arith) (omega (arith, length-append xs ys, within))))

  -- a strict order
  module _ (trans : (a b c : ℕ) → R a b → R b c → R a c) (irreflexive : (a : ℕ) → R a a → ⊥) where
    -- two lists in order with the same elements are equal
    pub one_order : (xs ys : List ℕ) → AllPairs R xs → AllPairs R ys → ((z : ℕ) → Contains xs z → Contains ys z)
        → ((z : ℕ) → Contains ys z → Contains xs z) → xs ≡ ys
    one_order [] [] up rise there back = refl
    one_order [] (y ∷ ys) up rise there back = absurd (in_none y (back y (in_front y ys)))
    one_order (x ∷ xs) [] up rise there back = absurd (in_none x (there x (in_front x xs)))
    one_order (x ∷ xs) (y ∷ ys) up rise there back =
        let same : x ≡ y = elim (front_or_rest y ys x (there x (in_front x xs))) [
          | inl e ↦ sym e
          | inr later ↦ elim (front_or_rest x xs y (back y (in_front y ys))) [
            | inl e ↦ e
            | inr after ↦ absurd (irreflexive x (trans x y x (front_before x xs up y after)
                (front_before y ys rise x later)))
          ]
        ] in
        let rests : xs ≡ ys = one_order xs ys (rest_ordered x xs up) (rest_ordered y ys rise)
        (λ z is. elim (front_or_rest y ys z (there z (in_rest x xs z is))) [
          | inl e ↦ absurd (irreflexive x (subst (R x) (sym (same ∙ e)) (front_before x xs up z is)))
          | inr it ↦ it
        ])
        (λ z is. elim (front_or_rest x xs z (back z (in_rest y ys z is))) [
          | inl e ↦ absurd (irreflexive y (subst (R y) (sym (sym same ∙ e)) (front_before y ys rise z is)))
          | inr it ↦ it
        ]) in
        ap₂ (λ z zs. z ∷ zs) same rests

-- two ascending lists with the same numbers are equal
pub one_ascending : (xs ys : List ℕ) → AllPairs (λ x y. x < y) xs → AllPairs (λ x y. x < y) ys
    → ((z : ℕ) → Contains xs z → Contains ys z) → ((z : ℕ) → Contains ys z → Contains xs z) → xs ≡ ys
one_ascending = one_order (λ x y. x < y) (λ a b c p q. omega arith) (λ a p. omega arith)

-- an ascending list and a larger number
pub ascends_push : (xs : List ℕ) (y : ℕ) → AllPairs (λ a b. a < b) xs → ((x : ℕ) → Contains xs x → x < y)
    → AllPairs (λ a b. a < b) (xs ++ y ∷ [])
ascends_push xs y up below = all_pairs_push (λ a b. a < b) xs y up
    (λ k d within. below (get_or xs k d) (Contains-get_or xs k d within))

-- what holds of each pair of either part, and across, holds of each pair
pub pairs_append : (R : ℕ → ℕ → Type 0) (xs ys : List ℕ) → AllPairs R xs → AllPairs R ys
    → ((x y : ℕ) → Contains xs x → Contains ys y → R x y) → AllPairs R (xs ++ ys)
pairs_append R xs ys px py across i j d lt inside = elim (cases_lt j (length xs)) [
  | inl low ↦
      subst (λ x. R x (get_or (xs ++ ys) j d)) (sym (get_or_append_left xs ys d i (omega arith)))
      (subst (R (get_or xs i d)) (sym (get_or_append_left xs ys d j low)) (px i j d lt low))
  | inr high ↦
      let long = length-append xs ys in
      let far : j - length xs < length ys = omega (arith, long, inside) in
      subst (R (get_or (xs ++ ys) i d)) (sym (seq.get_or-append_right xs ys j d high))
      (elim (cases_lt i (length xs)) [
        | inl low ↦ subst (λ x. R x (get_or ys (j - length xs) d)) (sym (get_or_append_left xs ys d i low))
            (across (get_or xs i d) (get_or ys (j - length xs) d) (Contains-get_or xs i d low)
            (Contains-get_or ys (j - length xs) d far))
        | inr up ↦ subst (λ x. R x (get_or ys (j - length xs) d)) (sym (seq.get_or-append_right xs ys i d up))
            (py (i - length xs) (j - length xs) d (omega arith) far)
      ])
]

-- ---- two ways to cut one list

pub data Cuts {X : Type 0} (a A b B : List X) : Type 0 where
  same : a ≡ b → A ≡ B → Cuts a A b B
  longer : (y : X) (c : List X) → a ≡ b ++ y ∷ c → B ≡ y ∷ (c ++ A) → Cuts a A b B
  shorter : (y : X) (c : List X) → b ≡ a ++ y ∷ c → A ≡ y ∷ (c ++ B) → Cuts a A b B

pub cuts_of : {X : Type 0} (a A b B : List X) → a ++ A ≡ b ++ B → Cuts a A b B
cuts_of [] A [] B e = same refl e
cuts_of [] A (y ∷ b) B e = shorter y b refl e
cuts_of (x ∷ a) A [] B e = longer x a refl (sym e)
cuts_of (x ∷ a) A (y ∷ b) B e =
    let head : x ≡ y = cc in
    let rest : a ++ A ≡ b ++ B = cc in
    elim (cuts_of a A b B rest) [
      | same p q ↦ same (ap₂ (λ z zs. z ∷ zs) head p) q
      | longer z c p q ↦ longer z c (ap₂ (λ w ws. w ∷ ws) head p) q
      | shorter z c p q ↦ shorter z c (ap₂ (λ w ws. w ∷ ws) (sym head) p) q
    ]
