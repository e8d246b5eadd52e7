-- The slots that are listed, by which of them are empty.
use Rattle.std.proofs.Common.{◌≡◌, List, [], ◌∷◌, true, false, refl, ap}
use Rattle.crash_model.specs.ShownTexts.{is_hole, listed_slots}
use Rattle.crash_model.specs.declared.showing.ShownSlot.{ShownSlot}
use Rattle.crash_model.specs.declared.showing.ShownSlot.TheVariants.{Hole, Wild, Begins}

-- a slot before others that are listed is listed
listed_more : (x s : ShownSlot) (ss xs : List ShownSlot) → listed_slots xs ≡ s ∷ ss → listed_slots (x ∷ xs) ≡ x ∷ s ∷ ss
listed_more Hole s ss xs is = rw is refl
listed_more Wild s ss xs is = ap (λ (ys : List ShownSlot). Wild ∷ ys) is
listed_more (Begins bytes) s ss xs is = ap (λ (ys : List ShownSlot). Begins bytes ∷ ys) is

-- one that is not empty is listed, and empty ones after it are not
listed_last : (s : ShownSlot) (xs : List ShownSlot) → is_hole s ≡ false → listed_slots xs ≡ []
    → listed_slots (s ∷ xs) ≡ s ∷ []
listed_last Hole xs some none = absurd (cc)
listed_last Wild xs some none = ap (λ (ys : List ShownSlot). Wild ∷ ys) none
listed_last (Begins bytes) xs some none = ap (λ (ys : List ShownSlot). Begins bytes ∷ ys) none

listed_hole : (s : ShownSlot) (xs : List ShownSlot) → is_hole s ≡ true → listed_slots xs ≡ []
    → listed_slots (s ∷ xs) ≡ []
listed_hole Hole xs hole none = rw none refl
listed_hole Wild xs hole none = absurd (cc)
listed_hole (Begins bytes) xs hole none = absurd (cc)

module _ (a b c d : ShownSlot) where
  pub listed_4 : is_hole d ≡ false → listed_slots (a ∷ b ∷ c ∷ d ∷ []) ≡ a ∷ b ∷ c ∷ d ∷ []
  listed_4 last = listed_more a b (c ∷ d ∷ []) (b ∷ c ∷ d ∷ []) (listed_more b c (d ∷ []) (c ∷ d ∷ [])
      (listed_more c d [] (d ∷ []) (listed_last d [] last refl)))

  pub listed_3 : is_hole d ≡ true → is_hole c ≡ false → listed_slots (a ∷ b ∷ c ∷ d ∷ []) ≡ a ∷ b ∷ c ∷ []
  listed_3 hole_d last = listed_more a b (c ∷ []) (b ∷ c ∷ d ∷ []) (listed_more b c [] (c ∷ d ∷ [])
      (listed_last c (d ∷ []) last (listed_hole d [] hole_d refl)))

  pub listed_2 : is_hole d ≡ true → is_hole c ≡ true → is_hole b ≡ false
      → listed_slots (a ∷ b ∷ c ∷ d ∷ []) ≡ a ∷ b ∷ []
  listed_2 hole_d hole_c last = listed_more a b [] (b ∷ c ∷ d ∷ []) (listed_last b (c ∷ d ∷ []) last
      (listed_hole c (d ∷ []) hole_c (listed_hole d [] hole_d refl)))

  pub listed_1 : is_hole d ≡ true → is_hole c ≡ true → is_hole b ≡ true → is_hole a ≡ false
      → listed_slots (a ∷ b ∷ c ∷ d ∷ []) ≡ a ∷ []
  listed_1 hole_d hole_c hole_b last = listed_last a (b ∷ c ∷ d ∷ []) last
      (listed_hole b (c ∷ d ∷ []) hole_b (listed_hole c (d ∷ []) hole_c (listed_hole d [] hole_d refl)))

  pub listed_0 : is_hole d ≡ true → is_hole c ≡ true → is_hole b ≡ true → is_hole a ≡ true
      → listed_slots (a ∷ b ∷ c ∷ d ∷ []) ≡ []
  listed_0 hole_d hole_c hole_b hole_a = listed_hole a (b ∷ c ∷ d ∷ []) hole_a
      (listed_hole b (c ∷ d ∷ []) hole_b (listed_hole c (d ∷ []) hole_c (listed_hole d [] hole_d refl)))
