-- Answers put together, by what is known of their parts.
use Rattle.std.proofs.Common.{◌≡◌, ℕ, Bool, true, false, ◌&&◌, ◌||◌, refl, sym, ◌∙◌}
use Rattle.std.specs.Prelude.{Result, Ok, Err}
use Rattle.crash_model.specs.Disk.{Disk}
use Rattle.crash_model.specs.Patches.{image_of}
use Rattle.known_bytes.specs.Family.{IsMember}
use Rattle.known_bytes.specs.Reading.{Reading, IsKnown, disk_of}

and_true : (a b c : Bool) → a ≡ true → b ≡ c → (a && b) ≡ c
and_true true b c h e = e
and_true false b c h e = absurd (cc)

and_false : (a b : Bool) → a ≡ false → (a && b) ≡ false
and_false true b h = absurd (cc)
and_false false b h = refl

pub and_false_right : (a b : Bool) → b ≡ false → (a && b) ≡ false
and_false_right true b h = h
and_false_right false b h = refl

or_false : (a b c : Bool) → a ≡ false → b ≡ c → (a || b) ≡ c
or_false true b c h e = absurd (cc)
or_false false b c h e = e

or_true : (a b : Bool) → a ≡ true → (a || b) ≡ true
or_true true b h = refl
or_true false b h = absurd (cc)

or_true_right : (a b : Bool) → b ≡ true → (a || b) ≡ true
or_true_right true b h = refl
or_true_right false b h = h

module _ (r : Reading) (P Q : Disk → Bool) where
  pub both_first : (second : Result Bool ℕ) → IsKnown r P (Ok true) → IsKnown r Q second
      → IsKnown r (λ d. P d && Q d) second
  both_first (Ok b) p q = λ set m. and_true (P (disk_of r (image_of r.family.base r.family.patches set)))
      (Q (disk_of r (image_of r.family.base r.family.patches set))) b (p set m) (q set m)
  both_first (Err id) p q = q

  pub both_none : IsKnown r P (Ok false) → IsKnown r (λ d. P d && Q d) (Ok false)
  both_none p = λ set m. and_false (P (disk_of r (image_of r.family.base r.family.patches set))) _ (p set m)

  pub both_none_right : IsKnown r Q (Ok false) → IsKnown r (λ d. P d && Q d) (Ok false)
  both_none_right q = λ set m. and_false_right (P (disk_of r (image_of r.family.base r.family.patches set))) _ (q set m)

  pub either_first : (second : Result Bool ℕ) → IsKnown r P (Ok false) → IsKnown r Q second
      → IsKnown r (λ d. P d || Q d) second
  either_first (Ok b) p q = λ set m. or_false (P (disk_of r (image_of r.family.base r.family.patches set)))
      (Q (disk_of r (image_of r.family.base r.family.patches set))) b (p set m) (q set m)
  either_first (Err id) p q = q

  pub either_all : IsKnown r P (Ok true) → IsKnown r (λ d. P d || Q d) (Ok true)
  either_all p = λ set m. or_true (P (disk_of r (image_of r.family.base r.family.patches set))) _ (p set m)

  pub either_all_right : IsKnown r Q (Ok true) → IsKnown r (λ d. P d || Q d) (Ok true)
  either_all_right q = λ set m. or_true_right (P (disk_of r (image_of r.family.base r.family.patches set))) _ (q set m)

-- the same tests on each disk, so the same answer
pub known_as : {X : Type 0} (r : Reading) (f g : Disk → X) (found : Result X ℕ)
    → ((set : ℕ) → f (disk_of r (image_of r.family.base r.family.patches set))
    ≡ g (disk_of r (image_of r.family.base r.family.patches set)))
    → IsKnown r f found → IsKnown r g found
known_as r f g (Ok value) same known = λ set m. sym (same set) ∙ known set m
known_as r f g (Err id) same known = known

-- what holds of each member
pub known_in : {X : Type 0} (r : Reading) (f g : Disk → X) (found : Result X ℕ)
    → ((set : ℕ) → IsMember r.family set → f (disk_of r (image_of r.family.base r.family.patches set))
    ≡ g (disk_of r (image_of r.family.base r.family.patches set)))
    → IsKnown r f found → IsKnown r g found
known_in r f g (Ok value) same known = λ set m. sym (same set m) ∙ known set m
known_in r f g (Err id) same known = known
