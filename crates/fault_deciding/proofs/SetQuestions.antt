-- What is known of all sets of a family by the ids that are held and those that are undecided.
use Rattle.std.proofs.Common.{◌≡◌, ℕ, ◌<◌, ◌≤◌, ◌⊎◌, inl, inr, Bool, true, false, ◌&&◌, ◌||◌, arith, tests, refl}
use Rattle.std.proofs.Common.{sym, ap, subst, ◌∙◌}
use Rattle.std.specs.Prelude.{nat_le, bit_and, bit_or, Result, Ok, Err}
use Rattle.std.proofs.lemmas.Bool.{false≢true, cases_Bool}
use Rattle.std.proofs.lemmas.List.{length-map}
use Rattle.patch_sets.specs.Sets.{Has, has, IsSubset}
use Rattle.patch_sets.specs.Ends.{IsLowest, IsDifference}
use Rattle.patch_sets.proofs.Bits.{none_in_empty, same_set, subset_from_and, and_from_subset, in_or_left}
use Rattle.patch_sets.proofs.Bits.{in_or_right}
use Rattle.patch_sets.proofs.Ids.{has_true, from_has, true_from_eq, false_from_ne}
use Rattle.crash_model.specs.Disk.{Disk}
use Rattle.crash_model.specs.Patches.{image_of}
use Rattle.crash_model.specs.Replay.{image_after_replay}
use Rattle.crash_model.specs.Promises.{has_all, has_none}
use Rattle.known_bytes.proofs.Undecided.{and_both}
use Rattle.set_families.proofs.Links.{subset_le}
use Rattle.known_bytes.specs.Family.{Family, IsMember, IsUndecided}
use Rattle.fault_deciding.specs.OfSets.{InEachSet, IsKnownOfSets, AreIdsOf}

-- what a set has that is not held is undecided
extra : (f : Family) (set : ℕ) → IsMember f set → (id : ℕ) → Has set id → ¬ (Has f.held id) → IsUndecided f id
extra f set m id is not_held = record {
  known = omega (arith, m.closed.known id is, length-map f.patches (λ p. p.deps));
  not_held = not_held;
  not_barred = λ barred. m.barred id barred is;
}

module _ (f : Family) (held undecided : ℕ) (are : AreIdsOf f held undecided) where
  held_in : (set : ℕ) → IsMember f set → IsSubset held set
  held_in set m id is = m.held id (subst (λ (h : ℕ). Has h id) are.is_held is)

  open_in : (set : ℕ) → IsMember f set → (id : ℕ) → Has set id → ¬ (Has held id) → Has undecided id
  open_in set m id is not_held = (are.is_open id).1
      (extra f set m id is (λ h. not_held (subst (λ (x : ℕ). Has x id) (sym are.is_held) h)))

  -- a set has what is held, and beside it only what is undecided
  either_in : (set : ℕ) → IsMember f set → (id : ℕ) → Has set id → Has held id ⊎ Has undecided id
  either_in set m id is = elim (cases_Bool (has held id)) [
    | inl there ↦ inl (from_has held id there)
    | inr not ↦ inr (open_in set m id is (λ h. false≢true (sym not ∙ has_true held id h)))
  ]

  pub asked_of : (ids id : ℕ) → IsSubset ids undecided → IsLowest ids id → IsUndecided f id
  asked_of ids id within low = (are.is_open id).0 (within id low.inside)

  -- ---- all of some ids

  module _ (ids missing : ℕ) (diff : IsDifference ids held missing) where
    pub all_held : missing ≡ 0 → InEachSet f (λ set d. has_all set ids ≡ true)
    all_held none set m = true_from_eq (bit_and ids set) ids (and_from_subset ids set (λ id is.
        elim (cases_Bool (has held id)) [
          | inl there ↦ held_in set m id (from_has held id there)
          | inr not ↦ absurd (none_in_empty id (subst (λ (s : ℕ). Has s id) none ((diff.exactly id).1
              (is, λ h. false≢true (sym not ∙ has_true held id h)))))
        ]))

    pub one_missing : ¬ (IsSubset missing undecided) → InEachSet f (λ set d. has_all set ids ≡ false)
    one_missing never set m = false_from_ne (bit_and ids set) ids (λ e. never (λ id is.
        let parts = (diff.exactly id).0 is in
        open_in set m id (subset_from_and ids set e id parts.0) parts.1))

  -- ---- none of some ids

  pub one_held : (ids id : ℕ) → IsLowest (bit_and held ids) id → InEachSet f (λ set d. has_none set ids ≡ false)
  one_held ids id low set m = false_from_ne (bit_and ids set) 0 (λ e.
      let both = (and_both held ids id).0 low.inside in
      none_in_empty id (subst (λ (s : ℕ). Has s id) e ((and_both ids set id).1 (both.1, held_in set m id both.0))))

  pub none_there : (ids : ℕ) → bit_and held ids ≡ 0 → bit_and undecided ids ≡ 0
      → InEachSet f (λ set d. has_none set ids ≡ true)
  none_there ids none empty set m = true_from_eq (bit_and ids set) 0 (same_set (bit_and ids set) 0
      (λ id is.
      let both = (and_both ids set id).0 is in
      absurd (elim (either_in set m id both.1) [
        | inl there ↦ none_in_empty id (subst (λ (s : ℕ). Has s id) none ((and_both held ids id).1 (there, both.0)))
        | inr free ↦ none_in_empty id (subst (λ (s : ℕ). Has s id) empty ((and_both undecided ids id).1 (free, both.0)))
      ]))
      (λ id is. absurd (none_in_empty id is)))

  -- ---- sets as numbers

  pub large_all : (number : ℕ) → number ≤ held → InEachSet f (λ set d. nat_le number set ≡ true)
  large_all number le set m = at_least number set (omega (arith, le, subset_le held set (held_in set m)))
    where
      at_least : (a b : ℕ) → a ≤ b → nat_le a b ≡ true
      at_least a b le = grind (arith, tests)

  pub small_all : (number : ℕ) → bit_or held undecided < number → InEachSet f (λ set d. nat_le number set ≡ false)
  small_all number less set m =
      let within : IsSubset set (bit_or held undecided) = λ id is. elim (either_in set m id is) [
        | inl there ↦ in_or_left held undecided id there
        | inr free ↦ in_or_right held undecided id free
      ] in
      above number set (omega (arith, less, subset_le set (bit_or held undecided) within))
    where
      above : (a b : ℕ) → b < a → nat_le a b ≡ false
      above a b less = grind (arith, tests)

  -- nothing is open
  pub small_held : (number : ℕ) → held < number → undecided ≡ 0 → InEachSet f (λ set d. nat_le number set ≡ false)
  small_held number less none set m =
      let within : IsSubset set held = λ id is. elim (either_in set m id is) [
        | inl there ↦ there
        | inr free ↦ absurd (none_in_empty id (subst (λ (s : ℕ). Has s id) none free))
      ] in
      above number set (omega (arith, less, subset_le set held within))
    where
      above : (a b : ℕ) → b < a → nat_le a b ≡ false
      above a b less = grind (arith, tests)

-- ---- answers put together

module _ (f : Family) (P Q : ℕ → Disk → Bool) where
  abbrev disk : ℕ → Disk
  disk set = image_after_replay (image_of f.base f.patches set)

  pub both_first : (second : Result Bool ℕ) → IsKnownOfSets f P (Ok true) → IsKnownOfSets f Q second
      → IsKnownOfSets f (λ set d. P set d && Q set d) second
  both_first (Ok b) p q = λ set m. ap (λ (x : Bool). x && Q set (disk set)) (p set m) ∙ q set m
  both_first (Err id) p q = q

  pub both_none : IsKnownOfSets f P (Ok false) → IsKnownOfSets f (λ set d. P set d && Q set d) (Ok false)
  both_none p = λ set m. ap (λ (x : Bool). x && Q set (disk set)) (p set m)

  pub both_none_right : IsKnownOfSets f Q (Ok false) → IsKnownOfSets f (λ set d. P set d && Q set d) (Ok false)
  both_none_right q = λ set m. and_false (P set (disk set)) (Q set (disk set)) (q set m)
    where
      and_false : (a b : Bool) → b ≡ false → (a && b) ≡ false
      and_false true b e = e
      and_false false b e = refl

  pub either_first : (second : Result Bool ℕ) → IsKnownOfSets f P (Ok false) → IsKnownOfSets f Q second
      → IsKnownOfSets f (λ set d. P set d || Q set d) second
  either_first (Ok b) p q = λ set m. ap (λ (x : Bool). x || Q set (disk set)) (p set m) ∙ q set m
  either_first (Err id) p q = q

  pub either_all : IsKnownOfSets f P (Ok true) → IsKnownOfSets f (λ set d. P set d || Q set d) (Ok true)
  either_all p = λ set m. ap (λ (x : Bool). x || Q set (disk set)) (p set m)

  pub either_all_right : IsKnownOfSets f Q (Ok true) → IsKnownOfSets f (λ set d. P set d || Q set d) (Ok true)
  either_all_right q = λ set m. or_true (P set (disk set)) (Q set (disk set)) (q set m)
    where
      or_true : (a b : Bool) → b ≡ true → (a || b) ≡ true
      or_true true b e = refl
      or_true false b e = e
