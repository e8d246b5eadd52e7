-- The least set that may show something, found allowance by allowance.
use Rattle.std.proofs.Common.{◌≡◌, ℕ, ◌+◌, ◌<◌, List, length, take, get_or, Bool, true, false, ◌&&◌, ◌||◌, arith, tests}
use Rattle.std.proofs.Common.{refl}
use Rattle.std.proofs.Common.{sym, ap, ◌∙◌}
use Rattle.std.specs.Prelude.{nat_le, min, Option, Some, None}
use Rattle.std.proofs.lemmas.List.Folds.{list_any_more}
use Rattle.crash_model.specs.Paths.{are_same_shown}
use Rattle.crash_model.specs.Promises.{is_allowed}
use Rattle.crash_model.specs.declared.promises.Allowance.{Allowance}
use Rattle.crash_model.specs.declared.showing.Shown.{Shown}
use Rattle.fault_deciding.specs.OfSets.{IsLeastFor, smaller_of}

module _ (allowed : List Allowance) (shows : List Shown) (i : ℕ) (a : Allowance) (below : i < length allowed)
    (is : a ≡ get_or allowed i a) where
  more : (set : ℕ) → is_allowed (take (i + 1) allowed) set shows
      ≡ (is_allowed (take i allowed) set shows || (nat_le a.least set && are_same_shown a.shows.items shows))
  more set =
      list_any_more (λ (x : Allowance). nat_le x.least set && are_same_shown x.shows.items shows) allowed i a below
      ∙ ap (λ (x : Allowance). is_allowed (take i allowed) set shows
      || (nat_le x.least set && are_same_shown x.shows.items shows)) (sym is)

  pub least_taken : (least : Option ℕ) → are_same_shown a.shows.items shows ≡ true
      → IsLeastFor (take i allowed) shows least
      → IsLeastFor (take (i + 1) allowed) shows (Some (smaller_of least a.least))
  least_taken None same old = λ set. more set ∙ rw (old set, same) (with_true (nat_le a.least set))
    where
      with_true : (b : Bool) → (false || (b && true)) ≡ b
      with_true true = refl
      with_true false = refl
  least_taken (Some least) same old = λ set. more set ∙ rw (old set, same) (smaller least a.least set)
    where
      smaller : (x y set : ℕ) → (nat_le x set || (nat_le y set && true)) ≡ nat_le (min x y) set
      smaller x y set = grind (arith, tests)

  pub least_left : (least : Option ℕ) → are_same_shown a.shows.items shows ≡ false
      → IsLeastFor (take i allowed) shows least → IsLeastFor (take (i + 1) allowed) shows least
  least_left None other old = λ set. more set ∙ rw (old set, other) (never (nat_le a.least set))
    where
      never : (b : Bool) → (false || (b && false)) ≡ false
      never true = refl
      never false = refl
  least_left (Some least) other old =
      λ set. more set ∙ rw (old set, other) (same (nat_le least set) (nat_le a.least set))
    where
      same : (a b : Bool) → (a || (b && false)) ≡ a
      same true b = refl
      same false true = refl
      same false false = refl
