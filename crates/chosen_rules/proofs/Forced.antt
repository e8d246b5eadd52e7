-- What lines of a set force before a line.
use Rattle.std.proofs.Common.{◌≡◌, ℕ, zero, suc, ◌+◌, ◌<◌, List, [], ◌∷◌, Bool, true, false, ◌&&◌, Some, arith, tests}
use Rattle.std.proofs.Common.{refl}
use Rattle.std.proofs.Common.{subst, inl, inr, nat_lt}
use Rattle.std.specs.Prelude.{slice_get, if◌then◌else◌}
use Rattle.std.proofs.lemmas.Bool.{and_parts}
use Rattle.patch_sets.specs.Sets.{Has, has}
use Rattle.patch_sets.proofs.Bits.{none_in_empty, in_or_cases, in_or_left, in_or_right}
use Rattle.patch_sets.proofs.Ids.{has_true, from_has}
use Rattle.crash_model.specs.ChosenWaits.{forced_from, forced_before}
use Rattle.crash_model.specs.Waiting.{Wait}

from_less : (a b : ℕ) → nat_lt a b ≡ true → a < b
from_less a b e = grind (arith, tests)

to_less : (a b : ℕ) → a < b → nat_lt a b ≡ true
to_less a b less = grind (arith, tests)

from_if : (b : Bool) (ids id : ℕ) → Has (if b then ids else 0) id → (b ≡ true) × Has ids id
from_if true ids id is = (refl, is)
from_if false ids id is = absurd (none_in_empty id is)

then_if : (a b : Bool) (ids id : ℕ) → a ≡ true → b ≡ true → Has ids id → Has (if a && b then ids else 0) id
then_if true true ids id t u is = is
then_if true false ids id t u is = absurd (cc)
then_if false b ids id t u is = absurd (cc)

-- a line of the set that forces the patch of an id; the first of the waits is at the place
record ForcesFrom (place : ℕ) (waits : List Wait) (chosen line id : ℕ) : Type 0 where
  pub k : ℕ
  pub wait : Wait
  pub at : slice_get waits k ≡ Some wait
  pub inside : Has chosen (place + k)
  pub before : wait.line < line
  pub forced : Has wait.ids id

module _ (chosen line id : ℕ) where
  from_forced : (place : ℕ) (waits : List Wait) → Has (forced_from place waits chosen line) id
      → ForcesFrom place waits chosen line id
  from_forced place [] is = absurd (none_in_empty id is)
  from_forced place (wait ∷ waits) is =
      elim (in_or_cases (if has chosen place && nat_lt wait.line line then wait.ids else 0)
      (forced_from (place + 1) waits chosen line) id is) [
        | inl here ↦
            let it = from_if (has chosen place && nat_lt wait.line line) wait.ids id here in
            let parts = and_parts (has chosen place) (nat_lt wait.line line) it.0 in
            let same : place ≡ place + 0 = omega arith in
            record {
              k = 0;
              wait = wait;
              at = refl;
              inside = subst (Has chosen) same (from_has chosen place parts.0);
              before = from_less wait.line line parts.1;
              forced = it.1;
            }
        | inr there ↦
            let it = from_forced (place + 1) waits there in
            let same : place + 1 + it.k ≡ place + suc it.k = omega arith in
            record {
              k = suc it.k;
              wait = it.wait;
              at = it.at;
              inside = subst (Has chosen) same it.inside;
              before = it.before;
              forced = it.forced;
            }
      ]

  to_forced : (place : ℕ) (waits : List Wait) (k : ℕ) (wait : Wait) → slice_get waits k ≡ Some wait
      → Has chosen (place + k) → wait.line < line → Has wait.ids id → Has (forced_from place waits chosen line) id
  to_forced place [] zero wait at inside before forced = absurd (cc)
  to_forced place [] (suc k) wait at inside before forced = absurd (cc)
  to_forced place (x ∷ xs) zero wait at inside before forced =
      let here : x ≡ wait = cc in
      let same : place + 0 ≡ place = omega arith in
      in_or_left (if has chosen place && nat_lt x.line line then x.ids else 0)
      (forced_from (place + 1) xs chosen line) id
      (then_if (has chosen place) (nat_lt x.line line) x.ids id (has_true chosen place (subst (Has chosen) same inside))
      (rw here (to_less wait.line line before)) (rw here forced))
  to_forced place (x ∷ xs) (suc k) wait at inside before forced =
      let same : place + suc k ≡ place + 1 + k = omega arith in
      in_or_right (if has chosen place && nat_lt x.line line then x.ids else 0)
      (forced_from (place + 1) xs chosen line) id
      (to_forced (place + 1) xs k wait at (subst (Has chosen) same inside) before forced)

-- a line of the set, before a line, that forces the patch of an id
pub record Forces (waits : List Wait) (chosen line id : ℕ) : Type 0 where
  pub place : ℕ
  pub wait : Wait
  pub at : slice_get waits place ≡ Some wait
  pub inside : Has chosen place
  pub before : wait.line < line
  pub forced : Has wait.ids id

module _ (waits : List Wait) (chosen line id : ℕ) where
  pub forced_by : Has (forced_before waits chosen line) id → Forces waits chosen line id
  unfolding forced_before
  forced_by is =
      let it = from_forced chosen line id 0 waits is in
      let same : 0 + it.k ≡ it.k = omega arith in
      record {
        place = it.k;
        wait = it.wait;
        at = it.at;
        inside = subst (Has chosen) same it.inside;
        before = it.before;
        forced = it.forced;
      }

  pub in_forced : (place : ℕ) (wait : Wait) → slice_get waits place ≡ Some wait → Has chosen place → wait.line < line
      → Has wait.ids id → Has (forced_before waits chosen line) id
  unfolding forced_before
  in_forced place wait at inside before forced =
      let same : place ≡ 0 + place = omega arith in
      to_forced chosen line id 0 waits place wait at (subst (Has chosen) same inside) before forced
