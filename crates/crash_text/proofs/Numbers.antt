-- The number of an outcome.
use Rattle.std.proofs.Common.{◌≡◌, length, Bool, Option, true, false, refl, ap}
use Rattle.std.specs.Int.{from_bool}
use Rattle.std.specs.Prelude.{Some, None, is_some, not, option_to_list, if◌then◌else◌}

-- 1 where there is a first crash
pub number_of : {X : Type 0} (first : Option X) → from_bool (is_some first) ≡ length (option_to_list first)
number_of None = refl
number_of (Some f) = refl

-- and 0 if there is none
pub none_number : {X : Type 0} (first : Option X) → first ≡ None → from_bool (is_some first) ≡ 0
none_number first none = ap (λ o. from_bool (is_some o)) none

-- 1 where a workload fails
pub number_of_failing : (none : Bool) → from_bool (not none) ≡ (if none then 0 else 1)
number_of_failing true = refl
number_of_failing false = refl
