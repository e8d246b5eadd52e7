-- What a worker's hand holds after it has stolen.
use Rattle.std.specs.Prelude.{◌≡◌, ℕ, ◌<◌, length, slice_index_or, slice_set}
use Rattle.hands.specs.Accounts.{with_taken}
use Rattle.hands.specs.Known.{Known}

-- the hand has taken the task by one of its ways, and is as it was in all else
pub record HasStolen {T A : Type 0} (before : Known T A) (task : T) (after : Known T A) : Type 0 where
  pub from : ℕ
  pub inside : from < length before.ways
  pub is : (d : _) → let way = slice_index_or before.ways from d in
      after ≡ record before { ways = slice_set before.ways from (record way { holds = with_taken way.holds task }) }
