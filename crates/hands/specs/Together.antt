-- The hands of one call of `hands`: which deques they are of, what new ones hold, and what stays of them.
use Rattle.std.specs.Prelude.{◌≡◌, ℕ, ◌-◌, ◌≤◌, List, [], length, map, All}
use Rattle.atomic_blocks.specs.Lent.{RowsId}
use Rattle.hands.specs.Accounts.{account_of}
use Rattle.hands.specs.Known.{Way, Known}

module _ {T A : Type 0} where
  abbrev pub way_homes : List (Way T A) → List (RowsId × A)
  way_homes ways = map (λ w. w.home) ways

  abbrev pub hand_homes : List (Known T A) → List (RowsId × A)
  hand_homes hands = map (λ h. h.home) hands

  -- ---- new

  abbrev pub IsFreshWay : Way T A → Type 0
  IsFreshWay w = w.holds ≡ account_of [] [] 1

  -- ways to these deques
  abbrev pub AreFreshWays : List (RowsId × A) → List (Way T A) → Type 0
  AreFreshWays homes ways = (way_homes ways ≡ homes) × All IsFreshWay ways

  abbrev pub IsFreshHand : List (RowsId × A) → Known T A → Type 0
  IsFreshHand homes hand = (hand.own ≡ account_of [] [] (17 - length homes)) × AreFreshWays homes hand.ways

  -- a hand for each deque, in order
  pub record AreFresh (workers : ℕ) (hands : List (Known T A)) : Type 0 where
    pub homes : List (RowsId × A)
    pub count : length homes ≡ workers
    pub own : hand_homes hands ≡ homes
    pub each : All (IsFreshHand homes) hands

  -- ---- in use

  -- a way that has one part still, and through which nothing was pushed
  abbrev pub IsWay : Way T A → Type 0
  IsWay w = (w.holds.parts ≡ 1) × (w.holds.pushed ≡ [])

  abbrev pub AreWays : List (RowsId × A) → List (Way T A) → Type 0
  AreWays homes ways = (way_homes ways ≡ homes) × All IsWay ways

  -- a hand with ways to these deques, whatever was pushed and taken
  abbrev pub IsHandOf : List (RowsId × A) → Known T A → Type 0
  IsHandOf homes hand = (hand.own.parts ≡ 17 - length homes) × AreWays homes hand.ways

  -- all hands of one call, whatever was pushed and taken
  pub record AreTogether (hands : List (Known T A)) : Type 0 where
    pub homes : List (RowsId × A)
    pub few : length homes ≤ 16
    pub own : hand_homes hands ≡ homes
    pub each : All (IsHandOf homes) hands

  -- a hand after some of its calls: its deque and its ways are the same
  abbrev pub IsSameHand : Known T A → Known T A → Type 0
  IsSameHand old new = (new.home ≡ old.home) × ((homes : List (RowsId × A)) → IsHandOf homes old → IsHandOf homes new)
