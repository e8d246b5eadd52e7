-- What is left in a deque, by what all hands hold.
use Rattle.std.specs.Prelude.{◌≡◌, ℕ, ◌+◌, ◌<◌, List, length, slice_index_or, sum_by}
use Rattle.atomic_blocks.specs.Lent.{RowsId}
use Rattle.hands.specs.Accounts.{weigh}
use Rattle.hands.specs.Known.{Way, Known}
use Rattle.hands.specs.Together.{IsWay}

module _ {T A : Type 0} where
  -- what the hand's way to deque `of` holds as taken, weighed
  abbrev pub weigh_taken : (T → ℕ) → ℕ → Way T A → Known T A → ℕ
  weigh_taken weight of e hand = weigh weight (slice_index_or hand.ways of e).holds.taken

  -- What the owner and the ways of all hands hold as taken from deque `of` and what is left in it are together what the
  -- owner holds as pushed: none is lost or duplicated.
  abbrev pub IsRemainingIn : List (Known T A) → ℕ → List T → Type 0
  IsRemainingIn hands of left =
      (d : Known T A) (e : Way T A) (weight : T → ℕ)
      → let owner = slice_index_or hands of d in
      weigh weight owner.own.pushed
      ≡ weigh weight owner.own.taken + sum_by (weigh_taken weight of e) hands + weigh weight left

  -- the hand's way to deque `of` leads to this one
  abbrev pub LeadsTo : RowsId × A → ℕ → Known T A → Type 0
  LeadsTo home of hand =
      (of < length hand.ways)
      × ((e : Way T A) → let way = slice_index_or hand.ways of e in (way.home ≡ home) × IsWay way)
