-- What a step of making hands leaves.
use Rattle.std.specs.Prelude.{◌≡◌, ◌-◌, []}
use Rattle.hands.specs.Accounts.{account_of}
use Rattle.hands.specs.Known.{Way, Known}

module _ {T A : Type 0} where
  -- a hand with all parts and no ways
  abbrev pub IsBare : Known T A → Type 0
  IsBare hand = (hand.own ≡ account_of [] [] 17) × (hand.ways ≡ [])

  -- the hand that has given one part away
  abbrev pub with_one_less : Known T A → Known T A
  with_one_less hand = record hand { own = account_of hand.own.pushed hand.own.taken (hand.own.parts - 1) }

  -- a new way to the deque of a hand
  abbrev pub new_way : Known T A → Way T A
  new_way hand = record { home = hand.home; holds = account_of [] [] 1 }
