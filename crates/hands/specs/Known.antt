-- A hand as contracts see it: its own deque, and the ways to all deques.
use Rattle.std.specs.Prelude.{List}
use Rattle.atomic_blocks.specs.Lent.{RowsId}
use Rattle.hands.specs.declared.account.Held.{Held}

module _ (T A : Type 0) where
  -- which deque a pass is of, and what it holds
  pub record Way : Type 0 where
    pub home : RowsId × A
    pub holds : Held T

  pub record Known : Type 0 where
    pub home : RowsId × A
    pub own : Held T
    pub ways : List Way
