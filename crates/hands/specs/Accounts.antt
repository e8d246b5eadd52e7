-- The account of a deque: what was taken and what is left are exactly what was pushed. No task is lost or duplicated.
use Rattle.std.specs.Prelude.{◌≡◌, ℕ, ◌+◌, List, [], ◌∷◌, ◌++◌, All}
use Rattle.hands.specs.declared.account.Held.{Held}

module _ {T : Type 0} where
  abbrev pub account_of : List T → List T → ℕ → Held T
  account_of pushed taken parts = record { pushed = pushed; taken = taken; parts = parts }

  -- the same with one more task that was pushed, or taken
  abbrev pub with_pushed : Held T → T → Held T
  with_pushed held task = account_of (held.pushed ++ task ∷ []) held.taken held.parts

  abbrev pub with_taken : Held T → T → Held T
  with_taken held task = account_of held.pushed (held.taken ++ task ∷ []) held.parts

  -- the weights of some tasks in all; two lists with the same weights for every weighing have the same tasks, each
  -- equally often
  abbrev pub weigh : (T → ℕ) → List T → ℕ
  weigh h [] = 0
  weigh h (x ∷ xs) = h x + weigh h xs

  abbrev pub total : (Held T → ℕ) → List (Held T) → ℕ
  total f [] = 0
  total f (v ∷ vs) = f v + total f vs

  -- a pass with no part has pushed and taken nothing
  abbrev pub IsIdle : Held T → Type 0
  IsIdle v = v.parts ≡ 0 → (v.pushed ≡ []) × (v.taken ≡ [])

  -- The rule of a deque: its passes have 17 parts in all, and what they hold as pushed is what they hold as taken and
  -- what the deque holds.
  pub record IsAccounted (items : List T) (views : List (Held T)) : Type 0 where
    pub parts : total (λ v. v.parts) views ≡ 17
    pub idle : All IsIdle views
    pub balance : (h : T → ℕ) → total (λ v. weigh h v.pushed) views ≡ total (λ v. weigh h v.taken) views + weigh h items
