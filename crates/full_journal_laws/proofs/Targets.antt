-- The blocks that changes touch.
use Rattle.std.proofs.Common.{◌≡◌, ◌≢◌, ℕ, zero, suc, ◌+◌, ◌<◌, ◌≤◌, inl, inr, List, [], ◌∷◌, Bool, true, false, nat_lt}
use Rattle.std.proofs.Common.{arith, tests, refl, sym, subst}
use Rattle.std.specs.List.{filter, list_any, list_all, range_with_len}
use Rattle.std.specs.Prelude.{◌==◌}
use Rattle.crash_model.specs.Disk.{Disk}
use Rattle.crash_model.specs.Trace.{touched_blocks}
use Rattle.crash_model.specs.Replay.{is_target, is_ascending}
use Rattle.crash_model.specs.declared.plans.Change.{Change}
use Rattle.full_journal_laws.proofs.Transactions.{AreAimed, change_places}
use Rattle.full_journal_laws.specs.Full.{IsOutside}
use Rattle.journal_replay.proofs.Targets.{bool_is, same_number, not_equal_test}
use Rattle.full_journal_laws.proofs.Images.{Avoid}

pub equal_test : (x y : ℕ) → x ≡ y → (x == y) ≡ true
equal_test x y h = grind (arith, tests)

-- ---- lists

pub all_filtered : (p q : ℕ → Bool) (xs : List ℕ) → ((x : ℕ) → q x ≡ true → p x ≡ true)
    → list_all p (filter q xs) ≡ true
all_filtered p q [] h = refl
all_filtered p q (x ∷ xs) h = elim (bool_is (q x)) [
  | inl t ↦ rw (t, h x t) (all_filtered p q xs h)
  | inr f ↦ rw f (all_filtered p q xs h)
]

-- what a filter leaves of a, a + 1, ..: all of it is at least a, and it ascends
pub least_filtered : (q : ℕ → Bool) (x a n : ℕ) → x < a → is_ascending (filter q (range_with_len a n)) ≡ true
    → is_ascending (x ∷ filter q (range_with_len a n)) ≡ true
least_filtered q x a zero h up = refl
least_filtered q x a (suc n) h up = elim (bool_is (q a)) [
  | inl t ↦ (rw (t, less x a h) (rw t at up))
  | inr f ↦ (rw f (least_filtered q x (a + 1) n (omega arith) (rw f at up)))
]
  where
    less : (x a : ℕ) → x < a → nat_lt x a ≡ true
    less x a h = grind (arith, tests)

pub ascending_filtered : (q : ℕ → Bool) (a n : ℕ) → is_ascending (filter q (range_with_len a n)) ≡ true
ascending_filtered q a zero = refl
ascending_filtered q a (suc n) = elim (bool_is (q a)) [
  | inl t ↦ rw t (least_filtered q a (a + 1) n (omega arith) (ascending_filtered q (a + 1) n))
  | inr f ↦ rw f (ascending_filtered q (a + 1) n)
]

pub any_filtered : (q : ℕ → Bool) (a n b : ℕ) → a ≤ b → b < a + n → q b ≡ true
    → list_any (λ x. x == b) (filter q (range_with_len a n)) ≡ true
any_filtered q a zero b from to h = absurd (omega arith)
any_filtered q a (suc n) b from to h = elim (bool_is (a == b)) [
  | inl same ↦ let t : q a ≡ true = subst (λ (m : ℕ). q m ≡ true) (sym (same_number a b same)) h in rw (t, same) refl
  | inr other ↦
      let apart : a ≢ b = not_equal_test a b other in
      elim (bool_is (q a)) [
        | inl t ↦ rw (t, other) (any_filtered q (a + 1) n b (grind arith) (omega arith) h)
        | inr f ↦ rw f (any_filtered q (a + 1) n b (grind arith) (omega arith) h)
      ]
]

-- ---- targets

-- no target is in the journal
pub target_out : (d : Disk) (b : ℕ) → is_target d b ≡ true → IsOutside d.journal b
target_out d b h = grind (arith, tests)

aimed_any : (d : Disk) (cs : List Change) (x : ℕ) → AreAimed d cs → list_any (λ (c : Change). c.block == x) cs ≡ true
    → is_target d x ≡ true
aimed_any d [] x aimed h = absurd (cc)
aimed_any d (c ∷ cs) x aimed h = elim (bool_is (c.block == x)) [
  | inl t ↦ subst (λ (b : ℕ). is_target d b ≡ true) (same_number c.block x t) aimed.0
  | inr f ↦ aimed_any d cs x aimed.1 (rw f at h)
]

pub touched_targets : (d : Disk) (n : ℕ) (cs : List Change) → AreAimed d cs
    → list_all (is_target d) (touched_blocks n cs) ≡ true
touched_targets d n cs aimed = all_filtered (is_target d) (λ b. list_any (λ c. c.block == b) cs) (range_with_len 0 n)
    (λ x. aimed_any d cs x aimed)

pub touched_ascending : (n : ℕ) (cs : List Change) → is_ascending (touched_blocks n cs) ≡ true
touched_ascending n cs = ascending_filtered (λ b. list_any (λ c. c.block == b) cs) 0 n

-- changes avoid the journal
pub avoid_journal : (d : Disk) (jl : ℕ) (cs : List Change) (x : ℕ) → d.journal ≡ jl → AreAimed d cs → 4 ≤ x → x < 4 + jl
    → Avoid x (change_places cs)
avoid_journal d jl [] x e aimed from to = tt
avoid_journal d jl (c ∷ cs) x e aimed from to = (
  (elim (target_out d c.block aimed.0) [
    | inl low ↦ grind arith
    | inr high ↦ grind arith
  ]),
  avoid_journal d jl cs x e aimed.1 from to,
)

avoid_none : (cs : List Change) (x : ℕ) → list_any (λ (c : Change). c.block == x) cs ≡ false
    → Avoid x (change_places cs)
avoid_none [] x h = tt
avoid_none (c ∷ cs) x h = elim (bool_is (c.block == x)) [
  | inl t ↦ let h' : true ≡ false = rw t at h in absurd (cc)
  | inr f ↦ ((let apart : c.block ≢ x = not_equal_test c.block x f in grind arith), avoid_none cs x (rw f at h))
]

-- changes avoid a block that is not among those they touch
pub avoid_untouched : (n : ℕ) (cs : List Change) (b : ℕ) → b < n → list_any (λ x. x == b) (touched_blocks n cs) ≡ false
    → Avoid b (change_places cs)
avoid_untouched n cs b below none = elim (bool_is (list_any (λ (c : Change). c.block == b) cs)) [
  | inl any ↦ let z : list_any (λ x. x == b) (touched_blocks n cs) ≡ true =
      any_filtered (λ x. list_any (λ c. c.block == x) cs) 0 n b (omega arith) (omega arith) any in absurd (cc)
  | inr f ↦ avoid_none cs b f
]
