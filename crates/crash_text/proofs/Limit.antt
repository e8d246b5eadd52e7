-- The steps up to the limit, one by one.
use Rattle.std.proofs.Common.{◌≡◌, ℕ, suc, ◌+◌, ◌<◌, ◌≤◌, List, [], ◌∷◌, ◌++◌, length, Bool, true, false}
use Rattle.std.proofs.Common.{append-nil, append_assoc, take, drop, get_or, ◌-◌, arith, refl, sym, ◌∙◌, ap}
use Rattle.std.proofs.lemmas.List.{at_drop_more, drop_all, take_all, take_more}
use Rattle.crash_model.specs.ChosenWaits.{up_to_wait, waits}
use Rattle.crash_model.specs.declared.steps.Step.{Step}
use Rattle.uniqueness_laws.proofs.FewWaits.{behind}

-- the steps up to the limit are those before a place, and what is left of those behind it
abbrev pub AreUpTo : ℕ → List Step → ℕ → ℕ → Type 0
AreUpTo most steps place waiting =
    up_to_wait most steps ≡ take place steps ++ up_to_wait (most - waiting) (drop place steps)

module _ (most : ℕ) (steps : List Step) (place waiting : ℕ) (d : Step) (inside : place < length steps)
    (so_far : AreUpTo most steps place waiting) where
  abbrev pub x : Step
  x = get_or steps place d

  abbrev pub left : List Step
  left = drop (place + 1) steps

  one_more : (ys : List Step) → take place steps ++ (x ∷ ys) ≡ take (place + 1) steps ++ ys
  one_more ys = sym (append_assoc (take place steps) (x ∷ []) ys)
      ∙ ap (λ (zs : List Step). zs ++ ys) (sym (take_more steps place d inside))

  here : (m : ℕ) (b : Bool) → waits x.act ≡ b → up_to_wait m (drop place steps) ≡ x ∷ behind m b left
  here m b same = at_drop_more (up_to_wait m) steps place d inside ∙ ap (λ (c : Bool). x ∷ behind m c left) same

  taken : (m : ℕ) (b : Bool) → most - waiting ≡ m → waits x.act ≡ b
      → up_to_wait most steps ≡ take (place + 1) steps ++ behind m b left
  taken m b same of_x = so_far ∙ (ap (λ (n : ℕ). take place steps ++ up_to_wait n (drop place steps)) same
      ∙ (ap (λ (ys : List Step). take place steps ++ ys) (here m b of_x) ∙ one_more (behind m b left)))

  -- a step that does not wait, one that does, and one past the limit
  pub quiet_more : waits x.act ≡ false → AreUpTo most steps (place + 1) waiting
  quiet_more of_x = taken (most - waiting) false refl of_x

  pub waiting_more : waiting < most → waits x.act ≡ true → AreUpTo most steps (place + 1) (waiting + 1)
  waiting_more room of_x = taken (suc (most - (waiting + 1))) true (omega (arith, room)) of_x

  pub past_limit : most ≤ waiting → waits x.act ≡ true → up_to_wait most steps ≡ take (place + 1) steps
  past_limit full of_x = taken 0 true (omega (arith, full)) of_x ∙ append-nil (take (place + 1) steps)

-- and all where none is past it
pub none_past : (most : ℕ) (steps : List Step) (place waiting : ℕ) → length steps ≤ place
    → AreUpTo most steps place waiting → up_to_wait most steps ≡ steps
none_past most steps place waiting end so_far = so_far
    ∙ (ap (λ (ys : List Step). take place steps ++ up_to_wait (most - waiting) ys) (drop_all place steps end)
    ∙ (append-nil (take place steps) ∙ take_all place steps end))
