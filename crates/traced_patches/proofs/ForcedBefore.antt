-- What lines of a set force before a line, found one after another.
use Rattle.std.proofs.Common.{◌≡◌, ℕ, ◌+◌, ◌<◌, ◌≤◌, List, length, drop, Bool, true, false, cond, bit_or, inl}
use Rattle.std.proofs.Common.{inr}
use Rattle.std.proofs.Common.{arith, tests, refl, sym, ap, subst, ◌∙◌}
use Rattle.std.specs.Prelude.{◌&&◌, nat_lt}
use Rattle.std.specs.List.{slice_index_or}
use Rattle.std.proofs.lemmas.List.{at_drop_more, drop_all}
use Rattle.std.specs.Int.Bits.{or_zero_l, or_zero_r}
use Rattle.patch_sets.specs.Sets.{Has, has}
use Rattle.patch_sets.proofs.Ids.{has_true, has_false}
use Rattle.patch_sets.proofs.Bits.{same_set, in_or_cases, in_or_left, in_or_right}
use Rattle.crash_model.specs.ChosenWaits.{forced_from}
use Rattle.traced_patches.specs.Labels.{wait_by, waits_by}
use Rattle.traced_patches.specs.declared.labels.Wait.{Wait}

-- ---- sets

or_forth : (a b c x : ℕ) → Has (bit_or (bit_or a b) c) x → Has (bit_or a (bit_or b c)) x
or_forth a b c x is = elim (in_or_cases (bit_or a b) c x is) [
  | inl first ↦ elim (in_or_cases a b x first) [
    | inl one ↦ in_or_left a (bit_or b c) x one
    | inr other ↦ in_or_right a (bit_or b c) x (in_or_left b c x other)
  ]
  | inr last ↦ in_or_right a (bit_or b c) x (in_or_right b c x last)
]

or_back : (a b c x : ℕ) → Has (bit_or a (bit_or b c)) x → Has (bit_or (bit_or a b) c) x
or_back a b c x is = elim (in_or_cases a (bit_or b c) x is) [
  | inl one ↦ in_or_left (bit_or a b) c x (in_or_left a b x one)
  | inr rest ↦ elim (in_or_cases b c x rest) [
    | inl other ↦ in_or_left (bit_or a b) c x (in_or_right a b x other)
    | inr last ↦ in_or_right (bit_or a b) c x last
  ]
]

or_assoc : (a b c : ℕ) → bit_or (bit_or a b) c ≡ bit_or a (bit_or b c)
or_assoc a b c = same_set _ _ (or_forth a b c) (or_back a b c)

-- ---- one line after another

module _ (waits : List Wait) (chosen line : ℕ) where
  abbrev pub forced_at : ℕ → List Wait → ℕ
  forced_at place rest = forced_from place (waits_by rest) chosen line

  -- these ids, and those of the lines from a place on, are all
  abbrev pub AreForced : ℕ → ℕ → Type 0
  AreForced place forced = bit_or forced (forced_at place (drop place waits)) ≡ forced_at 0 waits

  pub forced_first : AreForced 0 0
  forced_first = or_zero_l (forced_at 0 waits)

  module _ (place forced : ℕ) (wait : Wait) (inside : place < length waits)
      (is : wait ≡ slice_index_or waits place wait) (so_far : AreForced place forced) where
    abbrev of_wait : Wait → ℕ
    of_wait w = cond (has chosen place && nat_lt (wait_by w).line line) w.ids 0

    chosen_before : Has chosen place → wait.step.now.line < line → of_wait wait ≡ wait.ids
    chosen_before has_it before =
        let earlier : nat_lt wait.step.now.line line ≡ true = grind (arith, tests) in
        ap (λ (t : Bool). cond (t && nat_lt wait.step.now.line line) wait.ids 0) (has_true chosen place has_it)
        ∙ ap (λ (t : Bool). cond t wait.ids 0) earlier

    not_chosen : (Has chosen place → ⊥) → of_wait wait ≡ 0
    not_chosen has_not =
        ap (λ (t : Bool). cond (t && nat_lt wait.step.now.line line) wait.ids 0) (has_false chosen place has_not)

    not_before : line ≤ wait.step.now.line → of_wait wait ≡ 0
    not_before behind = go (has chosen place)
      where
        go : (t : Bool) → cond (t && nat_lt wait.step.now.line line) wait.ids 0 ≡ 0
        go true = let later : nat_lt wait.step.now.line line ≡ false = grind (arith, tests) in
            ap (λ (t : Bool). cond t wait.ids 0) later
        go false = refl

    here : forced_at place (drop place waits)
        ≡ bit_or (of_wait wait) (forced_at (place + 1) (drop (place + 1) waits))
    here = at_drop_more (forced_at place) waits place wait inside
        ∙ ap (λ (w : Wait). bit_or (of_wait w) (forced_at (place + 1) (drop (place + 1) waits))) (sym is)

    forced_more : (ids : ℕ) → of_wait wait ≡ ids → AreForced (place + 1) (bit_or forced ids)
    forced_more ids same = or_assoc forced ids (forced_at (place + 1) (drop (place + 1) waits))
        ∙ (ap (λ (n : ℕ). bit_or forced (bit_or n (forced_at (place + 1) (drop (place + 1) waits)))) (sym same)
        ∙ (ap (bit_or forced) (sym here) ∙ so_far))

    forced_same : of_wait wait ≡ 0 → AreForced (place + 1) forced
    forced_same none =
        ap (λ (n : ℕ). bit_or n (forced_at (place + 1) (drop (place + 1) waits))) (sym (or_zero_r forced))
        ∙ forced_more 0 none

    module _ (next : ℕ) where
      pub forced_with : Has chosen place → wait.step.now.line < line → next ≡ bit_or forced wait.ids
          → AreForced (place + 1) next
      forced_with has_it before to = subst (AreForced (place + 1)) (sym to)
          (forced_more wait.ids (chosen_before has_it before))

      pub forced_unchosen : (Has chosen place → ⊥) → next ≡ forced → AreForced (place + 1) next
      forced_unchosen has_not to = subst (AreForced (place + 1)) (sym to) (forced_same (not_chosen has_not))

      pub forced_behind : line ≤ wait.step.now.line → next ≡ forced → AreForced (place + 1) next
      forced_behind behind to = subst (AreForced (place + 1)) (sym to) (forced_same (not_before behind))

  pub forced_all : (place forced : ℕ) → length waits ≤ place → AreForced place forced → forced ≡ forced_at 0 waits
  forced_all place forced past so_far = sym (or_zero_r forced)
      ∙ (ap (λ (rest : List Wait). bit_or forced (forced_at place rest)) (sym (drop_all place waits past)) ∙ so_far)
