-- The index words of a word, one after another.
use Rattle.std.proofs.Common.{◌≡◌, ℕ, ◌+◌, ◌-◌, ◌/◌, ◌%◌, ◌<◌, ◌≤◌, ap, sym, ◌∙◌, arith}
use Rattle.std.proofs.Math.Nat.{mod-add-mod, mod-eq_of_lt, mod-eq-sub-mod}
use Rattle.board_rule.specs.Layout.{slot}

slot_from : (places word first t : ℕ) → first ≡ slot places word 0 → slot places word t ≡ (first + t) % places
slot_from places word first t is = sym (mod-add-mod (word / 13) places t)
    ∙ ap (λ (a : ℕ). (a + t) % places) (let e : word / 13 ≡ word / 13 + 0 = omega arith in ap (λ (a : ℕ). a % places) e
    ∙ sym is)

pub slot_on : (places word first t : ℕ) → first ≡ slot places word 0 → first + t < places
    → first + t ≡ slot places word t
slot_on places word first t is below = sym (slot_from places word first t is ∙ mod-eq_of_lt below)

pub slot_wrapped : (places word first t : ℕ) → first ≡ slot places word 0 → first < places → t ≤ places
    → places ≤ first + t → first + t - places ≡ slot places word t
slot_wrapped places word first t is low near past = sym
    (slot_from places word first t is ∙ mod-eq-sub-mod past ∙ mod-eq_of_lt (omega (arith, low, near, past)))
