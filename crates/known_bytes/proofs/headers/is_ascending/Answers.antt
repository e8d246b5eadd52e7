use Rattle.std.proofs.Common.{◌≡◌, ◌≤◌, ◌-◌, List, [], ◌∷◌, ℕ, length, drop, true, refl, sym, arith, length-drop, ◌∙◌}
use Rattle.crash_model.specs.Replay.{is_ascending}
use Rattle.known_bytes.proofs.headers.is_ascending.Goals as goal

short : (xs : List ℕ) → length xs ≤ 1 → is_ascending xs ≡ true
short [] h = refl
short (x ∷ []) h = refl
short (x ∷ y ∷ ys) h = absurd (omega arith)

pub returns : goal.returns
returns c = sym (short (drop (c.loop-i.i - 1) c.args.numbers.now)
    (omega (arith, length-drop (c.loop-i.i - 1) c.args.numbers.now))) ∙ c.loop-i.invariant
