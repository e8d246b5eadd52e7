use Rattle.std.proofs.Common.{◌≡◌, ◌-◌, ◌∷◌, ◌++◌, length, replicate, take}
use Rattle.crash_model.proofs.names.Name.spelled.Given as goal

abbrev pub invariant-loop-c : goal.invariant-loop-c
invariant-loop-c l = l.out.items ≡ length l.self ∷ take l.c-index l.self

abbrev pub invariant-loop-i : goal.invariant-loop-i
invariant-loop-i l = l.out.items ≡ (length l.self ∷ l.self) ++ replicate (l._i - length l.self) 0
