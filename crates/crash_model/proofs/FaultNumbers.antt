-- A fault is known by its numbers.
use Rattle.std.proofs.Common.{◌≡◌, ℕ, zero, suc, List, [], ◌∷◌, refl, sym, ap, ◌∙◌}
use Rattle.crash_model.specs.FaultOrder.{numbers_of}
use Rattle.crash_model.specs.declared.fault.Fault.{Fault}
use Rattle.crash_model.specs.declared.fault.Fault.TheVariants.{Dangling, Twice, Unwritten, LowLinks, MarkedFree, Wild}
use Rattle.crash_model.specs.declared.fault.Fault.TheVariants.{Lost, NoBlock, HalfDone, BrokenPromise}

fault_with : List ℕ → Fault
fault_with (suc zero ∷ d ∷ k ∷ i ∷ []) = Dangling d k i
fault_with (suc (suc (suc zero)) ∷ i ∷ s ∷ b ∷ []) = Unwritten i s b
fault_with (suc (suc (suc (suc zero))) ∷ i ∷ e ∷ l ∷ []) = LowLinks i e l
fault_with (suc (suc (suc (suc (suc zero)))) ∷ i ∷ s ∷ b ∷ []) = MarkedFree i s b
fault_with (suc (suc (suc (suc (suc (suc zero))))) ∷ i ∷ s ∷ b ∷ []) = Wild i s b
fault_with (suc (suc (suc (suc (suc (suc (suc zero)))))) ∷ i ∷ _) = Lost i
fault_with (suc (suc (suc (suc (suc (suc (suc (suc zero))))))) ∷ i ∷ _) = NoBlock i
fault_with (suc (suc (suc (suc (suc (suc (suc (suc (suc zero)))))))) ∷ i ∷ _) = HalfDone
fault_with (suc (suc (suc (suc (suc (suc (suc (suc (suc (suc zero))))))))) ∷ line ∷ _) = BrokenPromise line
fault_with (n ∷ b ∷ _) = Twice b
fault_with _ = Twice 0

back : (f : Fault) → fault_with (numbers_of f) ≡ f
unfolding fault_with
back (Dangling d k i) = refl
back (Twice b) = refl
back (Unwritten i s b) = refl
back (LowLinks i e l) = refl
back (MarkedFree i s b) = refl
back (Wild i s b) = refl
back (Lost i) = refl
back (NoBlock i) = refl
back HalfDone = refl
back (BrokenPromise line) = refl

pub same_fault : (f g : Fault) → numbers_of f ≡ numbers_of g → f ≡ g
same_fault f g same = sym (back f) ∙ (ap fault_with same ∙ back g)
