-- Two faults are one, or they differ.
use Rattle.std.proofs.Common.{◌≡◌, ◌≢◌, refl}
use Rattle.std.proofs.Common.{sym, subst, ap, ◌∙◌, inl, inr}
use Rattle.std.specs.Prelude.{◌⊎◌}
use Rattle.std.specs.Ordering.{nat_cmp, is_eq, ordering_reverse}
use Rattle.std.specs.Cmp.Lexicographic.{slice_cmp, bytes_decides, texts_ties, nat_list_cmp_total}
use Rattle.std.specs.declared.cmp.Ordering.{Ordering}
use Rattle.std.specs.declared.cmp.Ordering.TheVariants.{Less, Equal, Greater}
use Rattle.crash_model.specs.FaultOrder.{numbers_of, IsFaultBefore}
use Rattle.crash_model.specs.declared.fault.Fault.{Fault}
use Rattle.crash_model.proofs.FaultNumbers.{same_fault}

compare : (f g : Fault) → IsFaultBefore f g ⊎ ((f ≡ g) ⊎ IsFaultBefore g f)
compare f g = by (slice_cmp nat_cmp (numbers_of f) (numbers_of g)) refl
  where
    by : (r : Ordering) → slice_cmp nat_cmp (numbers_of f) (numbers_of g) ≡ r → IsFaultBefore f g
        ⊎ ((f ≡ g) ⊎ IsFaultBefore g f)
    by Less e = inl e
    by Equal e = inr (inl (same_fault f g ((bytes_decides (numbers_of f) (numbers_of g)).0
        (texts_ties (numbers_of f) (numbers_of g) ∙ ap is_eq e))))
    by Greater e = inr (inr (nat_list_cmp_total.antisymm (numbers_of g) (numbers_of f) ∙ ap ordering_reverse e))

pub same_or_not : (f g : Fault) → (f ≡ g) ⊎ (f ≢ g)
same_or_not f g = by (compare f g)
  where
    less_or_greater : Less ≡ Greater → ⊥
    less_or_greater e = cc

    alone : (h : Fault) → IsFaultBefore h h → ⊥
    alone h before = less_or_greater (sym before ∙ (nat_list_cmp_total.antisymm (numbers_of h) (numbers_of h)
        ∙ ap ordering_reverse before))

    by : IsFaultBefore f g ⊎ ((f ≡ g) ⊎ IsFaultBefore g f) → (f ≡ g) ⊎ (f ≢ g)
    by (inl first) = inr (λ e. alone g (subst (λ (h : Fault). IsFaultBefore h g) e first))
    by (inr (inl e)) = inl e
    by (inr (inr last)) = inr (λ e. alone g (subst (λ (h : Fault). IsFaultBefore g h) e last))
