-- A kind of fault is known by its number.
use Rattle.std.proofs.Common.{◌≡◌, ◌-◌, ◌<◌, List, [], ◌∷◌, refl, sym, ap, ◌∙◌, arith}
use Rattle.std.specs.Prelude.{slice_index_or}
use Rattle.crash_model.specs.FaultKinds.{kind_number}
use Rattle.crash_model.specs.declared.fault_kind.FaultKind.{FaultKind}
use Rattle.crash_model.specs.declared.fault_kind.FaultKind.TheVariants as kind
use Rattle.crash_model.specs.declared.fault_kind.TheConstants.{KINDS}

abbrev kinds : List FaultKind
kinds =
    kind.Dangling ∷ kind.Twice ∷ kind.Unwritten ∷ kind.LowLinks ∷ kind.MarkedFree ∷ kind.Wild ∷ kind.Lost
    ∷ kind.NoBlock ∷ kind.HalfDone ∷ kind.BrokenPromise ∷ []

kind_at_place : (a : FaultKind) → slice_index_or kinds (kind_number a - 1) kind.BrokenPromise ≡ a
kind_at_place kind.Dangling = refl
kind_at_place kind.Twice = refl
kind_at_place kind.Unwritten = refl
kind_at_place kind.LowLinks = refl
kind_at_place kind.MarkedFree = refl
kind_at_place kind.Wild = refl
kind_at_place kind.Lost = refl
kind_at_place kind.NoBlock = refl
kind_at_place kind.HalfDone = refl
kind_at_place kind.BrokenPromise = refl

pub same_kind : (a b : FaultKind) → kind_number a - 1 ≡ kind_number b - 1 → a ≡ b
same_kind a b e = sym (kind_at_place a) ∙ (ap (λ i. slice_index_or kinds i kind.BrokenPromise) e ∙ kind_at_place b)

pub kind_low : (a : FaultKind) → kind_number a - 1 < KINDS
kind_low kind.Dangling = omega arith
kind_low kind.Twice = omega arith
kind_low kind.Unwritten = omega arith
kind_low kind.LowLinks = omega arith
kind_low kind.MarkedFree = omega arith
kind_low kind.Wild = omega arith
kind_low kind.Lost = omega arith
kind_low kind.NoBlock = omega arith
kind_low kind.HalfDone = omega arith
kind_low kind.BrokenPromise = omega arith
