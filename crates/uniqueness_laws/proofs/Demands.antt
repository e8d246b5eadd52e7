-- What a script demands is unique.
use Rattle.std.proofs.Common.{◌≡◌, ℕ, List, Bool, refl, sym, ap, ◌∙◌}
use Rattle.std.specs.Prelude.{Option, Some, None}
use Rattle.std.proofs.lemmas.Bool.{false≢true, eqb-true, eq-eqb}
use Rattle.std.specs.Int.{bit_at}
use Rattle.patch_sets.specs.Sets.{Has}
use Rattle.patch_sets.proofs.Bits.{same_set}
use Rattle.crash_model.specs.Disk.{Disk}
use Rattle.crash_model.specs.Strict.{IsKept}
use Rattle.crash_model.specs.Checker.{IsKeptIfStrict, Demands, Asked, AreDemands}
use Rattle.crash_model.specs.declared.steps.Step.{Step}
use Rattle.crash_model.specs.Promises.{Promise}

module _ (base : Disk) (steps : List Step) where
  kept_one : (kept other : ℕ) → IsKept base steps kept → IsKept base steps other → kept ≡ other
  kept_one kept other is also = same_set kept other (within kept other is also) (within other kept also is)
    where
      within : (a b : ℕ) → IsKept base steps a → IsKept base steps b → (id : ℕ) → Has a id → Has b id
      within a b is_a is_b id there = eqb-true (bit_at b id) 1
          (is_b id ∙ (sym (is_a id) ∙ eq-eqb (bit_at a id) 1 there))

pub one_kept : (strict : Bool) (base : Disk) (steps : List Step) (kept other : Option ℕ)
    → IsKeptIfStrict strict base steps kept → IsKeptIfStrict strict base steps other → kept ≡ other
one_kept strict base steps None None is also = refl
one_kept strict base steps None (Some other) is also = absurd (false≢true (sym is ∙ also.0))
one_kept strict base steps (Some kept) None is also = absurd (false≢true (sym also ∙ is.0))
one_kept strict base steps (Some kept) (Some other) is also = ap Some (kept_one base steps kept other is.1 also.1)

pub one_demands : (asked : Asked) (base : Disk) (steps : List Step) (demands other : Demands)
    → AreDemands asked base steps demands → AreDemands asked base steps other → demands ≡ other
one_demands asked base steps demands other is also =
    let demanding : Option ℕ → Option (List Disk) → Option (List Promise) → Option ℕ → Demands =
    λ kept disks promises counted. record { kept = kept; disks = disks; promises = promises; counted = counted } in
    ap (λ (kept : Option ℕ). demanding kept demands.disks demands.promises demands.counted)
    (one_kept asked.strict base steps demands.kept other.kept is.kept also.kept)
    ∙ (ap (λ (disks : Option (List Disk)). demanding other.kept disks demands.promises demands.counted)
    (is.disks ∙ sym also.disks)
    ∙ (ap (λ (promises : Option (List Promise)). demanding other.kept other.disks promises demands.counted)
    (is.promises ∙ sym also.promises)
    ∙ ap (λ (counted : Option ℕ). demanding other.kept other.disks other.promises counted)
    (is.counted ∙ sym also.counted)))
