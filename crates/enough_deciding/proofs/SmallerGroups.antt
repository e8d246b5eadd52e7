-- Groups of lines of which each set that is enough has one, made smaller.
use Rattle.std.proofs.Common.{◌≡◌, ℕ, inl, inr, subst, sym}
use Rattle.patch_sets.specs.Ends.{IsDifference}
use Rattle.patch_sets.specs.Sets.{Has, IsSubset, with_id}
use Rattle.patch_sets.proofs.Bits.{in_with_cases, in_with_old}
use Rattle.std.specs.Prelude.{Some}
use Rattle.enough_rules.specs.Asked.{IsFound, IsInEach}
use Rattle.enough_rules.proofs.Groups.{missed_within}

-- a part of a group of which each set that is enough has a line too
abbrev pub IsPartInEach : ℕ → (ℕ → Type 0) → ℕ → ℕ → Type 0
IsPartInEach all enough group part = IsInEach all enough part × IsSubset part group

-- all but a part of a group are asked about, with one line of the part
module _ (all part rest line asked : ℕ) (is : IsDifference all part rest) (with_line : asked ≡ with_id rest line)
    (within : IsSubset part all) where
  pub asked_within : Has part line → IsSubset asked all
  asked_within inside id has = elim (in_with_cases rest line id (subst (λ (s : ℕ). Has s id) with_line has)) [
    | inl same ↦ within id (subst (Has part) (sym same) inside)
    | inr old ↦ ((is.exactly id).0 old).0
  ]

  -- what is found of them is a smaller part
  pub smaller_part : (enough : ℕ → Type 0) (group other : ℕ) → IsSubset part group
      → IsFound all enough asked (Some other) → IsPartInEach all enough group other
  smaller_part enough group other of_group (each, misses) = (
    each,
    λ id has. of_group id
        (missed_within all part rest other is each.within (λ (at, old, too). misses
        (at, subst (λ (s : ℕ). Has s at) (sym with_line) (in_with_old rest line at old), too)) id has),
  )
