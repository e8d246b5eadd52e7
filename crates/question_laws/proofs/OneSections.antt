-- Crashes are determined by their sets, and so are the order of faults and the first set of a fault.
use Rattle.std.proofs.Common.{◌≡◌, ◌≢◌, ℕ, List, sym, subst, ap, ◌∙◌, inl, inr}
use Rattle.std.specs.Prelude.{◌⊎◌}
use Rattle.std.specs.Ordering.{ordering_reverse}
use Rattle.std.specs.Cmp.Lexicographic.{nat_list_cmp_total}
use Rattle.std.specs.declared.cmp.Ordering.TheVariants.{Less, Greater}
use Rattle.patch_sets.specs.Writes.{AreRuns}
use Rattle.patch_sets.proofs.Bits.{eq_or_not}
use Rattle.patch_sets.proofs.Writes.{one_runs}
use Rattle.crash_model.specs.Disk.{Disk}
use Rattle.crash_model.specs.FaultOrder.{numbers_of, IsFaultBefore}
use Rattle.crash_model.specs.FirstSets.{IsFirst}
use Rattle.crash_model.specs.Patches.{homes_of, image_of}
use Rattle.crash_model.specs.Replay.{image_after_replay}
use Rattle.crash_model.specs.declared.fault.Fault.{Fault}
use Rattle.crash_model.specs.declared.patches.Patch.{Patch}
use Rattle.question_model.specs.declared.decided_fault.DecidedFault.{DecidedFault}
use Rattle.report.specs.Made.{Detail, AreSections, IsSection, crash_of, found_of, section_of}
use Rattle.report.specs.FirstCrashes.{IsFirstCrash, decided_of}
use Rattle.report.specs.Parts.{Crash, Section}
use Rattle.report.specs.Found.{FirstCrash}
use Rattle.question_laws.proofs.Orders.{same_keyed}
use Rattle.question_laws.proofs.SetOrder.{order}

-- ---- crashes

module _ (detail : Detail) (base : Disk) (patches : List Patch) where
  writes_one : (c d : Crash) → AreRuns (homes_of patches) c.set c.writes → AreRuns (homes_of patches) d.set d.writes
      → c.set ≡ d.set → c.writes ≡ d.writes
  writes_one c d is also same =
      one_runs (homes_of patches) d.set c.writes d.writes
      (subst (λ (set : ℕ). AreRuns (homes_of patches) set c.writes) same is) also

  pub section_one : (s t : Section) → IsSection detail base patches s → IsSection detail base patches t
      → s.crash.set ≡ t.crash.set → s ≡ t
  section_one s t is also same =
      let writes : s.crash.writes ≡ t.crash.writes = writes_one s.crash t.crash is.runs also.runs same in
      is.whole ∙ ((λ i. section_of detail base patches (same i) (writes i)) ∙ sym also.whole)

  pub sections_one : (sets : List ℕ) (sections others : List Section) → AreSections detail base patches sets sections
      → AreSections detail base patches sets others → sections ≡ others
  sections_one sets sections others are also =
      same_keyed (λ (s : Section). s.crash.set) (IsSection detail base patches) section_one sections others
      (are.of_sets ∙ sym also.of_sets) are.each also.each

  pub made_one : (f g : FirstCrash) → IsFirstCrash detail base patches f → IsFirstCrash detail base patches g
      → decided_of f ≡ decided_of g → f ≡ g
  made_one f g is also same =
      let set : f.crash.set ≡ g.crash.set = ap (λ (d : DecidedFault). d.first) same in
      let of : f.fault.fault ≡ g.fault.fault = ap (λ (d : DecidedFault). d.fault) same in
      let writes : f.crash.writes ≡ g.crash.writes = writes_one f.crash g.crash is.runs also.runs set in
      let fault : f.fault ≡ g.fault =
      is.fault ∙ ((λ i. found_of detail (set i) (image_after_replay (image_of base patches (set i))) (of i))
      ∙ sym also.fault) in
      let crash : f.crash ≡ g.crash =
      is.crash ∙ ((λ i. crash_of detail base patches (set i) (writes i)) ∙ sym also.crash) in
      λ i. record { fault = fault i; crash = crash i }

-- ---- each fault once

less_or_greater : Less ≡ Greater → ⊥
less_or_greater e = cc

pub not_both : (f g : Fault) → IsFaultBefore f g → IsFaultBefore g f → ⊥
not_both f g before after =
    less_or_greater (sym before ∙ (nat_list_cmp_total.antisymm (numbers_of f) (numbers_of g)
    ∙ ap ordering_reverse after))

pub first_one : (P : ℕ → Type 0) (a b : ℕ) → IsFirst P a → IsFirst P b → a ≡ b
first_one P a b is also = by (eq_or_not a b)
  where
    by : (a ≡ b) ⊎ (a ≢ b) → a ≡ b
    by (inl e) = e
    by (inr apart) = elim (order a b apart) [
      | inl before ↦ absurd (also.first a is.among before)
      | inr before ↦ absurd (is.first b also.among before)
    ]
