-- What is listed, and the block writes that lead to the sets of the crashes that are shown.
use Rattle.std.proofs.Common.{ℕ, List, length, map, All, arith, get_or, sym, subst}
use Rattle.std.proofs.Math.ListN.{get_or-map}
use Rattle.std.proofs.lemmas.List.{length-map}
use Rattle.std.proofs.lemmas.List.Elements.{Contains-get_or}
use Rattle.patch_sets.specs.Closed.{AreEarlier, IsClosed}
use Rattle.patch_sets.specs.Sets.{AreAllInOrder}
use Rattle.crash_model.specs.Checker.{Demands}
use Rattle.crash_model.specs.Disk.{Disk}
use Rattle.crash_model.specs.FirstSets.{HasFault}
use Rattle.crash_model.specs.Patches.{deps_of}
use Rattle.crash_model.specs.declared.patches.Patch.{Patch}
use Rattle.question_model.specs.Decided.{AreDecided}
use Rattle.question_model.specs.declared.decided_fault.DecidedFault.{DecidedFault}
use Rattle.report.specs.Made.{Detail, AreSections, IsLed}
use Rattle.report.specs.FirstCrashes.{IsFirstCrash, decided_of}
use Rattle.report.specs.Found.{FirstCrash}
use Rattle.report.specs.Parts.{Section}
use Rattle.report.proofs.Leading.{crash_leads}

-- each of the sets that are listed has the property
pub each_listed : (P : ℕ → Type 0) (sets : List ℕ) → AreAllInOrder P sets → All P sets
each_listed P sets are k d within = (are.exactly (get_or sets k d)).0 (Contains-get_or sets k d within)

-- what holds of each image holds of each item's image
all_of : {X Y : Type 0} (P : X → Type 0) (f : Y → X) (ys : List Y) → All P (map f ys) → All (λ y. P (f y)) ys
all_of P f ys all k d within = subst P (get_or-map f ys k d) (all k (f d) (omega (arith, within, length-map ys f)))

module _ (base : Disk) (patches : List Patch) where
  -- a crash can leave the first sets of decided faults
  pub decided_closed : (demands : Demands) (faults : List DecidedFault)
      → AreDecided (HasFault demands base patches) faults → All (λ f. IsClosed (deps_of patches) f.first) faults
  decided_closed demands faults are k d within = (are.each k d within).among.failing.closed

  pub sections_led : AreEarlier (deps_of patches) → (detail : Detail) (sets : List ℕ) (sections : List Section)
      → All (IsClosed (deps_of patches)) sets → AreSections detail base patches sets sections
      → All (λ s. IsLed patches s.crash) sections
  sections_led earlier detail sets sections closed are k d within =
      let of_sections = subst (All (IsClosed (deps_of patches))) (sym are.of_sets) closed in
      crash_leads patches earlier (get_or sections k d).crash
      (all_of (IsClosed (deps_of patches)) (λ s. s.crash.set) sections of_sections k d within)
      (are.each k d within).runs

  pub firsts_led : AreEarlier (deps_of patches) → (detail : Detail) (faults : List FirstCrash)
      → AreDecided (HasFault detail.demands base patches) (map decided_of faults)
      → All (IsFirstCrash detail base patches) faults → All (λ f. IsLed patches f.crash) faults
  firsts_led earlier detail faults decided made k d within =
      let closed = decided_closed detail.demands (map decided_of faults) decided in
      crash_leads patches earlier (get_or faults k d).crash
      (all_of (λ (f : DecidedFault). IsClosed (deps_of patches) f.first) decided_of faults closed k d within)
      (made k d within).runs
