-- A crash can leave each failing set, and the block writes that are shown for a crash lead to its set.
use Rattle.std.proofs.Common.{◌≡◌, ℕ, List, length, get_or, All, sym, ◌∙◌}
use Rattle.std.proofs.lemmas.List.{length-map}
use Rattle.std.proofs.lemmas.List.Elements.{Contains-get_or}
use Rattle.patch_sets.specs.Closed.{AreEarlier, IsClosed}
use Rattle.patch_sets.specs.Machine.{CanLeave}
use Rattle.patch_sets.specs.Sets.{AreAllInOrder}
use Rattle.patch_sets.specs.Writes.{AreRuns}
use Rattle.patch_sets.proofs.Runs.{closed_left, runs_lead}
use Rattle.crash_model.specs.Disk.{Disk}
use Rattle.crash_model.specs.Checker.{Demands, IsFailingUnder}
use Rattle.crash_model.specs.Patches.{deps_of, homes_of}
use Rattle.crash_model.specs.declared.patches.Patch.{Patch}
use Rattle.report.specs.Made.{IsLed}
use Rattle.report.specs.Parts.{Crash}

pub failing_closed : (demands : Demands) (base : Disk) (patches : List Patch) (sets : List ℕ)
    → AreAllInOrder (IsFailingUnder demands base patches) sets → All (IsClosed (deps_of patches)) sets
failing_closed demands base patches sets are k d within =
    ((are.exactly (get_or sets k d)).0 (Contains-get_or sets k d within)).closed

module _ (patches : List Patch) (earlier : AreEarlier (deps_of patches)) where
  pub closed_are_left : (sets : List ℕ) → All (IsClosed (deps_of patches)) sets
      → All (CanLeave (deps_of patches) (homes_of patches)) sets
  closed_are_left sets closed k d within = closed_left (deps_of patches) (homes_of patches) (get_or sets k d) earlier
      (closed k d within)

  pub crash_leads : (c : Crash) → IsClosed (deps_of patches) c.set → AreRuns (homes_of patches) c.set c.writes
      → IsLed patches c
  crash_leads c closed runs =
      let long : length (homes_of patches) ≡ length (deps_of patches) = length-map patches (λ p. p.block)
      ∙ sym (length-map patches (λ p. p.deps)) in
      runs_lead (deps_of patches) (homes_of patches) long c.set earlier closed c.writes runs
