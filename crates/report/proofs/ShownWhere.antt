-- What is shown where a promise is broken.
use Rattle.std.proofs.Common.{◌≡◌, ℕ, List, [], ◌∷◌, Bool, true, false, Some, None, refl, sym, ap, ◌∙◌}
use Rattle.std.specs.Prelude.{Option, option_map, if◌then◌else◌, ◌==◌, ◌&&◌}
use Rattle.std.specs.List.{find}
use Rattle.arrayvec.specs.ArrayVec.{ArrayVec}
use Rattle.crash_model.specs.Disk.{Disk}
use Rattle.crash_model.specs.Promises.{Promise, is_broken, paths_show}
use Rattle.crash_model.specs.declared.showing.Shown.{Shown}
use Rattle.report.specs.Explaining.{shown_at}

module _ (promises : List Promise) (set : ℕ) (d : Disk) where
  abbrev pub first_of : ℕ → Option Promise
  first_of line = find (λ (p : Promise). p.line == line && is_broken p set d) promises

-- it is what the first that is found shows
shown_first : (promises : List Promise) (set : ℕ) (d : Disk) (line : ℕ) → shown_at promises set d line
    ≡ option_map (λ (p : Promise). paths_show d p.paths) (first_of promises set d line)
shown_first [] set d line = refl
shown_first (p ∷ ps) set d line = by_test (p.line == line && is_broken p set d) (shown_first ps set d line)
  where
    by_test : (test : Bool)
        → shown_at ps set d line ≡ option_map (λ (p : Promise). paths_show d p.paths) (first_of ps set d line)
        → (if test then Some (paths_show d p.paths) else shown_at ps set d line)
        ≡ option_map (λ (p : Promise). paths_show d p.paths) (if test then Some p else first_of ps set d line)
    by_test true others = refl
    by_test false others = others

abbrev list_of : List Shown → ArrayVec Shown
list_of shows = record { items = shows }

module _ (promises : List Promise) (set : ℕ) (d : Disk) where
  pub none_at : (line : ℕ) → first_of promises set d line ≡ None
      → None ≡ option_map list_of (shown_at promises set d line)
  none_at line none =
      sym (ap (option_map list_of) (shown_first promises set d line
      ∙ ap (option_map (λ (p : Promise). paths_show d p.paths)) none))

  pub one_at : (line : ℕ) (promise : Promise) (shows : ArrayVec Shown) → first_of promises set d line ≡ Some promise
      → shows.items ≡ paths_show d promise.paths → Some shows ≡ option_map list_of (shown_at promises set d line)
  one_at line promise shows first is = ap (λ (xs : List Shown). Some (list_of xs)) is
      ∙ sym (ap (option_map list_of) (shown_first promises set d line
      ∙ ap (option_map (λ (p : Promise). paths_show d p.paths)) first))
