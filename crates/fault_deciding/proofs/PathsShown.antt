-- What several paths show on each disk, found path by path, and whether something stands in.
use Rattle.std.proofs.Common.{◌≡◌, ℕ, ◌+◌, ◌<◌, List, [], ◌∷◌, ◌++◌, length, map, take, get_or, true, false, ◌||◌}
use Rattle.std.proofs.Common.{sym, ap, ap₂, ◌∙◌}
use Rattle.std.proofs.lemmas.List.{take_more, map-append}
use Rattle.std.proofs.lemmas.List.Folds.{list_any_at, list_any_more}
use Rattle.crash_model.specs.Patches.{image_of}
use Rattle.crash_model.specs.Paths.{path_shows, is_same_shown}
use Rattle.crash_model.specs.Promises.{is_spared}
use Rattle.crash_model.specs.declared.names.Path.{Path}
use Rattle.crash_model.specs.declared.promises.Spare.{Spare as StandIn}
use Rattle.crash_model.specs.declared.showing.Shown.{Shown}
use Rattle.known_bytes.specs.Reading.{Reading, InEachDisk, disk_of}

-- one path more
pub shows_more : (r : Reading) (paths : List Path) (i : ℕ) (path : Path) (shows new : List Shown) (shown : Shown)
    → i < length paths → path ≡ get_or paths i path → new ≡ shows ++ shown ∷ []
    → InEachDisk r (λ d. map (path_shows d) (take i paths) ≡ shows) → InEachDisk r (λ d. path_shows d path ≡ shown)
    → InEachDisk r (λ d. map (path_shows d) (take (i + 1) paths) ≡ new)
shows_more r paths i path shows new shown below is pushed old here = λ set m.
    let d = disk_of r (image_of r.family.base r.family.patches set) in
    ap (map (path_shows d)) (take_more paths i path below)
    ∙ (map-append (path_shows d) (take i paths) (get_or paths i path ∷ [])
    ∙ (ap₂ (λ (xs : List Shown) (x : Shown). xs ++ x ∷ []) (old set m) (ap (path_shows d) (sym is) ∙ here set m)
    ∙ sym pushed))

module _ (r : Reading) (spares : List StandIn) (i : ℕ) (spare : StandIn) (below : i < length spares)
    (is : spare ≡ get_or spares i spare) (shown : Shown)
    (here : InEachDisk r (λ d. path_shows d spare.path ≡ shown)) where
  pub spare_stands : is_same_shown spare.shows shown ≡ true → InEachDisk r (λ d. is_spared spares d ≡ true)
  spare_stands same = λ set m.
      let d = disk_of r (image_of r.family.base r.family.patches set) in
      list_any_at (λ (s : StandIn). is_same_shown s.shows (path_shows d s.path)) spares i spare below
      (ap (λ (s : StandIn). is_same_shown s.shows (path_shows d s.path)) (sym is)
      ∙ (ap (is_same_shown spare.shows) (here set m) ∙ same))

  pub spare_fails : is_same_shown spare.shows shown ≡ false → InEachDisk r (λ d. is_spared (take i spares) d ≡ false)
      → InEachDisk r (λ d. is_spared (take (i + 1) spares) d ≡ false)
  spare_fails other old = λ set m.
      let d = disk_of r (image_of r.family.base r.family.patches set) in
      list_any_more (λ (s : StandIn). is_same_shown s.shows (path_shows d s.path)) spares i spare below
      ∙ ap₂ (λ a b. a || b) (old set m) (ap (λ (s : StandIn). is_same_shown s.shows (path_shows d s.path)) (sym is)
      ∙ (ap (is_same_shown spare.shows) (here set m) ∙ other))
