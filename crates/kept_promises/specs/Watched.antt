-- Promises to which later steps can add, as values of the program.
use Rattle.std.specs.Prelude.{◌≡◌, ℕ, List, [], ◌∷◌, ◌++◌, length, map, Bool, false, if◌then◌else◌, Option, Some, None}
use Rattle.std.specs.Prelude.{is_some}
use Rattle.std.specs.List.{All}
use Rattle.crash_model.specs.Disk.{Disk}
use Rattle.crash_model.specs.Patches.{places_of}
use Rattle.crash_model.specs.Paths.{names_of, is_same_path, path_shows}
use Rattle.crash_model.specs.Promises.{way_shows, touches, ids_between}
use Rattle.crash_model.specs.Tracing.{Tracing}
use Rattle.crash_model.specs.declared.names.Path.{Path}
use Rattle.crash_model.specs.declared.ranges.Range.{Range}
use Rattle.promise_steps.specs.Underway.{Under, ended}
use Rattle.kept_promises.specs.declared.lasting.Lasting.{Lasting}
use Rattle.kept_promises.specs.declared.place.Place.{Place}
use Rattle.kept_promises.specs.declared.promising.Promising.{Promising}
use Rattle.kept_promises.specs.declared.underway.Underway.{Underway}

-- the place of a tracing
pub record IsPlaceOf {A : Type 0} (place : Place A) (s : Tracing) : Type 0 where
  pub disk : place.disk.now ≡ s.disk
  pub places : places_of place.graph.now ≡ map (λ e. e.place) s.emitted
  pub forced : place.forced ≡ s.forced
  pub grouped : place.is_in_group ≡ is_some s.current

-- ---- what an fsync watches

-- what is shown on its way is that of the disk there
abbrev pub IsWatchedAt : Lasting → Tracing → Type 0
IsWatchedAt l s = l.way.items ≡ way_shows s.disk (names_of l.path)

-- the ids between two places, if they touch the path
abbrev pub ends_by : Path → List Range → Tracing → Tracing → ℕ
ends_by path ranges s next =
    if touches path ranges s next then ids_between (length s.emitted) (length next.emitted) else 0

-- ---- a promise

abbrev pub path_watched : Option Lasting → Option Path
path_watched None = None
path_watched (Some l) = Some l.path

abbrev pub ranges_watched : Option Lasting → List Range
ranges_watched None = []
ranges_watched (Some l) = l.ranges.items

-- the promise as the definitions see it
abbrev pub under_of : {A : Type 0} → Underway A → Under
under_of u =
    record { promise = u.promise; least = u.least; lasts = path_watched u.lasts; ranges = ranges_watched u.lasts }

-- what it watches is as at a place
abbrev pub AreWatchedAt : Option Lasting → Tracing → Type 0
AreWatchedAt None s = Unit {0}
AreWatchedAt (Some l) s = IsWatchedAt l s

abbrev pub IsAt : {A : Type 0} → Underway A → Tracing → Type 0
IsAt u s = AreWatchedAt u.lasts s

-- with the ids that end it
abbrev pub with_ends : Under → Tracing → Tracing → Under
with_ends u s next = record u { promise = record u.promise { ends = ended u s next } }

-- a path is the only one of some
abbrev pub is_only : Path → List Path → Bool
is_only path (only ∷ []) = is_same_path path only
is_only path _ = false

-- with a spare, if the path is the only one of the promise
abbrev pub with_spares : Under → Disk → Path → Path → Under
with_spares u d path other = record u {
  promise = record u.promise {
    spares = u.promise.spares
        ++ (if is_only path u.promise.paths then record { path = other; shows = path_shows d other } ∷ [] else []);
  };
}

-- ---- all promises

abbrev pub unders_of : {A : Type 0} → Promising A → List Under
unders_of p = map under_of p.underway.items

abbrev pub AreAt : {A : Type 0} → Promising A → Tracing → Type 0
AreAt p s = All (λ u. IsAt u s) p.underway.items
