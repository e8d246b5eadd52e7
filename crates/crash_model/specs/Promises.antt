-- What lines of a script promise: what a crash leaves of their paths.
use Rattle.std.specs.Prelude.{ℕ, zero, suc, ◌+◌, ◌^◌, List, [], ◌∷◌, ◌++◌, length, map, take, drop, Bool, true, false}
use Rattle.std.specs.Prelude.{◌&&◌, ◌||◌, ◌==◌, not, nat_le, if◌then◌else◌, Option, Some, None, is_some, option_to_list}
use Rattle.std.specs.Prelude.{Ok, Err, bit_or, bit_and}
use Rattle.std.specs.List.{range_with_len, list_any}
use Rattle.crash_model.specs.declared.disk_bytes.TheConstants.{POINTERS_FROM, SLOTS, ENTRY_SIZE, SHOWN_BYTES}
use Rattle.patch_sets.specs.Sets.{with_id}
use Rattle.crash_model.specs.Disk.{Disk}
use Rattle.crash_model.specs.Layout.{pointer_of, entry_offset, target_of}
use Rattle.crash_model.specs.Lists.{when}
use Rattle.crash_model.specs.Plan.{entry_named}
use Rattle.crash_model.specs.Paths.{names_of, is_same_path, names_show, path_shows, is_same_shown, are_same_shown}
use Rattle.crash_model.specs.Tracing.{Tracing, trace_start}
use Rattle.crash_model.specs.Trace.{step}
use Rattle.crash_model.specs.Waiting.{range, inode_range, pointed_ranges, meets}
use Rattle.crash_model.specs.declared.ranges.Range.{Range}
use Rattle.crash_model.specs.declared.names.Path.{Path}
use Rattle.crash_model.specs.declared.showing.Shown.{Shown}
use Rattle.crash_model.specs.declared.promises.Allowance.{Allowance}
use Rattle.crash_model.specs.declared.promises.Spare.{Spare as StandIn}
use Rattle.crash_model.specs.declared.modules.Module.{Module}
use Rattle.crash_model.specs.declared.steps.Act.{Act}
use Rattle.crash_model.specs.declared.steps.Act.TheVariants.{Fsync, Keep, Hold, Spare}
use Rattle.crash_model.specs.declared.steps.Target.TheVariants.{At}
use Rattle.crash_model.specs.declared.steps.Step.{Step}

-- ---- promises

-- A promise of a line about its paths. It speaks of the sets that have all ids of `after` and none of `ends`.
pub record Promise : Type 0 where
  pub line : ℕ
  -- whether later rests are allowed, as the line `keep` says
  pub keeps : Bool
  pub paths : List Path
  pub after : ℕ
  pub ends : ℕ
  pub allowed : List Allowance
  pub spares : List StandIn

-- what several paths show, in their order
abbrev pub paths_show : Disk → List Path → List Shown
paths_show d paths = map (path_shows d) paths

abbrev pub allowance : ℕ → List Shown → Allowance
allowance least shows = record { least = least; shows = record { items = shows } }

-- ---- which sets break it

-- the set has all ids of a part, and the two have no id in common
abbrev pub has_all : ℕ → ℕ → Bool
has_all set part = bit_and part set == part

abbrev pub has_none : ℕ → ℕ → Bool
has_none set other = bit_and other set == 0

-- one of the lists that it allows the set
abbrev pub is_allowed : List Allowance → ℕ → List Shown → Bool
is_allowed allowed set shows = list_any (λ a. nat_le a.least set && are_same_shown a.shows.items shows) allowed

-- something stands in: a spare shows what it showed at its line
abbrev pub is_spared : List StandIn → Disk → Bool
is_spared spares d = list_any (λ spare. is_same_shown spare.shows (path_shows d spare.path)) spares

-- the image of a set after replay breaks it
unfoldable pub is_broken : Promise → ℕ → Disk → Bool
is_broken promise set d =
    has_all set promise.after && has_none set promise.ends
    && not (is_allowed promise.allowed set (paths_show d promise.paths)) && not (is_spared promise.spares d)

-- 10: a promise of the line is broken
abbrev pub breaks_line : List Promise → ℕ → Disk → ℕ → Bool
breaks_line promises set d line = list_any (λ promise. promise.line == line && is_broken promise set d) promises

-- ---- what a promise allows

-- the list with what may be shown, if it may not be shown already
abbrev pub with_allowance : List Allowance → ℕ → List Shown → List Allowance
with_allowance allowed least shows =
    if list_any (λ a. are_same_shown a.shows.items shows) allowed
    then allowed else allowed ++ allowance least shows ∷ []

-- What is shown at each rest, from the first that follows a line on. A set may show what is shown at a rest if it has a
-- patch behind the rest before, and so has begun an operation behind it; what is shown at the first, each set may show.
abbrev pub with_rests : List Allowance → ℕ → List Path → List Tracing → List Allowance
with_rests allowed least paths [] = allowed
with_rests allowed least paths (rest ∷ rests) =
    with_rests (with_allowance allowed least (paths_show rest.disk paths)) (2 ^ length rest.emitted) paths rests

-- the rests among some places of a script: those where no group is open, and the last
abbrev pub rests_of : List Tracing → List Tracing
rests_of [] = []
rests_of (s ∷ []) = s ∷ []
rests_of (s ∷ t ∷ ss) = if is_some s.current then rests_of (t ∷ ss) else s ∷ rests_of (t ∷ ss)

-- a place, and those behind the steps that follow it
abbrev pub places_from : Module → Tracing → List Step → List Tracing
places_from kind s [] = s ∷ []
places_from kind s (x ∷ xs) = elim (step kind s x.line x.act) [
  | Ok next ↦ s ∷ places_from kind next xs
  | Err _ ↦ s ∷ []
]

-- ---- spares

-- the spare that a step makes for a path
abbrev pub spare_at : Path → Disk → Act → List StandIn
spare_at path d (Spare of other) =
    if is_same_path of path then record { path = other; shows = path_shows d other } ∷ [] else []
spare_at path d _ = []

-- the spares of a path that steps make from a place on
abbrev pub spares_from : Module → Path → Tracing → List Step → List StandIn
spares_from kind path s [] = []
spares_from kind path s (x ∷ xs) = elim (step kind s x.line x.act) [
  | Ok next ↦ spare_at path s.disk x.act ++ spares_from kind path next xs
  | Err _ ↦ []
]

-- those of the paths of a promise: none where they are several
abbrev pub spares_of : Module → List Path → Tracing → List Step → List StandIn
spares_of kind (path ∷ []) s steps = spares_from kind path s steps
spares_of kind _ s steps = []

-- ---- what ends the promise of an fsync

-- Where a later change touches what a path shows: the entry that is taken in each directory on the way; the kind and
-- the pointers of the inode at the end; and how the blocks begin that it points to.
abbrev pub touched_ranges : Disk → Option ℕ → List (List ℕ) → List Range
touched_ranges d None names = []
touched_ranges d (Some inode) [] =
    inode_range inode 0 1 ∷ inode_range inode POINTERS_FROM SLOTS
    ∷ pointed_ranges d inode (λ block. range block 0 SHOWN_BYTES ∷ [])
touched_ranges d (Some dir) (name ∷ names) = elim (entry_named d dir name) [
  | Some k ↦ range (pointer_of d dir 0) (entry_offset k) ENTRY_SIZE
      ∷ touched_ranges d (Some (target_of d dir k)) names
  | None ↦ []
]

-- what the directories on the way of names show, and the names themselves
abbrev pub way_shows : Disk → List (List ℕ) → List Shown
way_shows d names = map (λ n. names_show d (take (n + 1) names)) (range_with_len 0 (length names))

-- an operation between two places touches a path, of which these are the ranges at the line
abbrev pub touches : Path → List Range → Tracing → Tracing → Bool
touches path ranges before after =
    not (are_same_shown (way_shows before.disk (names_of path)) (way_shows after.disk (names_of path)))
    || list_any (meets ranges) (drop (length before.emitted) after.emitted)

-- the ids from one number on and below another, as a set
abbrev pub ids_between : ℕ → ℕ → ℕ
ids_between from zero = 0
ids_between from (suc to) = if nat_le from to then with_id (ids_between from to) to else 0

-- the ids of the operations of steps that touch the path
abbrev pub touching_from : Module → Path → List Range → Tracing → List Step → ℕ
touching_from kind path ranges s [] = 0
touching_from kind path ranges s (x ∷ xs) = elim (step kind s x.line x.act) [
  | Ok next ↦ bit_or (if touches path ranges s next then ids_between (length s.emitted) (length next.emitted) else 0)
      (touching_from kind path ranges next xs)
  | Err _ ↦ 0
]

-- ---- the promises of a script

-- with what is shown at the line, `here`, and the steps behind it
abbrev pub kept : Module → ℕ → List Path → Tracing → List Step → Promise
kept kind line paths here steps = record {
  line = line;
  keeps = true;
  paths = paths;
  after = here.forced;
  ends = 0;
  allowed = with_rests (allowance 0 (paths_show here.disk paths) ∷ []) 0 paths (rests_of (places_from kind here steps));
  spares = spares_of kind paths here steps;
}

abbrev pub held : Module → ℕ → Path → Tracing → List Step → Promise
held kind line path here steps = record {
  line = line;
  keeps = false;
  paths = path ∷ [];
  after = here.forced;
  ends = 0;
  allowed = allowance 0 (path_shows here.disk path ∷ []) ∷ [];
  spares = spares_from kind path here steps;
}

-- of an fsync, if fsyncs promise: until a later operation touches the path
abbrev pub durable : Module → ℕ → Path → Tracing → List Step → Promise
durable kind line path here steps = record (held kind line path here steps) {
  ends = touching_from kind path (touched_ranges here.disk (Some 0) (names_of path)) here steps;
}

-- the promise of an act, right behind which a place is
abbrev pub promise_of : Module → Bool → ℕ → Act → Tracing → List Step → Option Promise
promise_of kind is_durable line (Keep paths) here steps = Some (kept kind line paths.items here steps)
promise_of kind is_durable line (Hold path) here steps = Some (held kind line path here steps)
promise_of kind is_durable line (Fsync (At path)) here steps = when is_durable (durable kind line path here steps)
promise_of kind is_durable line _ here steps = None

-- the promises of steps, in their order
abbrev pub promises_from : Module → Bool → Tracing → List Step → List Promise
promises_from kind is_durable s [] = []
promises_from kind is_durable s (x ∷ xs) = elim (step kind s x.line x.act) [
  | Ok next ↦ option_to_list (promise_of kind is_durable x.line x.act next xs)
      ++ promises_from kind is_durable next xs
  | Err _ ↦ []
]

-- the promises of a script over a base
unfoldable pub promises_of : Module → Bool → Disk → List Step → List Promise
promises_of kind is_durable base steps = promises_from kind is_durable (trace_start false base) steps
