-- Promises to which later steps can add.
use Rattle.std.specs.Prelude.{ℕ, ◌^◌, List, [], ◌∷◌, ◌++◌, length, map, Bool, true, false, if◌then◌else◌, Option, Some}
use Rattle.std.specs.Prelude.{None, is_some, Ok, Err, bit_or, option_to_list, option_map}
use Rattle.crash_model.specs.Paths.{names_of}
use Rattle.crash_model.specs.Promises.{Promise, allowance, paths_show, with_allowance, with_rests, rests_of}
use Rattle.crash_model.specs.Promises.{places_from}
use Rattle.crash_model.specs.Promises.{spare_at, spares_of, touched_ranges, touches, ids_between, touching_from}
use Rattle.crash_model.specs.Promises.{promises_from}
use Rattle.crash_model.specs.Lists.{when}
use Rattle.crash_model.specs.Trace.{step}
use Rattle.crash_model.specs.Tracing.{Tracing}
use Rattle.crash_model.specs.declared.modules.Module.{Module}
use Rattle.crash_model.specs.declared.names.Path.{Path}
use Rattle.crash_model.specs.declared.promises.Spare.{Spare as StandIn}
use Rattle.crash_model.specs.declared.ranges.Range.{Range}
use Rattle.crash_model.specs.declared.steps.Act.{Act}
use Rattle.crash_model.specs.declared.steps.Act.TheVariants.{Fsync, Keep, Hold}
use Rattle.crash_model.specs.declared.steps.Step.{Step}
use Rattle.crash_model.specs.declared.steps.Target.TheVariants.{At}

-- what is promised so far; the least set, as a number, that may show what is shown at the next rest; and of an fsync
-- its path, with the ranges of which a change touches it
pub record Under : Type 0 where
  pub promise : Promise
  pub least : ℕ
  pub lasts : Option Path
  pub ranges : List Range

-- ---- one step

-- the ids that end a promise, with more of them if it is of an fsync
abbrev pub ends_with : Option Path → ℕ → (Path → ℕ) → ℕ
ends_with None ends more = ends
ends_with (Some path) ends more = bit_or ends (more path)

-- with the ids of an operation that touches the path
abbrev pub ended : Under → Tracing → Tracing → ℕ
ended u s next = ends_with u.lasts u.promise.ends (λ path.
    if touches path u.ranges s next then ids_between (length s.emitted) (length next.emitted) else 0)

-- the spare that an act adds: none where the paths are several
abbrev pub spared : List Path → Tracing → Act → List StandIn
spared (path ∷ []) s act = spare_at path s.disk act
spared _ s act = []

-- what may be shown, with what is shown at a rest
abbrev pub with_rest : Under → Tracing → Under
with_rest u here =
    if u.promise.keeps then record u {
      promise = record u.promise {
        allowed = with_allowance u.promise.allowed u.least (paths_show here.disk u.promise.paths);
      };
      least = 2 ^ length here.emitted;
    } else u

-- a place behind a step is a rest where no group is open
abbrev pub rested : Under → Tracing → Under
rested u here = if is_some here.current then u else with_rest u here

-- after one more act, between two places
abbrev pub advanced : Under → Tracing → Act → Tracing → Under
advanced u s act next =
    rested (record u {
      promise = record u.promise {
        ends = ended u s next;
        spares = u.promise.spares ++ spared u.promise.paths s act;
      };
    }) next

-- what an act promises, right behind which a place is
abbrev pub started : ℕ → Bool → List Path → Option Path → Tracing → Under
started line keeps paths lasts here = record {
  promise = record {
    line = line;
    keeps = keeps;
    paths = paths;
    after = here.forced;
    ends = 0;
    allowed = allowance 0 (paths_show here.disk paths) ∷ [];
    spares = [];
  };
  least = 0;
  lasts = lasts;
  ranges = elim lasts [ None ↦ [] | Some path ↦ touched_ranges here.disk (Some 0) (names_of path) ];
}

abbrev pub started_by : Bool → ℕ → Act → Tracing → Option Under
started_by is_durable line (Keep paths) here = Some (started line true paths.items None here)
started_by is_durable line (Hold path) here = Some (started line false (path ∷ []) None here)
started_by is_durable line (Fsync (At path)) here =
    when is_durable (started line false (path ∷ []) (Some path) here)
started_by is_durable line _ here = None

-- all promises after one more act
abbrev pub all_advanced : Bool → List Under → Tracing → ℕ → Act → Tracing → List Under
all_advanced is_durable us s line act next =
    map (λ u. advanced u s act next) us
    ++ option_to_list (option_map (λ u. rested u next) (started_by is_durable line act next))

-- ---- what is left

-- the rests behind a place
abbrev pub rests_left : Module → Tracing → List Step → List Tracing
rests_left kind s [] = if is_some s.current then s ∷ [] else []
rests_left kind s (x ∷ xs) = elim (step kind s x.line x.act) [
  | Ok next ↦ rests_of (places_from kind next xs)
  | Err _ ↦ if is_some s.current then s ∷ [] else []
]

-- a promise after the steps behind a place
abbrev pub finished : Module → Tracing → List Step → Under → Promise
finished kind s xs u = record u.promise {
  ends = ends_with u.lasts u.promise.ends (λ path. touching_from kind path u.ranges s xs);
  allowed = if u.promise.keeps
      then with_rests u.promise.allowed u.least u.promise.paths (rests_left kind s xs)
      else u.promise.allowed;
  spares = u.promise.spares ++ spares_of kind u.promise.paths s xs;
}

-- the promises so far after the steps behind a place, and those that these steps make
abbrev pub all_finished : Module → Bool → Tracing → List Step → List Under → List Promise
all_finished kind is_durable s xs us = map (finished kind s xs) us ++ promises_from kind is_durable s xs

-- the promises at the place behind the last step, which is a rest also where a group is open
abbrev pub all_ended : Tracing → List Under → List Promise
all_ended s us = map (λ u. (if is_some s.current then with_rest u s else u).promise) us
