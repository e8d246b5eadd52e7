-- Promises step by step are those of the script.
use Rattle.std.proofs.Common.{◌≡◌, ℕ, List, [], ◌∷◌, ◌++◌, length, map, Bool, true, false, Option, Some, None, Result}
use Rattle.std.proofs.Common.{Ok, Err, inl, inr, bit_or, refl, sym, ap, ◌∙◌, append_assoc, append-nil}
use Rattle.std.specs.Prelude.{is_some, if◌then◌else◌, option_to_list, option_map}
use Rattle.std.specs.Int.Bits.{or_zero_l, or_zero_r}
use Rattle.std.proofs.lemmas.List.{map-append}
use Rattle.patch_sets.specs.Sets.{Has}
use Rattle.patch_sets.proofs.Bits.{same_set, in_or_cases, in_or_left, in_or_right}
use Rattle.crash_model.specs.Lists.{when}
use Rattle.crash_model.specs.Paths.{names_of}
use Rattle.crash_model.specs.Promises.{Promise, paths_show, allowance, with_rests, rests_of, places_from, spare_at}
use Rattle.crash_model.specs.Promises.{spares_from, spares_of, touched_ranges, touches, ids_between, touching_from}
use Rattle.crash_model.specs.Promises.{kept, held, durable, promise_of, promises_from}
use Rattle.crash_model.specs.Trace.{step}
use Rattle.crash_model.specs.Tracing.{Tracing}
use Rattle.crash_model.specs.declared.modules.Module.{Module}
use Rattle.crash_model.specs.declared.names.Path.{Path}
use Rattle.crash_model.specs.declared.promises.Allowance.{Allowance}
use Rattle.crash_model.specs.declared.promises.Spare.{Spare as StandIn}
use Rattle.crash_model.specs.declared.ranges.Range.{Range}
use Rattle.crash_model.specs.declared.refusals.TraceFault.{TraceFault}
use Rattle.crash_model.specs.declared.steps.Act.{Act}
use Rattle.crash_model.specs.declared.steps.Act.TheVariants.{Do, Group, End, Depend, Sync, Fsync, Keep, Hold, Spare}
use Rattle.crash_model.specs.declared.steps.Target.TheVariants.{Root, At}
use Rattle.crash_model.specs.declared.steps.Step.{Step}
use Rattle.promise_steps.specs.Underway.{Under, ends_with, ended, spared, with_rest, rested, advanced, started}
use Rattle.promise_steps.specs.Underway.{started_by, all_advanced}
use Rattle.promise_steps.specs.Underway.{rests_left, finished, all_finished, all_ended}

-- ---- sets

pub or_assoc : (a b c : ℕ) → bit_or (bit_or a b) c ≡ bit_or a (bit_or b c)
or_assoc a b c = same_set _ _ to from
  where
    to : (id : ℕ) → Has (bit_or (bit_or a b) c) id → Has (bit_or a (bit_or b c)) id
    to id has = elim (in_or_cases (bit_or a b) c id has) [
      | inl one ↦ elim (in_or_cases a b id one) [
        | inl x ↦ in_or_left a (bit_or b c) id x
        | inr y ↦ in_or_right a (bit_or b c) id (in_or_left b c id y)
      ]
      | inr z ↦ in_or_right a (bit_or b c) id (in_or_right b c id z)
    ]

    from : (id : ℕ) → Has (bit_or a (bit_or b c)) id → Has (bit_or (bit_or a b) c) id
    from id has = elim (in_or_cases a (bit_or b c) id has) [
      | inl x ↦ in_or_left (bit_or a b) c id (in_or_left a b id x)
      | inr two ↦ elim (in_or_cases b c id two) [
        | inl y ↦ in_or_left (bit_or a b) c id (in_or_right a b id y)
        | inr z ↦ in_or_right (bit_or a b) c id z
      ]
    ]

-- ---- rests

-- a place with those behind it
abbrev after_it : Tracing → List Tracing → List Tracing
after_it s rests = if is_some s.current then rests else s ∷ rests

rests_cons : (s t : Tracing) (ts ss : List Tracing) → ts ≡ t ∷ ss → rests_of (s ∷ ts) ≡ after_it s (rests_of ts)
rests_cons s t ts ss is = ap (λ (xs : List Tracing). rests_of (s ∷ xs)) is
    ∙ ap (λ (xs : List Tracing). after_it s (rests_of xs)) (sym is)

-- what a step that is taken, or refused, leads to
module _ (kind : Module) (s : Tracing) (x : Step) (xs : List Step) {r : Result Tracing TraceFault} where
  pub places_at : step kind s x.line x.act ≡ r → places_from kind s (x ∷ xs) ≡ (elim r [
    | Ok next ↦ s ∷ places_from kind next xs
    | Err _ ↦ s ∷ []
  ])
  places_at e = ap (λ (q : Result Tracing TraceFault). elim q [
    | Ok next ↦ s ∷ places_from kind next xs
    | Err _ ↦ s ∷ []
  ]) e

  rests_at : step kind s x.line x.act ≡ r → rests_left kind s (x ∷ xs) ≡ (elim r [
    | Ok next ↦ rests_of (places_from kind next xs)
    | Err _ ↦ if is_some s.current then s ∷ [] else []
  ])
  rests_at e = ap (λ (q : Result Tracing TraceFault). elim q [
    | Ok next ↦ rests_of (places_from kind next xs)
    | Err _ ↦ if is_some s.current then s ∷ [] else []
  ]) e

  pub spares_at : (path : Path) → step kind s x.line x.act ≡ r → spares_from kind path s (x ∷ xs) ≡ (elim r [
    | Ok next ↦ spare_at path s.disk x.act ++ spares_from kind path next xs
    | Err _ ↦ []
  ])
  spares_at path e = ap (λ (q : Result Tracing TraceFault). elim q [
    | Ok next ↦ spare_at path s.disk x.act ++ spares_from kind path next xs
    | Err _ ↦ []
  ]) e

  pub touching_at : (path : Path) (ranges : List Range) → step kind s x.line x.act ≡ r
      → touching_from kind path ranges s (x ∷ xs) ≡ (elim r [
        | Ok next ↦ bit_or
            (if touches path ranges s next then ids_between (length s.emitted) (length next.emitted) else 0)
            (touching_from kind path ranges next xs)
        | Err _ ↦ 0
      ])
  touching_at path ranges e = ap (λ (q : Result Tracing TraceFault). elim q [
    | Ok next ↦ bit_or
        (if touches path ranges s next then ids_between (length s.emitted) (length next.emitted) else 0)
        (touching_from kind path ranges next xs)
    | Err _ ↦ 0
  ]) e

  pub promises_at : (is_durable : Bool) → step kind s x.line x.act ≡ r
      → promises_from kind is_durable s (x ∷ xs) ≡ (elim r [
        | Ok next ↦ option_to_list (promise_of kind is_durable x.line x.act next xs)
            ++ promises_from kind is_durable next xs
        | Err _ ↦ []
      ])
  promises_at is_durable e = ap (λ (q : Result Tracing TraceFault). elim q [
    | Ok next ↦ option_to_list (promise_of kind is_durable x.line x.act next xs)
        ++ promises_from kind is_durable next xs
    | Err _ ↦ []
  ]) e

-- the places from one on begin with that one
places_begin : (kind : Module) (s : Tracing) (xs : List Step) → (ss : List Tracing) × (places_from kind s xs ≡ s ∷ ss)
places_begin kind s [] = ([], refl)
places_begin kind s (x ∷ xs) = by (step kind s x.line x.act) refl
  where
    by : (r : Result Tracing TraceFault) → step kind s x.line x.act ≡ r
        → (ss : List Tracing) × (places_from kind s (x ∷ xs) ≡ s ∷ ss)
    by (Ok next) e = (places_from kind next xs, places_at kind s x xs e)
    by (Err fault) e = ([], places_at kind s x xs e)

only_rest : (s : Tracing) (b : Bool) → s ∷ []
    ≡ (if b then (if b then s ∷ [] else []) else s ∷ (if b then s ∷ [] else []))
only_rest s true = refl
only_rest s false = refl

pub rests_split : (kind : Module) (s : Tracing) (xs : List Step)
    → rests_of (places_from kind s xs) ≡ after_it s (rests_left kind s xs)
rests_split kind s [] = only_rest s (is_some s.current)
rests_split kind s (x ∷ xs) = by (step kind s x.line x.act) refl
  where
    by : (r : Result Tracing TraceFault) → step kind s x.line x.act ≡ r
        → rests_of (places_from kind s (x ∷ xs)) ≡ after_it s (rests_left kind s (x ∷ xs))
    by (Ok next) e =
        let begin = places_begin kind next xs in
        ap (λ (ss : List Tracing). rests_of ss) (places_at kind s x xs e)
        ∙ (rests_cons s next (places_from kind next xs) begin.0 begin.1
        ∙ ap (λ (rests : List Tracing). after_it s rests) (sym (rests_at kind s x xs e)))
    by (Err fault) e =
        ap (λ (ss : List Tracing). rests_of ss) (places_at kind s x xs e)
        ∙ (only_rest s (is_some s.current)
        ∙ ap (λ (rests : List Tracing). after_it s rests) (sym (rests_at kind s x xs e)))

-- ---- parts of a promise

abbrev promise_with : Under → ℕ → List Allowance → List StandIn → Promise
promise_with u ends allowed spares = record u.promise { ends = ends; allowed = allowed; spares = spares }

abbrev allowed_with : Under → List Tracing → List Allowance
allowed_with u rests =
    if u.promise.keeps then with_rests u.promise.allowed u.least u.promise.paths rests else u.promise.allowed

abbrev finished_ends : Module → Tracing → List Step → Under → ℕ
finished_ends kind s xs u = ends_with u.lasts u.promise.ends (λ path. touching_from kind path u.ranges s xs)

-- a promise at a place that may be a rest, with the steps behind the place
module _ (kind : Module) (here : Tracing) (xs : List Step) where
  abbrev IsRested : Under → Bool → Type 0
  IsRested u grouped =
      finished kind here xs (if grouped then u else with_rest u here)
      ≡ promise_with u (finished_ends kind here xs u)
      (allowed_with u (if grouped then rests_left kind here xs else here ∷ rests_left kind here xs))
      (u.promise.spares ++ spares_of kind u.promise.paths here xs)

  rested_by : (keeps : Bool) (line : ℕ) (paths : List Path) (after ends : ℕ) (allowed : List Allowance)
      (spares : List StandIn) (least : ℕ) (lasts : Option Path) (ranges : List Range) (grouped : Bool)
      → IsRested (record {
        promise = record {
          line = line;
          keeps = keeps;
          paths = paths;
          after = after;
          ends = ends;
          allowed = allowed;
          spares = spares;
        };
        least = least;
        lasts = lasts;
        ranges = ranges;
      }) grouped
  rested_by true line paths after ends allowed spares least lasts ranges true = refl
  rested_by true line paths after ends allowed spares least lasts ranges false = refl
  rested_by false line paths after ends allowed spares least lasts ranges true = refl
  rested_by false line paths after ends allowed spares least lasts ranges false = refl

  rested_finished : (u : Under) → finished kind here xs (rested u here)
      ≡ promise_with u (finished_ends kind here xs u) (allowed_with u (after_it here (rests_left kind here xs)))
      (u.promise.spares ++ spares_of kind u.promise.paths here xs)
  rested_finished u =
      rested_by u.promise.keeps u.promise.line u.promise.paths u.promise.after u.promise.ends u.promise.allowed
      u.promise.spares u.least u.lasts u.ranges (is_some here.current)

-- ---- one step

module _ (kind : Module) (s next : Tracing) (x : Step) (xs : List Step)
    (goes : step kind s x.line x.act ≡ Ok next) where
  spares_on : (paths : List Path) → spares_of kind paths s (x ∷ xs) ≡ spared paths s x.act
      ++ spares_of kind paths next xs
  spares_on [] = refl
  spares_on (path ∷ []) = spares_at kind s x xs path goes
  spares_on (path ∷ other ∷ others) = refl

  -- the ids that end a promise, with those of an act
  ends_by : (lasts : Option Path) (ends : ℕ) (ranges : List Range)
      → ends_with lasts ends (λ path. touching_from kind path ranges s (x ∷ xs))
      ≡ ends_with lasts (ends_with lasts ends (λ path.
      if touches path ranges s next then ids_between (length s.emitted) (length next.emitted) else 0))
      (λ path. touching_from kind path ranges next xs)
  ends_by None ends ranges = refl
  ends_by (Some path) ends ranges =
      ap (bit_or ends) (touching_at kind s x xs path ranges goes)
      ∙ sym (or_assoc ends
      (if touches path ranges s next then ids_between (length s.emitted) (length next.emitted) else 0)
      (touching_from kind path ranges next xs))

  rests_on : rests_left kind s (x ∷ xs) ≡ after_it next (rests_left kind next xs)
  rests_on = rests_at kind s x xs goes ∙ rests_split kind next xs

  -- a promise with one more act, and the steps behind it
  pub finished_on : (u : Under) → finished kind s (x ∷ xs) u ≡ finished kind next xs (advanced u s x.act next)
  finished_on u =
      let v : Under = record u {
        promise = record u.promise {
          ends = ended u s next;
          spares = u.promise.spares ++ spared u.promise.paths s x.act;
        };
      } in
      let all : List StandIn = u.promise.spares ++ spares_of kind u.promise.paths s (x ∷ xs) in
      let ends : ℕ = finished_ends kind next xs v in
      ap (λ (e : ℕ). promise_with u e (allowed_with u (rests_left kind s (x ∷ xs))) all)
      (ends_by u.lasts u.promise.ends u.ranges)
      ∙ (ap (λ (rests : List Tracing). promise_with u ends (allowed_with u rests) all) rests_on
      ∙ (ap (λ (spares : List StandIn). promise_with u ends
      (allowed_with u (after_it next (rests_left kind next xs))) spares)
      (ap (λ (spares : List StandIn). u.promise.spares ++ spares) (spares_on u.promise.paths)
      ∙ sym (append_assoc u.promise.spares (spared u.promise.paths s x.act)
      (spares_of kind u.promise.paths next xs)))
      ∙ sym (rested_finished kind next xs v)))

  each_on : (us : List Under) → map (finished kind s (x ∷ xs)) us
      ≡ map (finished kind next xs) (map (λ u. advanced u s x.act next) us)
  each_on [] = refl
  each_on (u ∷ us) =
      ap (λ (p : Promise). p ∷ map (finished kind s (x ∷ xs)) us) (finished_on u)
      ∙ ap (λ (ps : List Promise). finished kind next xs (advanced u s x.act next) ∷ ps) (each_on us)

-- ---- the beginning of a promise

module _ (kind : Module) (is_durable : Bool) (line : ℕ) (here : Tracing) (xs : List Step) where
  -- that of a line keep
  keep_is : (paths : List Path) → finished kind here xs (rested (started line true paths None here) here)
      ≡ kept kind line paths here xs
  keep_is paths = rested_finished kind here xs (started line true paths None here)
      ∙ ap (λ (rests : List Tracing). record {
        line = line;
        keeps = true;
        paths = paths;
        after = here.forced;
        ends = 0;
        allowed = with_rests (allowance 0 (paths_show here.disk paths) ∷ []) 0 paths rests;
        spares = spares_of kind paths here xs;
      }) (sym (rests_split kind here xs))

  hold_is : (path : Path) → finished kind here xs (rested (started line false (path ∷ []) None here) here)
      ≡ held kind line path here xs
  hold_is path = rested_finished kind here xs (started line false (path ∷ []) None here)

  durable_is : (path : Path) → finished kind here xs (rested (started line false (path ∷ []) (Some path) here) here)
      ≡ durable kind line path here xs
  durable_is path = rested_finished kind here xs (started line false (path ∷ []) (Some path) here)
      ∙ ap (λ (e : ℕ). record (held kind line path here xs) { ends = e })
      (or_zero_l (touching_from kind path (touched_ranges here.disk (Some 0) (names_of path)) here xs))

  fsync_is : (b : Bool) (path : Path)
      → option_map (λ u. finished kind here xs (rested u here))
      (when b (started line false (path ∷ []) (Some path) here))
      ≡ when b (durable kind line path here xs)
  fsync_is true path = ap Some (durable_is path)
  fsync_is false path = refl

  started_is : (act : Act) → option_map (λ u. finished kind here xs (rested u here))
      (started_by is_durable line act here)
      ≡ promise_of kind is_durable line act here xs
  started_is (Do op) = refl
  started_is (Group a) = refl
  started_is End = refl
  started_is (Depend b a) = refl
  started_is Sync = refl
  started_is (Fsync Root) = refl
  started_is (Fsync (At path)) = fsync_is is_durable path
  started_is (Keep paths) = ap Some (keep_is paths.items)
  started_is (Hold path) = ap Some (hold_is path)
  started_is (Spare path other) = refl

mapped : (f : Under → Promise) (g : Under → Under) (o : Option Under)
    → map f (option_to_list (option_map g o)) ≡ option_to_list (option_map (λ u. f (g u)) o)
mapped f g None = refl
mapped f g (Some u) = refl

-- ---- all promises

module _ (kind : Module) (is_durable : Bool) (s : Tracing) (x : Step) (xs : List Step) where
  pub all_on : (us : List Under) (next : Tracing) → step kind s x.line x.act ≡ Ok next
      → all_finished kind is_durable s (x ∷ xs) us
      ≡ all_finished kind is_durable next xs (all_advanced is_durable us s x.line x.act next)
  all_on us next goes =
      let f : Under → Promise = finished kind next xs in
      let ahead : List Under = map (λ u. advanced u s x.act next) us in
      let begins : Option Under = option_map (λ u. rested u next) (started_by is_durable x.line x.act next) in
      let rest : List Promise = promises_from kind is_durable next xs in
      let made : promises_from kind is_durable s (x ∷ xs)
      ≡ option_to_list (promise_of kind is_durable x.line x.act next xs) ++ rest =
      promises_at kind s x xs is_durable goes in
      let new : option_to_list (promise_of kind is_durable x.line x.act next xs) ≡ map f (option_to_list begins) =
      ap (λ (o : Option Promise). option_to_list o) (sym (started_is kind is_durable x.line next xs x.act))
      ∙ sym (mapped f (λ u. rested u next) (started_by is_durable x.line x.act next)) in
      ap (λ (ps : List Promise). ps ++ promises_from kind is_durable s (x ∷ xs)) (each_on kind s next x xs goes us)
      ∙ (ap (λ (ps : List Promise). map f ahead ++ ps) (made ∙ ap (λ (ps : List Promise). ps ++ rest) new)
      ∙ (sym (append_assoc (map f ahead) (map f (option_to_list begins)) rest)
      ∙ ap (λ (ps : List Promise). ps ++ rest) (sym (map-append f ahead (option_to_list begins)))))

-- ---- the last place

module _ (kind : Module) (s : Tracing) where
  no_ends : (lasts : Option Path) (ends : ℕ) → ends_with lasts ends (λ path. 0) ≡ ends
  no_ends None ends = refl
  no_ends (Some path) ends = or_zero_r ends

  no_spares : (paths : List Path) → spares_of kind paths s [] ≡ []
  no_spares [] = refl
  no_spares (path ∷ []) = refl
  no_spares (path ∷ other ∷ others) = refl

  last_allowed : (keeps : Bool) (line : ℕ) (paths : List Path) (after ends : ℕ) (allowed : List Allowance)
      (spares : List StandIn) (least : ℕ) (lasts : Option Path) (ranges : List Range) (grouped : Bool)
      → let u : Under = record {
        promise = record {
          line = line;
          keeps = keeps;
          paths = paths;
          after = after;
          ends = ends;
          allowed = allowed;
          spares = spares;
        };
        least = least;
        lasts = lasts;
        ranges = ranges;
      } in promise_with u ends (allowed_with u (if grouped then s ∷ [] else [])) spares
      ≡ (if grouped then with_rest u s else u).promise
  last_allowed true line paths after ends allowed spares least lasts ranges true = refl
  last_allowed true line paths after ends allowed spares least lasts ranges false = refl
  last_allowed false line paths after ends allowed spares least lasts ranges true = refl
  last_allowed false line paths after ends allowed spares least lasts ranges false = refl

  finished_last : (u : Under) → finished kind s [] u ≡ (if is_some s.current then with_rest u s else u).promise
  finished_last u =
      let allowed : List Allowance = allowed_with u (if is_some s.current then s ∷ [] else []) in
      ap (λ (e : ℕ). promise_with u e allowed (u.promise.spares ++ spares_of kind u.promise.paths s []))
      (no_ends u.lasts u.promise.ends)
      ∙ (ap (λ (spares : List StandIn). promise_with u u.promise.ends allowed (u.promise.spares ++ spares))
      (no_spares u.promise.paths)
      ∙ (ap (λ (spares : List StandIn). promise_with u u.promise.ends allowed spares) (append-nil u.promise.spares)
      ∙ last_allowed u.promise.keeps u.promise.line u.promise.paths u.promise.after u.promise.ends u.promise.allowed
      u.promise.spares u.least u.lasts u.ranges (is_some s.current)))

  each_last : (us : List Under) → map (finished kind s []) us ≡ all_ended s us
  each_last [] = refl
  each_last (u ∷ us) =
      ap (λ (p : Promise). p ∷ map (finished kind s []) us) (finished_last u)
      ∙ ap (λ (ps : List Promise). (if is_some s.current then with_rest u s else u).promise ∷ ps) (each_last us)

  pub all_last : (is_durable : Bool) (us : List Under) → all_finished kind is_durable s [] us ≡ all_ended s us
  all_last is_durable us = append-nil (map (finished kind s []) us) ∙ each_last us

  -- ---- a step that is refused

  module _ (x : Step) (xs : List Step) (fault : TraceFault) (fails : step kind s x.line x.act ≡ Err fault) where
    refused_ends : (lasts : Option Path) (ends : ℕ) (ranges : List Range)
        → ends_with lasts ends (λ path. touching_from kind path ranges s (x ∷ xs)) ≡ ends_with lasts ends (λ path. 0)
    refused_ends None ends ranges = refl
    refused_ends (Some path) ends ranges = ap (bit_or ends) (touching_at kind s x xs path ranges fails)

    refused_spares : (paths : List Path) → spares_of kind paths s (x ∷ xs) ≡ spares_of kind paths s []
    refused_spares [] = refl
    refused_spares (path ∷ []) = spares_at kind s x xs path fails
    refused_spares (path ∷ other ∷ others) = refl

    refused_rests : rests_left kind s (x ∷ xs) ≡ rests_left kind s []
    refused_rests = rests_at kind s x xs fails

    refused_same : (u : Under) → finished kind s (x ∷ xs) u ≡ finished kind s [] u
    refused_same u =
        let all : List StandIn = u.promise.spares ++ spares_of kind u.promise.paths s (x ∷ xs) in
        let ends : ℕ = ends_with u.lasts u.promise.ends (λ path. 0) in
        ap (λ (e : ℕ). promise_with u e (allowed_with u (rests_left kind s (x ∷ xs))) all)
        (refused_ends u.lasts u.promise.ends u.ranges)
        ∙ (ap (λ (rests : List Tracing). promise_with u ends (allowed_with u rests) all) refused_rests
        ∙ ap (λ (spares : List StandIn). promise_with u ends (allowed_with u (rests_left kind s []))
        (u.promise.spares ++ spares)) (refused_spares u.promise.paths))

    each_refused : (us : List Under) → map (finished kind s (x ∷ xs)) us ≡ map (finished kind s []) us
    each_refused [] = refl
    each_refused (u ∷ us) =
        ap (λ (p : Promise). p ∷ map (finished kind s (x ∷ xs)) us) (refused_same u)
        ∙ ap (λ (ps : List Promise). finished kind s [] u ∷ ps) (each_refused us)

    pub all_refused : (is_durable : Bool) (us : List Under)
        → all_finished kind is_durable s (x ∷ xs) us ≡ all_ended s us
    all_refused is_durable us =
        let none : promises_from kind is_durable s (x ∷ xs) ≡ [] = promises_at kind s x xs is_durable fails in
        ap (λ (ps : List Promise). map (finished kind s (x ∷ xs)) us ++ ps) none
        ∙ (append-nil (map (finished kind s (x ∷ xs)) us) ∙ (each_refused us ∙ each_last us))
