-- Promises do not depend on whether blocks are written whole.
use Rattle.std.proofs.Common.{◌≡◌, ℕ, ◌+◌, ◌^◌, nat_lt, List, [], ◌∷◌, ◌++◌, length, map, Bool, true, false, refl, ap}
use Rattle.std.proofs.Common.{◌∙◌}
use Rattle.std.specs.Prelude.{Option, Some, None, is_some, if◌then◌else◌, Result, Ok, Err, option_to_list, bit_or}
use Rattle.crash_model.specs.Disk.{Disk}
use Rattle.crash_model.specs.Lists.{when}
use Rattle.crash_model.specs.Plan.{plan_of, unless, with_found, with_changes}
use Rattle.crash_model.specs.Promises.{Promise, allowance, paths_show, with_allowance, with_rests, rests_of}
use Rattle.crash_model.specs.Promises.{places_from, spare_at}
use Rattle.crash_model.specs.Promises.{spares_from, spares_of, touches, touching_from, ids_between}
use Rattle.crash_model.specs.Promises.{kept, held, durable, promise_of, promises_from, promises_of}
use Rattle.crash_model.specs.Paths.{is_same_path}
use Rattle.crash_model.specs.Trace.{Emitted, origin_at, journal_blocks, patches_by, trace_of_plan, step}
use Rattle.crash_model.specs.Tracing.{Tracing, trace_start}
use Rattle.crash_model.specs.WaitSteps.{target_found, when_found}
use Rattle.crash_model.specs.declared.modules.Module.{Module}
use Rattle.crash_model.specs.declared.names.Path.{Path}
use Rattle.crash_model.specs.declared.operations.Op.{Op}
use Rattle.crash_model.specs.declared.plans.Change.{Change}
use Rattle.crash_model.specs.declared.promises.Allowance.{Allowance}
use Rattle.crash_model.specs.declared.promises.Spare.{Spare as StandIn}
use Rattle.crash_model.specs.declared.ranges.Range.{Range}
use Rattle.crash_model.specs.declared.refusals.FsFault.{FsFault}
use Rattle.crash_model.specs.declared.refusals.TraceFault.{TraceFault}
use Rattle.crash_model.specs.declared.refusals.TraceFault.TheVariants as no
use Rattle.crash_model.specs.declared.steps.Act.{Act}
use Rattle.crash_model.specs.declared.steps.Act.TheVariants.{Do, Group, End, Depend, Sync, Fsync, Keep, Hold, Spare}
use Rattle.crash_model.specs.declared.steps.Target.TheVariants.{Root, At}
use Rattle.crash_model.specs.declared.steps.Step.{Step}
use Rattle.promise_steps.proofs.Finished.{places_at, spares_at, touching_at, promises_at}

module _ (w : Bool) where
  -- the same trace of blocks that are written so
  abbrev by_blocks : Tracing → Tracing
  by_blocks s = record s { whole = w }

  abbrev result_by : Result Tracing TraceFault → Result Tracing TraceFault
  result_by (Ok s) = Ok (by_blocks s)
  result_by (Err fault) = Err fault

  unless_by : (b : Bool) (fault : TraceFault) (r : Result Tracing TraceFault)
      → unless b fault (result_by r) ≡ result_by (unless b fault r)
  unless_by true fault r = refl
  unless_by false fault r = refl

  found_by : (line : ℕ) (found : Result ℕ FsFault) (s : Tracing)
      → when_found line found (by_blocks s) ≡ result_by (when_found line found s)
  found_by line (Ok inode) s = refl
  found_by line (Err fault) s = refl

  plan_by : (kind : Module) (line : ℕ) (op : Op) (s : Tracing) (plan : Result (List Change) FsFault)
      → trace_of_plan kind line op (by_blocks s) plan ≡ result_by (trace_of_plan kind line op s plan)
  plan_by kind line op s (Err fault) = refl
  plan_by kind line op s (Ok changes) =
      let after : Disk = with_changes s.disk changes in
      let more : List Emitted =
      patches_by kind after s.op_number s.journal (origin_at line op s.current s.forced) changes in
      let next : ℕ = s.journal + journal_blocks kind s.disk.blocks changes in
      let last : Result Tracing TraceFault =
      Ok (record s { disk = after; emitted = s.emitted ++ more; op_number = s.op_number + 1; journal = next }) in
      let full : Bool = nat_lt (4 + s.disk.journal) next in
      let many : Bool = nat_lt 124 (length s.emitted + length more) in
      ap (λ (r : Result Tracing TraceFault). unless full (no.JournalFull line) r)
      (unless_by many (no.TooManyPatches line) last)
      ∙ unless_by full (no.JournalFull line) (unless many (no.TooManyPatches line) last)

  end_by : (line : ℕ) (s : Tracing) (current : Option (List ℕ))
      → with_found current (no.GroupFault line)
      (λ a. Ok (by_blocks (record s { current = None; ended = s.ended ++ a ∷ [] })))
      ≡ result_by (with_found current (no.GroupFault line)
      (λ a. Ok (record s { current = None; ended = s.ended ++ a ∷ [] })))
  end_by line s None = refl
  end_by line s (Some a) = refl

  spare_by : (b : Bool) (line : ℕ) (found : Result ℕ FsFault) (s : Tracing)
      → (if b then Ok (by_blocks s) else when_found line found (by_blocks s))
      ≡ result_by (if b then Ok s else when_found line found s)
  spare_by true line found s = refl
  spare_by false line found s = found_by line found s

  step_by : (kind : Module) (s : Tracing) (line : ℕ) (act : Act)
      → step kind (by_blocks s) line act ≡ result_by (step kind s line act)
  step_by kind s line (Do op) = plan_by kind line op s (plan_of s.disk op)
  step_by kind s line (Group a) = unless_by _ (no.GroupFault line) _
  step_by kind s line End = end_by line s s.current
  step_by kind s line (Depend b a) = unless_by _ (no.GroupFault line) _
  step_by kind s line Sync = refl
  step_by kind s line (Fsync target) = found_by line (target_found s.disk target) _
  step_by kind s line (Keep paths) = refl
  step_by kind s line (Hold path) = refl
  step_by kind s line (Spare path other) = spare_by (is_same_path path other) line (target_found s.disk (At other)) s

  -- ---- what promises are made of

  rests_by : (rests : List Tracing) (allowed : List Allowance) (least : ℕ) (paths : List Path)
      → with_rests allowed least paths (map by_blocks rests) ≡ with_rests allowed least paths rests
  rests_by [] allowed least paths = refl
  rests_by (rest ∷ rests) allowed least paths =
      rests_by rests (with_allowance allowed least (paths_show rest.disk paths)) (2 ^ length rest.emitted) paths

  rest_by : (ss : List Tracing) → rests_of (map by_blocks ss) ≡ map by_blocks (rests_of ss)
  rest_by [] = refl
  rest_by (s ∷ []) = refl
  rest_by (s ∷ t ∷ ss) = by (is_some s.current) (rest_by (t ∷ ss))
    where
      by : (b : Bool) → rests_of (map by_blocks (t ∷ ss)) ≡ map by_blocks (rests_of (t ∷ ss))
          → (if b then rests_of (map by_blocks (t ∷ ss)) else by_blocks s ∷ rests_of (map by_blocks (t ∷ ss)))
          ≡ map by_blocks (if b then rests_of (t ∷ ss) else s ∷ rests_of (t ∷ ss))
      by true more = more
      by false more = ap (λ (rs : List Tracing). by_blocks s ∷ rs) more

  module _ (kind : Module) where
    places_by : (s : Tracing) (xs : List Step)
        → places_from kind (by_blocks s) xs ≡ map by_blocks (places_from kind s xs)
    places_by s [] = refl
    places_by s (x ∷ xs) = places_at kind (by_blocks s) x xs (step_by kind s x.line x.act)
        ∙ by (step kind s x.line x.act)
        (λ next. places_by next xs)
      where
        by : (r : Result Tracing TraceFault)
            → ((next : Tracing) → places_from kind (by_blocks next) xs ≡ map by_blocks (places_from kind next xs))
            → ◌≡◌ {A = List Tracing} (elim (result_by r) [
              | Ok next ↦ by_blocks s ∷ places_from kind next xs
              | Err _ ↦ by_blocks s ∷ []
            ]) (map by_blocks (elim r [ Ok next ↦ s ∷ places_from kind next xs | Err _ ↦ s ∷ [] ]))
        by (Ok next) more = ap (λ (ss : List Tracing). by_blocks s ∷ ss) (more next)
        by (Err fault) more = refl

    spares_by : (path : Path) (s : Tracing) (xs : List Step)
        → spares_from kind path (by_blocks s) xs ≡ spares_from kind path s xs
    spares_by path s [] = refl
    spares_by path s (x ∷ xs) = spares_at kind (by_blocks s) x xs path (step_by kind s x.line x.act)
        ∙ by (step kind s x.line x.act)
        (λ next. spares_by path next xs)
      where
        by : (r : Result Tracing TraceFault)
            → ((next : Tracing) → spares_from kind path (by_blocks next) xs ≡ spares_from kind path next xs)
            → ◌≡◌ {A = List StandIn} (elim (result_by r) [
              | Ok next ↦ spare_at path s.disk x.act ++ spares_from kind path next xs
              | Err _ ↦ []
            ]) (elim r [ Ok next ↦ spare_at path s.disk x.act ++ spares_from kind path next xs | Err _ ↦ [] ])
        by (Ok next) more = ap (λ (ss : List StandIn). spare_at path s.disk x.act ++ ss) (more next)
        by (Err fault) more = refl

    all_spares_by : (paths : List Path) (s : Tracing) (xs : List Step)
        → spares_of kind paths (by_blocks s) xs ≡ spares_of kind paths s xs
    all_spares_by [] s xs = refl
    all_spares_by (path ∷ []) s xs = spares_by path s xs
    all_spares_by (path ∷ other ∷ others) s xs = refl

    touching_by : (path : Path) (ranges : List Range) (s : Tracing) (xs : List Step)
        → touching_from kind path ranges (by_blocks s) xs ≡ touching_from kind path ranges s xs
    touching_by path ranges s [] = refl
    touching_by path ranges s (x ∷ xs) = touching_at kind (by_blocks s) x xs path ranges (step_by kind s x.line x.act)
        ∙ by (step kind s x.line x.act)
        (λ next. touching_by path ranges next xs)
      where
        by : (r : Result Tracing TraceFault)
            → ((next : Tracing) → touching_from kind path ranges (by_blocks next) xs
            ≡ touching_from kind path ranges next xs)
            → ◌≡◌ {A = ℕ} (elim (result_by r) [
              | Ok next ↦ bit_or
                  (if touches path ranges (by_blocks s) next
                  then ids_between (length s.emitted) (length next.emitted) else 0)
                  (touching_from kind path ranges next xs)
              | Err _ ↦ 0
            ]) (elim r [
              | Ok next ↦ bit_or
                  (if touches path ranges s next then ids_between (length s.emitted) (length next.emitted) else 0)
                  (touching_from kind path ranges next xs)
              | Err _ ↦ 0
            ])
        by (Ok next) more = ap (λ (n : ℕ). bit_or
            (if touches path ranges s next then ids_between (length s.emitted) (length next.emitted) else 0) n)
            (more next)
        by (Err fault) more = refl

    -- ---- promises

    kept_by : (line : ℕ) (paths : List Path) (here : Tracing) (xs : List Step)
        → kept kind line paths (by_blocks here) xs ≡ kept kind line paths here xs
    kept_by line paths here xs =
        rw (places_by here xs, rest_by (places_from kind here xs), all_spares_by paths here xs)
        (ap (λ (allowed : List Allowance). record (kept kind line paths here xs) { allowed = allowed })
        (rests_by (rests_of (places_from kind here xs)) (allowance 0 (paths_show here.disk paths) ∷ []) 0 paths))

    held_by : (line : ℕ) (path : Path) (here : Tracing) (xs : List Step)
        → held kind line path (by_blocks here) xs ≡ held kind line path here xs
    held_by line path here xs = rw (spares_by path here xs) refl

    durable_by : (line : ℕ) (path : Path) (here : Tracing) (xs : List Step)
        → durable kind line path (by_blocks here) xs ≡ durable kind line path here xs
    durable_by line path here xs = rw (spares_by path here xs, touching_by path _ here xs) refl

    when_by : (b : Bool) (p q : Promise) → p ≡ q → when b p ≡ when b q
    when_by b p q same = ap (λ (x : Promise). when b x) same

    promise_by : (is_durable : Bool) (line : ℕ) (act : Act) (here : Tracing) (xs : List Step)
        → promise_of kind is_durable line act (by_blocks here) xs ≡ promise_of kind is_durable line act here xs
    promise_by is_durable line (Do op) here xs = refl
    promise_by is_durable line (Group a) here xs = refl
    promise_by is_durable line End here xs = refl
    promise_by is_durable line (Depend b a) here xs = refl
    promise_by is_durable line Sync here xs = refl
    promise_by is_durable line (Fsync Root) here xs = refl
    promise_by is_durable line (Fsync (At path)) here xs = when_by is_durable _ _ (durable_by line path here xs)
    promise_by is_durable line (Keep paths) here xs = ap Some (kept_by line paths.items here xs)
    promise_by is_durable line (Hold path) here xs = ap Some (held_by line path here xs)
    promise_by is_durable line (Spare path other) here xs = refl

    promises_by : (is_durable : Bool) (s : Tracing) (xs : List Step)
        → promises_from kind is_durable (by_blocks s) xs ≡ promises_from kind is_durable s xs
    promises_by is_durable s [] = refl
    promises_by is_durable s (x ∷ xs) = promises_at kind (by_blocks s) x xs is_durable (step_by kind s x.line x.act)
        ∙ by (step kind s x.line x.act)
        (λ next. promises_by is_durable next xs)
      where
        by : (r : Result Tracing TraceFault)
            → ((next : Tracing) → promises_from kind is_durable (by_blocks next) xs
            ≡ promises_from kind is_durable next xs)
            → ◌≡◌ {A = List Promise} (elim (result_by r) [
              | Ok next ↦ option_to_list (promise_of kind is_durable x.line x.act next xs)
                  ++ promises_from kind is_durable next xs
              | Err _ ↦ []
            ]) (elim r [
              | Ok next ↦ option_to_list (promise_of kind is_durable x.line x.act next xs)
                  ++ promises_from kind is_durable next xs
              | Err _ ↦ []
            ])
        by (Ok next) more =
            ap (λ (o : Option Promise). option_to_list o ++ promises_from kind is_durable (by_blocks next) xs)
            (promise_by is_durable x.line x.act next xs)
            ∙ ap (λ (ps : List Promise). option_to_list (promise_of kind is_durable x.line x.act next xs) ++ ps)
            (more next)
        by (Err fault) more = refl

pub begins : (kind : Module) (is_durable whole : Bool) (base : Disk) (steps : List Step)
    → promises_from kind is_durable (trace_start whole base) steps ≡ promises_of kind is_durable base steps
unfolding promises_of
begins kind is_durable whole base steps = promises_by whole kind is_durable (trace_start false base) steps
