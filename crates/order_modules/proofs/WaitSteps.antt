-- Steps that wait.
use Rattle.std.proofs.Common.{◌≡◌, ℕ, List, [], ◌∷◌, ◌++◌, Bool, true, false, refl, sym, ap, ◌∙◌, subst}
use Rattle.std.specs.Prelude.{Option, Some, None, Result, Ok, Err, if◌then◌else◌}
use Rattle.std.proofs.lemmas.List.{map_push}
use Rattle.crash_model.specs.Disk.{Disk}
use Rattle.crash_model.specs.Layout.{target_of}
use Rattle.crash_model.specs.Plan.{then_ok, with_found, at_entry, walk_end, entry_named}
use Rattle.crash_model.specs.Refusals.{trace_fault}
use Rattle.crash_model.specs.Trace.{step}
use Rattle.crash_model.specs.Tracing.{Tracing}
use Rattle.crash_model.specs.WaitSteps.{target_found, when_found, with_wait}
use Rattle.crash_model.specs.Waiting.{ranges_of, fsync_forces, ids_from, forced_by_fsync, forced_by_sync}
use Rattle.crash_model.specs.declared.names.Path.{Path}
use Rattle.crash_model.specs.declared.plans.Change.{Change}
use Rattle.crash_model.specs.declared.ranges.Range.{Range}
use Rattle.crash_model.specs.declared.refusals.FsFault.{FsFault}
use Rattle.crash_model.specs.declared.refusals.FsFault.TheVariants.{NotFound}
use Rattle.crash_model.specs.declared.refusals.TraceFault.{TraceFault}
use Rattle.crash_model.specs.declared.modules.Module.{Module}
use Rattle.crash_model.specs.declared.steps.Act.{Act}
use Rattle.crash_model.specs.declared.steps.Act.TheVariants.{Sync, Fsync}
use Rattle.crash_model.specs.declared.steps.Target.{Target}
use Rattle.crash_model.specs.declared.steps.Target.TheVariants.{At}
use Rattle.traced_patches.specs.Labels.{wait_by, waits_by}
use Rattle.traced_patches.specs.declared.labels.Wait.{Wait}
use Rattle.order_modules.specs.Tracer.{Trace, Moves}

-- ---- what is found of a path

-- where an entry is found for a plan, its target is; and where it is refused, the target is refused alike
module _ (o : ℕ → Option ℕ) (t : ℕ → ℕ → ℕ) where
  found_here : (dir : ℕ) (e : Option ℕ) → with_found {B = List Change} e NotFound (λ k. Ok []) ≡ Ok []
      → (inode : ℕ) × (with_found {B = ℕ} e NotFound (λ k. Ok (t dir k)) ≡ Ok inode)
  found_here dir None is = absurd (cc)
  found_here dir (Some k) is = (t dir k, refl)

  refused_here : (dir : ℕ) (e : Option ℕ) (fault : FsFault)
      → with_found {B = List Change} e NotFound (λ k. Ok []) ≡ Err fault
      → with_found {B = ℕ} e NotFound (λ k. Ok (t dir k)) ≡ Err fault
  refused_here dir None fault is = let same : NotFound ≡ fault = cc in ap (λ (f : FsFault). Err f) same
  refused_here dir (Some k) fault is = absurd (cc)

  found_walk : (r : Result ℕ FsFault)
      → then_ok {B = List Change} r (λ dir. with_found (o dir) NotFound (λ k. Ok [])) ≡ Ok []
      → (inode : ℕ) × (then_ok {B = ℕ} r (λ dir. with_found (o dir) NotFound (λ k. Ok (t dir k))) ≡ Ok inode)
  found_walk (Err e) is = absurd (cc)
  found_walk (Ok dir) is = found_here dir (o dir) is

  refused_walk : (r : Result ℕ FsFault) (fault : FsFault)
      → then_ok {B = List Change} r (λ dir. with_found (o dir) NotFound (λ k. Ok [])) ≡ Err fault
      → then_ok {B = ℕ} r (λ dir. with_found (o dir) NotFound (λ k. Ok (t dir k))) ≡ Err fault
  refused_walk (Err e) fault is = let same : e ≡ fault = cc in ap (λ (f : FsFault). Err f) same
  refused_walk (Ok dir) fault is = refused_here dir (o dir) fault is

abbrev pub no_changes : ℕ → ℕ → ℕ → Result (List Change) FsFault
no_changes dir k inode = Ok []

pub path_found : (d : Disk) (path : Path) (line : ℕ) → at_entry d path no_changes ≡ Ok [] → (s : Tracing)
    → when_found line (target_found d (At path)) s ≡ Ok s
path_found d path line is s =
    let there = found_walk (λ dir. entry_named d dir path.last) (λ dir k. target_of d dir k)
    (walk_end d 0 path.through.items) is in
    ap (λ (r : Result ℕ FsFault). when_found line r s) there.1

pub path_refused : (d : Disk) (path : Path) (line : ℕ) (fault : FsFault) → at_entry d path no_changes ≡ Err fault
    → (s : Tracing) → when_found line (target_found d (At path)) s ≡ Err (trace_fault line fault)
path_refused d path line fault is s =
    ap (λ (r : Result ℕ FsFault). when_found line r s)
    (refused_walk (λ dir. entry_named d dir path.last) (λ dir k. target_of d dir k)
    (walk_end d 0 path.through.items) fault is)

-- ---- the steps

pub waits_push : (waits new : List Wait) (wait : Wait) → new ≡ waits ++ wait ∷ []
    → waits_by new ≡ waits_by waits ++ wait_by wait ∷ []
waits_push waits new wait more = ap (λ (ws : List Wait). waits_by ws) more ∙ map_push wait_by waits wait

-- the same answer
pub moves_to : (old new : Trace) (a b : Result Tracing TraceFault) → b ≡ a → Moves old new a → Moves old new b
moves_to old new a b same moves = subst (λ (r : Result Tracing TraceFault). Moves old new r) (sym same) moves

module _ (kind : Module) (s : Tracing) (line : ℕ) (act : Act) (target : Target) (is : act ≡ Fsync target) where
  pub fsync_step : (ids : ℕ) (ranges : List Range)
      → ((next : Tracing) → when_found line (target_found s.disk target) next ≡ Ok next)
      → ranges ≡ ranges_of s.disk target → ids ≡ ids_from 0 (fsync_forces kind ranges s.emitted) s.emitted
      → step kind s line act ≡ Ok (with_wait line act ids s)
  unfolding forced_by_fsync
  fsync_step ids ranges found are forced =
      ap (λ (a : Act). step kind s line a) is
      ∙ (found (with_wait line (Fsync target) (forced_by_fsync kind s.disk target s.emitted) s)
      ∙ (ap (λ (rs : List Range). Ok (with_wait line (Fsync target)
      (ids_from 0 (fsync_forces kind rs s.emitted) s.emitted) s)) (sym are)
      ∙ (ap (λ (n : ℕ). Ok (with_wait line (Fsync target) n s)) (sym forced)
      ∙ ap (λ (a : Act). Ok (with_wait line a ids s)) (sym is))))

  pub fsync_refused : (fault : TraceFault)
      → ((next : Tracing) → when_found line (target_found s.disk target) next ≡ Err fault)
      → step kind s line act ≡ Err fault
  fsync_refused fault refused =
      ap (λ (a : Act). step kind s line a) is
      ∙ refused (with_wait line (Fsync target) (forced_by_fsync kind s.disk target s.emitted) s)

pub sync_step : (kind : Module) (s : Tracing) (line : ℕ) (act : Act) (ids : ℕ) → act ≡ Sync
    → ids ≡ forced_by_sync kind s.emitted → step kind s line act ≡ Ok (with_wait line act ids s)
sync_step kind s line act ids is forced =
    ap (λ (a : Act). step kind s line a) is
    ∙ (ap (λ (n : ℕ). Ok (with_wait line Sync n s)) (sym forced)
    ∙ ap (λ (a : Act). Ok (with_wait line a ids s)) (sym is))

-- ---- a path that stands in for another

pub same_stands : {A : Type 0} (test : Bool) (a b : A) → test ≡ true → (if test then a else b) ≡ a
same_stands true a b t = refl
same_stands false a b t = absurd (cc)

pub other_stands : {A : Type 0} (test : Bool) (a b : A) → test ≡ false → (if test then a else b) ≡ b
other_stands true a b t = absurd (cc)
other_stands false a b t = refl
