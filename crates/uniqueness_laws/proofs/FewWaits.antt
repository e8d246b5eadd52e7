-- Where few lines wait, no step is cut off behind the last of them that is asked about.
use Rattle.std.proofs.Common.{◌≡◌, ℕ, zero, suc, ◌+◌, ◌≤◌, List, [], ◌∷◌, ◌++◌, length, Bool, true, false}
use Rattle.std.proofs.Common.{length-append, arith, refl, ap, IfOk}
use Rattle.std.specs.Prelude.{Option, Some, None, Result, Ok, Err, if◌then◌else◌, is_some, not, bytes_eq, ◌||◌, nat_lt}
use Rattle.std.specs.List.{list_any}
use Rattle.crash_model.specs.ChosenWaits.{up_to_wait, waits}
use Rattle.crash_model.specs.Disk.{Disk}
use Rattle.crash_model.specs.Emitted.{Emitted, origin_at}
use Rattle.crash_model.specs.Paths.{is_same_path}
use Rattle.crash_model.specs.Plan.{then_ok, unless, with_found, plan_of, with_changes}
use Rattle.crash_model.specs.Trace.{trace_from, trace_of_plan, step, is_among, is_same_group, patches_by}
use Rattle.crash_model.specs.Trace.{journal_blocks}
use Rattle.crash_model.specs.Tracing.{Tracing, trace_start}
use Rattle.crash_model.specs.WaitSteps.{when_found, target_found, with_wait}
use Rattle.crash_model.specs.Waiting.{Wait, forced_by_sync, forced_by_fsync}
use Rattle.crash_model.specs.declared.disk_bytes.TheConstants.{JOURNAL_AT}
use Rattle.crash_model.specs.declared.patches.TheConstants.{MAX_PATCHES}
use Rattle.crash_model.specs.declared.modules.Module.{Module}
use Rattle.crash_model.specs.declared.operations.Op.{Op}
use Rattle.crash_model.specs.declared.plans.Change.{Change}
use Rattle.crash_model.specs.declared.refusals.FsFault.{FsFault}
use Rattle.crash_model.specs.declared.refusals.TraceFault.{TraceFault}
use Rattle.crash_model.specs.declared.refusals.TraceFault.TheVariants as no
use Rattle.crash_model.specs.declared.steps.Act.{Act}
use Rattle.crash_model.specs.declared.steps.Act.TheVariants.{Do, Group, End, Depend, Sync, Fsync, Keep, Hold, Spare}
use Rattle.crash_model.specs.declared.steps.Step.{Step}
use Rattle.crash_model.specs.declared.steps.Target.TheVariants.{At}

-- ---- a step

module _ (P : Tracing → Type 0) where
  unless_ok : (test : Bool) (fault : TraceFault) (r : Result Tracing TraceFault) → IfOk r P
      → IfOk (unless test fault r) P
  unless_ok true fault r is = tt
  unless_ok false fault r is = is

  found_ok : (line : ℕ) (at : Result ℕ FsFault) (next : Tracing) → P next → IfOk (when_found line at next) P
  found_ok line (Err e) next is = tt
  found_ok line (Ok inode) next is = is

  open_ok : (group : Option (List ℕ)) (fault : TraceFault) (next : List ℕ → Tracing)
      → ((name : List ℕ) → P (next name)) → IfOk (with_found group fault (λ name. Ok (next name))) P
  open_ok None fault next is = tt
  open_ok (Some name) fault next is = is name

  planned_ok : (kind : Module) (line : ℕ) (op : Op) (s : Tracing) (plan : Result (List Change) FsFault)
      → ((next : Tracing) → next.waits ≡ s.waits → P next) → IfOk (trace_of_plan kind line op s plan) P
  planned_ok kind line op s (Err e) same = tt
  planned_ok kind line op s (Ok changes) same =
      let after : Disk = with_changes s.disk changes in
      let more : List Emitted =
      patches_by kind after s.op_number s.journal (origin_at line op s.current s.forced) changes in
      let free : ℕ = s.journal + journal_blocks kind s.disk.blocks changes in
      let made : Tracing =
      record s { disk = after; emitted = s.emitted ++ more; op_number = s.op_number + 1; journal = free } in
      let many : Bool = nat_lt MAX_PATCHES (length s.emitted + length more) in
      unless_ok (nat_lt (JOURNAL_AT + s.disk.journal) free) (no.JournalFull line)
      (unless many (no.TooManyPatches line) (Ok made))
      (unless_ok many (no.TooManyPatches line) (Ok made) (same made refl))

  spared_ok : (test : Bool) (line : ℕ) (at : Result ℕ FsFault) (s : Tracing) → P s
      → IfOk (if test then Ok s else when_found line at s) P
  spared_ok true line at s is = is
  spared_ok false line at s is = found_ok line at s is

-- a step that waits adds one line, and no other does
abbrev AddsWait : Bool → Tracing → Tracing → Type 0
AddsWait b s next = length next.waits ≡ (if b then length s.waits + 1 else length s.waits)

one_more : (s : Tracing) (line : ℕ) (act : Act) (ids : ℕ) → AddsWait true s (with_wait line act ids s)
one_more s line act ids = length-append s.waits (record { line = line; act = act; ids = ids } ∷ [])

step_waits : (kind : Module) (s : Tracing) (line : ℕ) (act : Act) → IfOk (step kind s line act) (AddsWait (waits act) s)
step_waits kind s line (Do op) =
    planned_ok (AddsWait false s) kind line op s (plan_of s.disk op)
    (λ next same. ap (λ (ws : List Wait). length ws) same)
step_waits kind s line (Group a) =
    unless_ok (AddsWait false s) (is_some s.current || is_among a s.opened) (no.GroupFault line)
    (Ok (record s { current = Some a; opened = s.opened ++ a ∷ [] })) refl
step_waits kind s line End =
    open_ok (AddsWait false s) s.current (no.GroupFault line)
    (λ a. record s { current = None; ended = s.ended ++ a ∷ [] }) (λ a. refl)
step_waits kind s line (Depend b a) =
    unless_ok (AddsWait false s)
    (not (is_among a s.ended) || bytes_eq b a || list_any (λ e. is_same_group e.origin.group b) s.emitted)
    (no.GroupFault line) (Ok (record s { links = s.links ++ (b, a) ∷ [] })) refl
step_waits kind s line Sync = one_more s line Sync (forced_by_sync kind s.emitted)
step_waits kind s line (Fsync target) =
    let ids : ℕ = forced_by_fsync kind s.disk target s.emitted in
    found_ok (AddsWait true s) line (target_found s.disk target) (with_wait line (Fsync target) ids s)
    (one_more s line (Fsync target) ids)
step_waits kind s line (Keep paths) = refl
step_waits kind s line (Hold path) = refl
step_waits kind s line (Spare path other) =
    spared_ok (AddsWait false s) (is_same_path path other) line (target_found s.disk (At other)) s refl

-- ---- all steps

-- how many of the steps wait
abbrev waiting_of : List Step → ℕ
waiting_of [] = 0
waiting_of (x ∷ xs) = (if waits x.act then 1 else 0) + waiting_of xs

the_ok : (next last : Tracing) → ◌≡◌ {A = Result Tracing TraceFault} (Ok next) (Ok last) → next ≡ last
the_ok next last e = cc

not_ok : (fault : TraceFault) (last : Tracing) → ◌≡◌ {A = Result Tracing TraceFault} (Err fault) (Ok last) → ⊥
not_ok fault last e = cc

waits_behind : (kind : Module) (b : Bool) (xs : List Step) (s last : Tracing) (r : Result Tracing TraceFault)
    → IfOk r (AddsWait b s) → then_ok r (λ next. trace_from kind next xs) ≡ Ok last
    → ((next : Tracing) → trace_from kind next xs ≡ Ok last → length last.waits ≡ length next.waits + waiting_of xs)
    → length last.waits ≡ length s.waits + ((if b then 1 else 0) + waiting_of xs)
waits_behind kind b xs s last (Err e) more run rest = absurd (not_ok e last run)
waits_behind kind true xs s last (Ok next) more run rest = omega (arith, more, rest next run)
waits_behind kind false xs s last (Ok next) more run rest = omega (arith, more, rest next run)

-- as many lines wait
traced_waits : (kind : Module) (steps : List Step) (s last : Tracing) → trace_from kind s steps ≡ Ok last
    → length last.waits ≡ length s.waits + waiting_of steps
traced_waits kind [] s last run =
    let same : length s.waits ≡ length last.waits = ap (λ (t : Tracing). length t.waits) (the_ok s last run) in
    omega (arith, same)
traced_waits kind (x ∷ xs) s last run =
    waits_behind kind (waits x.act) xs s last (step kind s x.line x.act) (step_waits kind s x.line x.act) run
    (λ next. traced_waits kind xs next last)

-- ---- what is cut off

-- what is left behind a step
abbrev pub behind : ℕ → Bool → List Step → List Step
behind n b xs = if b then elim n [ zero ↦ [] | suc m ↦ up_to_wait m xs ] else up_to_wait n xs

-- if few of all steps wait, or few of those that are left
whole_if_few : (n : ℕ) (xs : List Step) → waiting_of xs ≤ n → up_to_wait n xs ≡ xs
whole_if_few n [] few = refl
whole_if_few n (x ∷ xs) few =
    ap (λ (ys : List Step). x ∷ ys) (by n (waits x.act) few (λ m. whole_if_few m xs))
  where
    by : (n : ℕ) (b : Bool) → (if b then 1 else 0) + waiting_of xs ≤ n
        → ((m : ℕ) → waiting_of xs ≤ m → up_to_wait m xs ≡ xs) → behind n b xs ≡ xs
    by zero true few rest = absurd (omega (arith, few))
    by (suc m) true few rest = rest m (omega (arith, few))
    by n false few rest = rest n (omega (arith, few))

whole_if_few_left : (n : ℕ) (xs : List Step) → waiting_of (up_to_wait n xs) ≤ n → up_to_wait n xs ≡ xs
whole_if_few_left n [] few = refl
whole_if_few_left n (x ∷ xs) few =
    ap (λ (ys : List Step). x ∷ ys) (by n (waits x.act) few (λ m. whole_if_few_left m xs))
  where
    by : (n : ℕ) (b : Bool) → (if b then 1 else 0) + waiting_of (behind n b xs) ≤ n
        → ((m : ℕ) → waiting_of (up_to_wait m xs) ≤ m → up_to_wait m xs ≡ xs) → behind n b xs ≡ xs
    by zero true few rest = absurd (omega (arith, few))
    by (suc m) true few rest = rest m (omega (arith, few))
    by n false few rest = rest n (omega (arith, few))

module _ (kind : Module) (whole : Bool) (base : Disk) (n : ℕ) (steps : List Step) (last : Tracing)
    (few : length last.waits ≤ n) where
  -- a trace of all steps is one of the steps up to the limit, and the other way round
  pub whole_if_traced : trace_from kind (trace_start whole base) steps ≡ Ok last → up_to_wait n steps ≡ steps
  whole_if_traced run =
      whole_if_few n steps (omega (arith, few, traced_waits kind steps (trace_start whole base) last run))

  pub whole_if_cut_traced : trace_from kind (trace_start whole base) (up_to_wait n steps) ≡ Ok last
      → up_to_wait n steps ≡ steps
  whole_if_cut_traced run =
      whole_if_few_left n steps
      (omega (arith, few, traced_waits kind (up_to_wait n steps) (trace_start whole base) last run))
