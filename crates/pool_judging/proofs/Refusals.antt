-- A step of a pool is never refused as a group's step is.
use Rattle.std.proofs.Common.{◌≡◌, ◌≢◌, ℕ, List, [], ◌∷◌, Bool, true, false, refl, ap, subst}
use Rattle.std.specs.Prelude.{◌||◌, IsTrue, Option, Some, None, Result, Ok, Err}
use Rattle.std.specs.List.{All}
use Rattle.std.proofs.lemmas.Bool.{false≢true}
use Rattle.std.proofs.lemmas.List.Elements.{All-head, All-tail}
use Rattle.crash_model.specs.Plan.{then_ok, unless, plan_of}
use Rattle.crash_model.specs.Refusals.{trace_fault}
use Rattle.crash_model.specs.Trace.{step, trace_of_plan, trace_from}
use Rattle.crash_model.specs.Tracing.{Tracing}
use Rattle.crash_model.specs.WaitSteps.{with_wait, when_found, target_found}
use Rattle.crash_model.specs.Waiting.{forced_by_sync, forced_by_fsync}
use Rattle.crash_model.specs.declared.modules.Module.{Module}
use Rattle.crash_model.specs.declared.operations.Op.{Op}
use Rattle.crash_model.specs.declared.plans.Change.{Change}
use Rattle.crash_model.specs.declared.refusals.FsFault.{FsFault}
use Rattle.crash_model.specs.declared.refusals.FsFault.TheVariants as fs
use Rattle.crash_model.specs.declared.refusals.TraceFault.{TraceFault}
use Rattle.crash_model.specs.declared.refusals.TraceFault.TheVariants as trace
use Rattle.crash_model.specs.declared.steps.Act.{Act}
use Rattle.crash_model.specs.declared.steps.Act.TheVariants.{Do, Group, End, Depend, Sync, Fsync, Keep, Hold, Spare}
use Rattle.crash_model.specs.declared.steps.Step.{Step}
use Rattle.crash_model.specs.Refused.{refusal_of}
use Rattle.question_model.specs.Workloads.{is_place, is_keep, IsOfPool}
use Rattle.crash_model.specs.declared.refusal.Refusal.{Refusal}

-- an answer that, where it is a refusal, is one of an operation
abbrev RefusesOperation : {X : Type 0} → Result X TraceFault → Type 0
RefusesOperation answer = (fault : TraceFault) → answer ≡ Err fault → refusal_of fault ≢ None

-- out of memory is no refusal of an operation
pub no_memory : (fault : TraceFault) (reason : Refusal) → refusal_of fault ≡ Some reason → fault ≢ trace.OutOfMemory
no_memory fault reason because e = apart (refusal_of fault) reason because (ap refusal_of e)
  where
    apart : (r : Option Refusal) (reason : Refusal) → r ≡ Some reason → r ≡ None → ⊥
    apart r reason some none = cc

one_err : {X : Type 0} (r : Result X TraceFault) (a b : TraceFault) → r ≡ Err a → r ≡ Err b → a ≡ b
one_err r a b e f = cc

of_err : {X : Type 0} (r : Result X TraceFault) (why : TraceFault) → r ≡ Err why → refusal_of why ≢ None
    → RefusesOperation r
of_err r why is some fault e = subst (λ (f : TraceFault). refusal_of f ≢ None) (one_err r why fault is e) some

of_ok : {X : Type 0} (r : Result X TraceFault) (x : X) → r ≡ Ok x → RefusesOperation r
of_ok r x is fault e = absurd (apart r x fault is e)
  where
    apart : {X : Type 0} (r : Result X TraceFault) (x : X) (fault : TraceFault) → r ≡ Ok x → r ≡ Err fault → ⊥
    apart r x fault is e = cc

of_unless : {X : Type 0} (test : Bool) (why : TraceFault) (answer : Result X TraceFault) → refusal_of why ≢ None
    → RefusesOperation answer → RefusesOperation (unless test why answer)
of_unless true why answer some rest = of_err (Err why) why refl some
of_unless false why answer some rest = rest

fs_some : (line : ℕ) (fault : FsFault) → refusal_of (trace_fault line fault) ≢ None
fs_some line fs.NotFound = λ e. cc
fs_some line fs.NotADirectory = λ e. cc
fs_some line fs.Exists = λ e. cc
fs_some line fs.NotAFile = λ e. cc
fs_some line fs.NotEmpty = λ e. cc
fs_some line fs.NoInode = λ e. cc
fs_some line fs.NoBlock = λ e. cc
fs_some line fs.DirectoryFull = λ e. cc
fs_some line fs.FileFull = λ e. cc
fs_some line fs.LinksFull = λ e. cc

of_plan : (kind : Module) (line : ℕ) (op : Op) (s : Tracing) (plan : Result (List Change) FsFault)
    → RefusesOperation (trace_of_plan kind line op s plan)
of_plan kind line op s (Err e) = of_err (Err (trace_fault line e)) (trace_fault line e) refl (fs_some line e)
of_plan kind line op s (Ok changes) =
    of_unless _ (trace.JournalFull line) _ (λ e. cc)
    (of_unless _ (trace.TooManyPatches line) _ (λ e. cc) (of_ok _ _ refl))

of_found : (line : ℕ) (found : Result ℕ FsFault) (next : Tracing) → RefusesOperation (when_found line found next)
of_found line (Err e) next = of_err (Err (trace_fault line e)) (trace_fault line e) refl (fs_some line e)
of_found line (Ok inode) next = of_ok (Ok next) next refl

of_step : (kind : Module) (s : Tracing) (line : ℕ) (act : Act) → IsTrue (is_place act || is_keep act)
    → RefusesOperation (step kind s line act)
of_step kind s line (Do op) is = of_plan kind line op s (plan_of s.disk op)
of_step kind s line Sync is =
    let next : Tracing = with_wait line Sync (forced_by_sync kind s.emitted) s in of_ok (Ok next) next refl
of_step kind s line (Fsync target) is = of_found line (target_found s.disk target)
    (with_wait line (Fsync target) (forced_by_fsync kind s.disk target s.emitted) s)
of_step kind s line (Keep paths) is = of_ok (Ok s) s refl
of_step kind s line (Group name) is = absurd (false≢true is)
of_step kind s line End is = absurd (false≢true is)
of_step kind s line (Depend b a) is = absurd (false≢true is)
of_step kind s line (Hold path) is = absurd (false≢true is)
of_step kind s line (Spare path other) is = absurd (false≢true is)

of_then : (answer : Result Tracing TraceFault) (next : Tracing → Result Tracing TraceFault) → RefusesOperation answer
    → ((s : Tracing) → RefusesOperation (next s)) → RefusesOperation (then_ok answer next)
of_then (Err why) next first rest = λ fault e. first fault e
of_then (Ok s) next first rest = rest s

-- a trace of steps of a pool is refused by such a step
pub pool_refused : (kind : Module) (steps : List Step) (s : Tracing) → All IsOfPool steps
    → (fault : TraceFault) → trace_from kind s steps ≡ Err fault → refusal_of fault ≢ None
pool_refused kind [] s all fault e = of_ok (Ok s) s refl fault e
pool_refused kind (x ∷ xs) s all fault e =
    of_then (step kind s x.line x.act) (λ next. trace_from kind next xs)
    (of_step kind s x.line x.act (All-head IsOfPool x xs all))
    (λ next. pool_refused kind xs next (All-tail IsOfPool x xs all)) fault e
