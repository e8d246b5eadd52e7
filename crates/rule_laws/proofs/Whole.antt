-- A trace where blocks are written whole, and the same one where they are not.
use Rattle.std.proofs.Common.{◌≡◌, ℕ, List, [], ◌∷◌, ◌++◌, Bool, true, false, not, nat_lt, length, refl, ◌∙◌, ap}
use Rattle.std.specs.Prelude.{◌+◌, ◌||◌, Option, Some, None, is_some, Result, Ok, Err, bytes_eq, if◌then◌else◌}
use Rattle.std.specs.List.{list_any}
use Rattle.patch_sets.specs.Closed.{IsClosed}
use Rattle.crash_model.specs.Disk.{Disk}
use Rattle.crash_model.specs.Failing.{IsFailing}
use Rattle.crash_model.specs.Patches.{overlap, deps_of}
use Rattle.crash_model.specs.Plan.{then_ok, unless, with_found, plan_of, with_changes}
use Rattle.crash_model.specs.Checker.{Demands, IsFailingUnder}
use Rattle.crash_model.specs.Trace.{Emitted, IsGraphOf, depends, groups_depend, waits_for, applies, trace_from, step}
use Rattle.crash_model.specs.Trace.{trace_of_plan, is_among, is_same_group, origin_at, patches_by, journal_blocks}
use Rattle.crash_model.specs.Tracing.{Tracing}
use Rattle.crash_model.specs.WholeBlocks.{shares_block}
use Rattle.crash_model.specs.declared.operations.Op.{Op}
use Rattle.crash_model.specs.declared.patches.Patch.{Patch}
use Rattle.crash_model.specs.declared.plans.Change.{Change}
use Rattle.crash_model.specs.declared.refusals.FsFault.{FsFault}
use Rattle.crash_model.specs.declared.refusals.TraceFault.{TraceFault}
use Rattle.crash_model.specs.declared.refusals.TraceFault.TheVariants as no
use Rattle.crash_model.specs.declared.rules.Rule.{Rule}
use Rattle.crash_model.specs.declared.modules.Module.{Module}
use Rattle.crash_model.specs.declared.steps.Act.{Act}
use Rattle.crash_model.specs.Paths.{is_same_path}
use Rattle.crash_model.specs.WaitSteps.{with_wait, when_found, target_found}
use Rattle.crash_model.specs.Waiting.{forced_by_fsync}
use Rattle.crash_model.specs.declared.steps.Act.TheVariants.{Do, Group, End, Depend, Sync, Fsync, Keep, Hold, Spare}
use Rattle.crash_model.specs.declared.steps.Target.TheVariants.{At}
use Rattle.crash_model.specs.declared.steps.Step.{Step}
use Rattle.rule_laws.specs.Whole.{with_whole, written_whole}
use Rattle.rule_laws.proofs.Closed.{closed_both, failing_both, failing_under_both}

-- ---- the patches are the same

on_test : (whole test : Bool) (fault : TraceFault) (answer : Result Tracing TraceFault)
    → unless test fault (written_whole whole answer) ≡ written_whole whole (unless test fault answer)
on_test whole true fault answer = refl
on_test whole false fault answer = refl

on_found : (whole : Bool) (line : ℕ) (found : Result ℕ FsFault) (next : Tracing)
    → when_found line found (with_whole whole next) ≡ written_whole whole (when_found line found next)
on_found whole line (Ok inode) next = refl
on_found whole line (Err e) next = refl

on_same : (whole : Bool) (line : ℕ) (same : Bool) (found : Result ℕ FsFault) (s : Tracing)
    → (if same then Ok (with_whole whole s) else when_found line found (with_whole whole s))
    ≡ written_whole whole (if same then Ok s else when_found line found s)
on_same whole line true found s = refl
on_same whole line false found s = on_found whole line found s

on_end : (whole : Bool) (line : ℕ) (s : Tracing) (open_group : Option (List ℕ))
    → with_found open_group (no.GroupFault line)
    (λ a. Ok (record (with_whole whole s) { current = None; ended = s.ended ++ a ∷ [] }))
    ≡ written_whole whole (with_found open_group (no.GroupFault line)
    (λ a. Ok (record s { current = None; ended = s.ended ++ a ∷ [] })))
on_end whole line s None = refl
on_end whole line s (Some a) = refl

on_plan : (kind : Module) (whole : Bool) (line : ℕ) (op : Op) (s : Tracing) (plan : Result (List Change) FsFault)
    → trace_of_plan kind line op (with_whole whole s) plan ≡ written_whole whole (trace_of_plan kind line op s plan)
on_plan kind whole line op s (Err e) = refl
on_plan kind whole line op s (Ok cs) =
    let after : Disk = with_changes s.disk cs in
    let more : List Emitted = patches_by kind after s.op_number s.journal (origin_at line op s.current s.forced) cs in
    let next : ℕ = s.journal + journal_blocks kind s.disk.blocks cs in
    let last : Tracing =
    record s { disk = after; emitted = s.emitted ++ more; op_number = s.op_number + 1; journal = next } in
    let full : Bool = nat_lt (4 + s.disk.journal) next in
    let many : Bool = nat_lt 124 (length s.emitted + length more) in
    ap (λ (r : Result Tracing TraceFault). unless full (no.JournalFull line) r)
    (on_test whole many (no.TooManyPatches line) (Ok last))
    ∙ on_test whole full (no.JournalFull line) (unless many (no.TooManyPatches line) (Ok last))

on_step : (kind : Module) (whole : Bool) (s : Tracing) (line : ℕ) (act : Act)
    → step kind (with_whole whole s) line act ≡ written_whole whole (step kind s line act)
on_step kind whole s line (Do op) = on_plan kind whole line op s (plan_of s.disk op)
on_step kind whole s line (Group a) = on_test whole (is_some s.current || is_among a s.opened) (no.GroupFault line)
    (Ok (record s { current = Some a; opened = s.opened ++ a ∷ [] }))
on_step kind whole s line End = on_end whole line s s.current
on_step kind whole s line (Depend b a) =
    on_test whole (not (is_among a s.ended) || bytes_eq b a
    || list_any (λ e. is_same_group e.origin.group b) s.emitted)
    (no.GroupFault line) (Ok (record s { links = s.links ++ (b, a) ∷ [] }))
on_step kind whole s line Sync = refl
on_step kind whole s line (Fsync target) = on_found whole line (target_found s.disk target)
    (with_wait line (Fsync target) (forced_by_fsync kind s.disk target s.emitted) s)
on_step kind whole s line (Keep paths) = refl
on_step kind whole s line (Hold path) = refl
on_step kind whole s line (Spare path other) =
    on_same whole line (is_same_path path other) (target_found s.disk (At other)) s

on_then : (whole : Bool) (answer : Result Tracing TraceFault) (next : Tracing → Result Tracing TraceFault)
    → ((s : Tracing) → next (with_whole whole s) ≡ written_whole whole (next s))
    → then_ok (written_whole whole answer) next ≡ written_whole whole (then_ok answer next)
on_then whole (Ok s) next each = each s
on_then whole (Err e) next each = refl

pub traced_same : (kind : Module) (s : Tracing) (steps : List Step) (whole : Bool)
    → trace_from kind (with_whole whole s) steps ≡ written_whole whole (trace_from kind s steps)
traced_same kind s [] whole = refl
traced_same kind s (x ∷ xs) whole =
    ap (λ (r : Result Tracing TraceFault). then_ok r (λ next. trace_from kind next xs))
    (on_step kind whole s x.line x.act)
    ∙ on_then whole (step kind s x.line x.act) (λ next. trace_from kind next xs)
    (λ next. traced_same kind next xs whole)

-- ---- they wait for more

more_waits : (a b c w d : Bool) → (a || false || c || w || d) ≡ true → (a || b || c || w || d) ≡ true
more_waits true b c w d h = refl
more_waits false true c w d h = refl
more_waits false false c w d h = h

depends_whole : (rules : List Rule) (links : List (List ℕ × List ℕ)) (q : Emitted) (id : ℕ) (p : Emitted)
    → depends rules false links q id p ≡ true → depends rules true links q id p ≡ true
depends_whole rules links q id p =
    more_waits (overlap q.place p.place) (shares_block true q p) (groups_depend links q p) (waits_for q id)
    (list_any (λ rule. applies rule q p) rules)

module _ (rules : List Rule) (base : Disk) (s : Tracing) (few more : List Patch) (set : ℕ)
    (graph : IsGraphOf rules base (with_whole false s) few) (wider : IsGraphOf rules base
    (with_whole true s) more) where
  pub closed_whole : IsClosed (deps_of more) set → IsClosed (deps_of few) set
  closed_whole = closed_both rules rules base (with_whole false s) (with_whole true s) few more set refl
      (depends_whole rules s.links) graph wider

  pub failing_whole : IsFailing base more set → IsFailing base few set
  failing_whole = failing_both rules rules base (with_whole false s) (with_whole true s) few more set refl
      (depends_whole rules s.links) graph wider

  pub failing_under_whole : (demands : Demands) → IsFailingUnder demands base more set
      → IsFailingUnder demands base few set
  failing_under_whole = failing_under_both rules rules base (with_whole false s) (with_whole true s) few more set refl
      (depends_whole rules s.links) graph wider
