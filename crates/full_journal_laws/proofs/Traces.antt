-- What a trace under the full journal emits is a log.
use Rattle.std.proofs.Common.{◌≡◌, ℕ, ◌+◌, ◌≤◌, inl, inr, List, [], ◌∷◌, ◌++◌, length, map, Bool, true, false, nat_lt}
use Rattle.std.proofs.Common.{not, ◌||◌, Option, Some, None, Result, Ok, Err, append-nil, append_assoc, arith, tests}
use Rattle.std.proofs.Common.{refl, sym, ◌∙◌, ap, subst}
use Rattle.std.specs.Prelude.{All, is_some, bytes_eq, if◌then◌else◌}
use Rattle.std.specs.List.{list_any}
use Rattle.std.proofs.lemmas.List.Elements.{All-nil, All-cons, All-head, All-tail}
use Rattle.crash_model.specs.Disk.{Disk}
use Rattle.crash_model.specs.Plan.{then_ok, unless, with_found, plan_of, with_changes}
use Rattle.crash_model.specs.Trace.{Emitted, Origin, origin_at, trace_from, step, trace_of_plan, journal_patches}
use Rattle.crash_model.specs.Trace.{touched_blocks, is_among, is_same_group}
use Rattle.crash_model.specs.Tracing.{Tracing}
use Rattle.crash_model.specs.Refusals.{trace_fault}
use Rattle.crash_model.specs.declared.operations.Op.{Op}
use Rattle.crash_model.specs.declared.refusals.FsFault.{FsFault}
use Rattle.crash_model.specs.declared.refusals.TraceFault.{TraceFault}
use Rattle.crash_model.specs.declared.refusals.TraceFault.TheVariants as fault
use Rattle.crash_model.specs.declared.plans.Change.{Change}
use Rattle.crash_model.specs.declared.modules.Module.TheVariants.{Full}
use Rattle.crash_model.specs.Paths.{is_same_path}
use Rattle.crash_model.specs.WaitSteps.{with_wait, when_found, target_found}
use Rattle.crash_model.specs.Waiting.{forced_by_sync, forced_by_fsync}
use Rattle.crash_model.specs.declared.steps.Act.TheVariants.{Do, Group, End, Depend, Sync, Fsync, Keep, Hold, Spare}
use Rattle.crash_model.specs.declared.steps.Target.TheVariants.{At}
use Rattle.crash_model.specs.declared.steps.Act.{Act}
use Rattle.crash_model.specs.declared.steps.Step.{Step}
use Rattle.inode_fs.specs.Inside.{GivesName}
use Rattle.inode_fs.proofs.Lands.{with_changes-size}
use Rattle.full_journal_laws.proofs.Transactions.{IsLog}
use Rattle.full_journal_laws.proofs.Logs.{log_emitted, IsGood, ArePlans}
use Rattle.full_journal_laws.specs.Full.{ops_at, ops_of}
use Rattle.journal_replay.proofs.Targets.{bool_is}
use Rattle.full_journal_laws.proofs.Plans.{plan-good, plan-turn}

-- the changes of operations, each with its origin
abbrev pub Logged : Type 0
Logged = List (Origin × List Change)

abbrev pub changes_of : Logged → List (List Change)
changes_of log = map (λ (o : Origin × List Change). o.1) log

-- from state s on to state r the trace emits the log of these operations
pub record IsLogged (n jl : ℕ) (ops : List Op) (s r : Tracing) : Type 0 where
  pub changes : Logged
  pub plans : ArePlans s.disk ops (changes_of changes)
  pub emits : r.emitted ≡ s.emitted ++ log_emitted n s.disk s.op_number s.journal changes
  pub log : IsLog n jl s.disk s.journal (changes_of changes)

no_ok : (e : TraceFault) (r : Tracing) (x : Result Tracing TraceFault) → x ≡ Err e → x ≡ Ok r → ⊥
no_ok e r x p h = cc

-- what is known of the steps after a step
abbrev IsRest : ℕ → ℕ → List Step → Tracing → Type 0
IsRest n jl xs r = (next : Tracing) → IsGood n jl next.disk → trace_from Full next xs ≡ Ok r
    → IsLogged n jl (ops_of xs) next r

-- an operation
operation : (n jl : ℕ) (line : ℕ) (s r : Tracing) (xs : List Step) (op : Op) (plan : Result (List Change) FsFault)
    → IsGood n jl s.disk → GivesName op → plan_of s.disk op ≡ plan → IsRest n jl xs r
    → then_ok (trace_of_plan Full line op s plan) (λ next. trace_from Full next xs) ≡ Ok r
    → IsLogged n jl (op ∷ ops_of xs) s r
operation n jl line s r xs op (Err e) good name is rest h = absurd (no_ok (trace_fault line e) r _ refl h)
operation n jl line s r xs op (Ok cs) good name is rest h =
    let after : Disk = with_changes s.disk cs in
    let origin : Origin = origin_at line op s.current s.forced in
    let k : ℕ = length (touched_blocks n cs) in
    let size = with_changes-size s.disk cs in
    let bs : s.disk.blocks ≡ n = good.blocks in
    let js : s.disk.journal ≡ jl = good.journal in
    let ba : after.blocks ≡ n = size.0 ∙ bs in
    let more : List Emitted = journal_patches after s.op_number s.journal origin (touched_blocks after.blocks cs) cs in
    let free : ℕ = s.journal + (1 + length (touched_blocks s.disk.blocks cs)) in
    let next : Tracing =
    record s { disk = after; emitted = s.emitted ++ more; op_number = s.op_number + 1; journal = free } in
    elim (bool_is (nat_lt (4 + s.disk.journal) free)) [
      | inl full ↦ absurd (no_ok (fault.JournalFull line) r _ refl (rw full at h))
      | inr room ↦ elim (bool_is (nat_lt 124 (length s.emitted + length more))) [
        | inl many ↦ absurd (no_ok (fault.TooManyPatches line) r _ refl (rw (room, many) at h))
        | inr few ↦
            let h' : trace_from Full next xs ≡ Ok r = rw (room, few) at h in
            let ih : IsLogged n jl (ops_of xs) next r = rest next (plan-good n jl s.disk op cs good name is) h' in
            let here : free ≡ s.journal + 1 + k = ap (λ (m : ℕ). s.journal + (1 + length (touched_blocks m cs))) bs
            ∙ plus s.journal k in
            let fits : free ≤ 4 + s.disk.journal = within free (4 + s.disk.journal) room in
            record {
              changes = (origin, cs) ∷ ih.changes;
              plans = (is, ih.plans);
              emits = ih.emits
                  ∙ append_assoc s.emitted more (log_emitted n after (s.op_number + 1) free ih.changes)
                  ∙ ap (λ (m : ℕ). s.emitted
                  ++ (journal_patches after s.op_number s.journal origin (touched_blocks m cs) cs
                  ++ log_emitted n after (s.op_number + 1) free ih.changes)) ba
                  ∙ ap (λ (m : ℕ). s.emitted
                  ++ (journal_patches after s.op_number s.journal origin (touched_blocks n cs) cs
                  ++ log_emitted n after (s.op_number + 1) m ih.changes)) here;
              log = (
                plan-turn n jl s.disk op cs good name is s.journal (omega arith),
                subst (λ (m : ℕ). IsLog n jl after m (changes_of ih.changes)) here ih.log,
              );
            }
      ]
    ]
  where
    plus : (j k : ℕ) → j + (1 + k) ≡ j + 1 + k
    plus j k = omega arith

    within : (a b : ℕ) → nat_lt b a ≡ false → a ≤ b
    within a b h = grind (arith, tests)

-- from a state with the same disk and patches, at the same operation and journal block
same_log : (n jl : ℕ) (ops : List Op) (s next r : Tracing) → next.disk ≡ s.disk → next.emitted ≡ s.emitted
    → next.op_number ≡ s.op_number → next.journal ≡ s.journal → IsLogged n jl ops next r → IsLogged n jl ops s r
same_log n jl ops s next r d e t j ih = record {
  changes = ih.changes;
  plans = subst (λ (x : Disk). ArePlans x ops (changes_of ih.changes)) d ih.plans;
  emits = ih.emits
      ∙ ap (λ (x : List Emitted). x ++ log_emitted n next.disk next.op_number next.journal ih.changes) e
      ∙ ap (λ (x : Disk). s.emitted ++ log_emitted n x next.op_number next.journal ih.changes) d
      ∙ ap (λ (x : ℕ). s.emitted ++ log_emitted n s.disk x next.journal ih.changes) t
      ∙ ap (λ (x : ℕ). s.emitted ++ log_emitted n s.disk s.op_number x ih.changes) j;
  log = subst (λ (x : ℕ). IsLog n jl s.disk x (changes_of ih.changes)) j
      (subst (λ (x : Disk). IsLog n jl x next.journal (changes_of ih.changes)) d ih.log);
}

-- a step that refuses by a test
on_test : (n jl : ℕ) (b : Bool) (e : TraceFault) (ops : List Op) (s next r : Tracing) (xs : List Step)
    → (trace_from Full next xs ≡ Ok r → IsLogged n jl ops s r)
    → then_ok (unless b e (Ok next)) (λ more. trace_from Full more xs) ≡ Ok r → IsLogged n jl ops s r
on_test n jl true e ops s next r xs rest h = absurd (no_ok e r _ refl h)
on_test n jl false e ops s next r xs rest h = rest h

-- a step that refuses as a walk does
on_found : (n jl : ℕ) (line : ℕ) (found : Result ℕ FsFault) (ops : List Op) (s next r : Tracing) (xs : List Step)
    → (trace_from Full next xs ≡ Ok r → IsLogged n jl ops s r)
    → then_ok (when_found line found next) (λ more. trace_from Full more xs) ≡ Ok r → IsLogged n jl ops s r
on_found n jl line (Err e) ops s next r xs rest h = absurd (no_ok (trace_fault line e) r _ refl h)
on_found n jl line (Ok inode) ops s next r xs rest h = rest h

-- a step that changes nothing, and refuses so if a test does not hold
on_same : (n jl : ℕ) (line : ℕ) (same : Bool) (found : Result ℕ FsFault) (ops : List Op) (s r : Tracing)
    (xs : List Step) → (trace_from Full s xs ≡ Ok r → IsLogged n jl ops s r)
    → then_ok (if same then Ok s else when_found line found s) (λ more. trace_from Full more xs) ≡ Ok r
    → IsLogged n jl ops s r
on_same n jl line true found ops s r xs rest h = rest h
on_same n jl line false found ops s r xs rest h = on_found n jl line found ops s s r xs rest h

on_end : (n jl : ℕ) (line : ℕ) (s r : Tracing) (xs : List Step) (open_group : Option (List ℕ)) → IsGood n jl s.disk
    → IsRest n jl xs r
    → then_ok (with_found open_group (fault.GroupFault line)
    (λ a. Ok (record s { current = None; ended = s.ended ++ a ∷ [] })))
    (λ next. trace_from Full next xs) ≡ Ok r → IsLogged n jl (ops_of xs) s r
on_end n jl line s r xs None good rest h = absurd (no_ok (fault.GroupFault line) r _ refl h)
on_end n jl line s r xs (Some a) good rest h =
    let next : Tracing = record s { current = None; ended = s.ended ++ a ∷ [] } in
    same_log n jl (ops_of xs) s next r refl refl refl refl (rest next good h)

act_logged : (n jl : ℕ) (line : ℕ) (act : Act) (s r : Tracing) (xs : List Step) → IsGood n jl s.disk
    → All GivesName (ops_at act) → IsRest n jl xs r
    → then_ok (step Full s line act) (λ next. trace_from Full next xs) ≡ Ok r
    → IsLogged n jl (ops_at act ++ ops_of xs) s r
act_logged n jl line (Do op) s r xs good names rest h = operation n jl line s r xs op (plan_of s.disk op) good
    (All-head GivesName op [] names) refl rest h
act_logged n jl line (Group a) s r xs good names rest h =
    let next : Tracing = record s { current = Some a; opened = s.opened ++ a ∷ [] } in
    on_test n jl (is_some s.current || is_among a s.opened) (fault.GroupFault line) (ops_of xs) s next r xs
    (λ e. same_log n jl (ops_of xs) s next r refl refl refl refl (rest next good e)) h
act_logged n jl line End s r xs good names rest h = on_end n jl line s r xs s.current good rest h
act_logged n jl line (Depend b a) s r xs good names rest h =
    let next : Tracing = record s { links = s.links ++ (b, a) ∷ [] } in
    on_test n jl (not (is_among a s.ended) || bytes_eq b a || list_any (λ e. is_same_group e.origin.group b) s.emitted)
    (fault.GroupFault line) (ops_of xs) s next r xs
    (λ e. same_log n jl (ops_of xs) s next r refl refl refl refl (rest next good e)) h
act_logged n jl line Sync s r xs good names rest h =
    let next : Tracing = with_wait line Sync (forced_by_sync Full s.emitted) s in
    same_log n jl (ops_of xs) s next r refl refl refl refl (rest next good h)
act_logged n jl line (Fsync target) s r xs good names rest h =
    let next : Tracing = with_wait line (Fsync target) (forced_by_fsync Full s.disk target s.emitted) s in
    on_found n jl line (target_found s.disk target) (ops_of xs) s next r xs
    (λ e. same_log n jl (ops_of xs) s next r refl refl refl refl (rest next good e)) h
act_logged n jl line (Keep paths) s r xs good names rest h = rest s good h
act_logged n jl line (Hold path) s r xs good names rest h = rest s good h
act_logged n jl line (Spare path other) s r xs good names rest h =
    on_same n jl line (is_same_path path other) (target_found s.disk (At other)) (ops_of xs) s r xs
    (λ e. rest s good e) h

all_split : (xs ys : List Op) → All GivesName (xs ++ ys) → All GivesName xs × All GivesName ys
all_split [] ys all = (All-nil GivesName, all)
all_split (x ∷ xs) ys all =
    let rest = all_split xs ys (All-tail GivesName x (xs ++ ys) all) in
    (All-cons GivesName x xs (All-head GivesName x (xs ++ ys) all) rest.0, rest.1)

pub traced_logged : (n jl : ℕ) (steps : List Step) (s r : Tracing) → IsGood n jl s.disk → All GivesName (ops_of steps)
    → trace_from Full s steps ≡ Ok r → IsLogged n jl (ops_of steps) s r
traced_logged n jl [] s r good names h =
    let e : s ≡ r = cc in
    record {
      changes = [];
      plans = tt;
      emits = ap (λ (m : Tracing). m.emitted) (sym e) ∙ sym (append-nil s.emitted);
      log = tt;
    }
traced_logged n jl (x ∷ xs) s r good names h =
    let both = all_split (ops_at x.act) (ops_of xs) names in
    act_logged n jl x.line x.act s r xs good both.0 (λ next ok e. traced_logged n jl xs next r ok both.1 e) h
