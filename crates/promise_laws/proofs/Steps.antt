-- What steps add to a trace under the full journal.
use Rattle.std.proofs.Common.{◌≡◌, ℕ, ◌+◌, inl, inr, List, [], ◌∷◌, ◌++◌, length, Bool, true, false, nat_lt, not, ◌||◌}
use Rattle.std.proofs.Common.{Option, Some, None, Result, Ok, Err, append-nil, append_assoc, length-append, arith, refl}
use Rattle.std.proofs.Common.{sym, ◌∙◌, ap, subst}
use Rattle.std.specs.Prelude.{is_some, bytes_eq, if◌then◌else◌}
use Rattle.std.specs.List.{list_any}
use Rattle.std.proofs.lemmas.Bool.{false≢true, or_parts}
use Rattle.patch_sets.specs.Sets.{Has, IsSubset}
use Rattle.patch_sets.proofs.Bits.{in_or_left, in_or_right}
use Rattle.crash_model.specs.Disk.{Disk}
use Rattle.crash_model.specs.Paths.{is_same_path}
use Rattle.crash_model.specs.Plan.{then_ok, unless, with_found, plan_of, with_changes}
use Rattle.crash_model.specs.StepDisks.{with_plan}
use Rattle.crash_model.specs.Refusals.{trace_fault}
use Rattle.crash_model.specs.Trace.{Emitted, Origin, origin_at, trace_from, step, trace_of_plan, journal_patches}
use Rattle.crash_model.specs.Trace.{touched_blocks, is_among, is_same_group}
use Rattle.crash_model.specs.Tracing.{Tracing}
use Rattle.crash_model.specs.WaitSteps.{with_wait, when_found, target_found}
use Rattle.crash_model.specs.Waiting.{forced_by_sync, forced_by_fsync}
use Rattle.crash_model.specs.declared.modules.Module.TheVariants.{Full}
use Rattle.crash_model.specs.declared.operations.Op.{Op}
use Rattle.crash_model.specs.declared.plans.Change.{Change}
use Rattle.crash_model.specs.declared.refusals.FsFault.{FsFault}
use Rattle.crash_model.specs.declared.refusals.TraceFault.{TraceFault}
use Rattle.crash_model.specs.declared.refusals.TraceFault.TheVariants as fault
use Rattle.crash_model.specs.declared.steps.Act.{Act}
use Rattle.crash_model.specs.declared.steps.Act.TheVariants.{Do, Group, End, Depend, Sync, Fsync, Keep, Hold, Spare}
use Rattle.crash_model.specs.declared.steps.Step.{Step}
use Rattle.crash_model.specs.declared.steps.Target.{Target}
use Rattle.crash_model.specs.declared.steps.Target.TheVariants.{At}
use Rattle.journal_replay.proofs.Targets.{bool_is}
use Rattle.full_journal_laws.specs.Full.{ops_at, ops_of, after_ops}
use Rattle.promise_laws.specs.Waited.{HasNoOperation, is_of_groups, HasNoGroups, EndBehind}
use Rattle.promise_laws.proofs.Commits.{commits_of, commits_of-append, one_commit}

no_ok : (e : TraceFault) (r : Tracing) (x : Result Tracing TraceFault) → x ≡ Err e → x ≡ Ok r → ⊥
no_ok e r x p h = cc

pub the_ok : (s r : Tracing) → ◌≡◌ {A = Result Tracing TraceFault} (Ok s) (Ok r) → s ≡ r
the_ok s r h = cc

-- ---- one step

-- an operation emits one transaction
pub record IsDone (op : Op) (s next : Tracing) : Type 0 where
  pub changes : List Change
  pub origin : Origin
  pub plan : plan_of s.disk op ≡ Ok changes
  pub disk : next.disk ≡ with_changes s.disk changes
  pub emits : next.emitted ≡ s.emitted ++ journal_patches (with_changes s.disk changes) s.op_number s.journal origin
      (touched_blocks (with_changes s.disk changes).blocks changes) changes
  pub forced : next.forced ≡ s.forced
  pub current : next.current ≡ s.current

planned : (line : ℕ) (op : Op) (s next : Tracing) (plan : Result (List Change) FsFault) → plan_of s.disk op ≡ plan
    → trace_of_plan Full line op s plan ≡ Ok next → IsDone op s next
planned line op s next (Err e) is h = absurd (no_ok (trace_fault line e) next _ refl h)
planned line op s next (Ok cs) is h =
    let after : Disk = with_changes s.disk cs in
    let origin : Origin = origin_at line op s.current s.forced in
    let more : List Emitted = journal_patches after s.op_number s.journal origin (touched_blocks after.blocks cs) cs in
    let free : ℕ = s.journal + (1 + length (touched_blocks s.disk.blocks cs)) in
    let made : Tracing =
    record s { disk = after; emitted = s.emitted ++ more; op_number = s.op_number + 1; journal = free } in
    elim (bool_is (nat_lt (4 + s.disk.journal) free)) [
      | inl full ↦ absurd (no_ok (fault.JournalFull line) next _ refl (rw full at h))
      | inr room ↦ elim (bool_is (nat_lt 124 (length s.emitted + length more))) [
        | inl many ↦ absurd (no_ok (fault.TooManyPatches line) next _ refl (rw (room, many) at h))
        | inr few ↦ subst (IsDone op s) (the_ok made next (rw (room, few) at h)) (record {
          changes = cs;
          origin = origin;
          plan = is;
          disk = refl;
          emits = refl;
          forced = refl;
          current = refl;
        })
      ]
    ]

pub done : (line : ℕ) (op : Op) (s next : Tracing) → step Full s line (Do op) ≡ Ok next → IsDone op s next
done line op s next h = planned line op s next (plan_of s.disk op) refl h

-- what every step adds
pub record IsStep (act : Act) (s next : Tracing) : Type 0 where
  pub more : List Emitted
  pub emits : next.emitted ≡ s.emitted ++ more
  pub counted : commits_of more ≡ length (ops_at act)
  pub disk : next.disk ≡ after_ops s.disk (ops_at act)
  pub forced : IsSubset s.forced next.forced
  pub current : is_of_groups act ≡ false → next.current ≡ s.current
  pub quiet : ops_at act ≡ [] → next.emitted ≡ s.emitted

of_operation : (op : Op) (s next : Tracing) → IsDone op s next → IsStep (Do op) s next
of_operation op s next is = record {
  more = journal_patches (with_changes s.disk is.changes) s.op_number s.journal is.origin
      (touched_blocks (with_changes s.disk is.changes).blocks is.changes) is.changes;
  emits = is.emits;
  counted = one_commit (with_changes s.disk is.changes) s.op_number s.journal is.origin
      (touched_blocks (with_changes s.disk is.changes).blocks is.changes) is.changes;
  disk = is.disk ∙ sym (ap (with_plan s.disk) is.plan);
  forced = λ id held. subst (λ (m : ℕ). Has m id) (sym is.forced) held;
  current = λ e. is.current;
  quiet = λ e. absurd (cc);
}

-- a step that emits nothing
same_step : (act : Act) (s made next : Tracing) → made ≡ next → ops_at act ≡ [] → made.disk ≡ s.disk
    → made.emitted ≡ s.emitted → IsSubset s.forced made.forced → (is_of_groups act ≡ false → made.current ≡ s.current)
    → IsStep act s next
same_step act s made next is none disk emits forced current = subst (IsStep act s) is (record {
  more = [];
  emits = emits ∙ sym (append-nil s.emitted);
  counted = ap (λ (ops : List Op). length ops) (sym none);
  disk = disk ∙ ap (after_ops s.disk) (sym none);
  forced = forced;
  current = current;
  quiet = λ e. emits;
})

tested : (b : Bool) (e : TraceFault) (made next : Tracing) → unless b e (Ok made) ≡ Ok next → made ≡ next
tested true e made next h = absurd (no_ok e next _ refl h)
tested false e made next h = the_ok made next h

found : (line : ℕ) (at : Result ℕ FsFault) (made next : Tracing) → when_found line at made ≡ Ok next → made ≡ next
found line (Err e) made next h = absurd (no_ok (trace_fault line e) next _ refl h)
found line (Ok inode) made next h = the_ok made next h

spared : (b : Bool) (line : ℕ) (at : Result ℕ FsFault) (s next : Tracing)
    → (if b then Ok s else when_found line at s) ≡ Ok next → s ≡ next
spared true line at s next h = the_ok s next h
spared false line at s next h = found line at s next h

ended : (line : ℕ) (s next : Tracing) (open_group : Option (List ℕ))
    → with_found open_group (fault.GroupFault line) (λ a. Ok (record s { current = None; ended = s.ended ++ a ∷ [] }))
    ≡ Ok next → IsStep End s next
ended line s next None h = absurd (no_ok (fault.GroupFault line) next _ refl h)
ended line s next (Some a) h =
    let made : Tracing = record s { current = None; ended = s.ended ++ a ∷ [] } in
    same_step End s made next (the_ok made next h) refl refl refl (λ id held. held) (λ e. absurd (false≢true (sym e)))

pub stepped : (line : ℕ) (act : Act) (s next : Tracing) → step Full s line act ≡ Ok next → IsStep act s next
stepped line (Do op) s next h = of_operation op s next (done line op s next h)
stepped line (Group a) s next h =
    let made : Tracing = record s { current = Some a; opened = s.opened ++ a ∷ [] } in
    same_step (Group a) s made next
    (tested (is_some s.current || is_among a s.opened) (fault.GroupFault line) made next h)
    refl refl refl (λ id held. held) (λ e. absurd (false≢true (sym e)))
stepped line End s next h = ended line s next s.current h
stepped line (Depend b a) s next h =
    let made : Tracing = record s { links = s.links ++ (b, a) ∷ [] } in
    same_step (Depend b a) s made next
    (tested (not (is_among a s.ended) || bytes_eq b a || list_any (λ e. is_same_group e.origin.group b) s.emitted)
    (fault.GroupFault line) made next h)
    refl refl refl (λ id held. held) (λ e. refl)
stepped line Sync s next h =
    let made : Tracing = with_wait line Sync (forced_by_sync Full s.emitted) s in
    same_step Sync s made next (the_ok made next h) refl refl refl
    (λ id held. in_or_left s.forced (forced_by_sync Full s.emitted) id held) (λ e. refl)
stepped line (Fsync target) s next h =
    let ids = forced_by_fsync Full s.disk target s.emitted in
    let made : Tracing = with_wait line (Fsync target) ids s in
    same_step (Fsync target) s made next (found line (target_found s.disk target) made next h) refl refl refl
    (λ id held. in_or_left s.forced ids id held) (λ e. refl)
stepped line (Keep paths) s next h =
    same_step (Keep paths) s s next (the_ok s next h) refl refl refl (λ id held. held) (λ e. refl)
stepped line (Hold path) s next h =
    same_step (Hold path) s s next (the_ok s next h) refl refl refl (λ id held. held) (λ e. refl)
stepped line (Spare path other) s next h =
    same_step (Spare path other) s s next
    (spared (is_same_path path other) line (target_found s.disk (At other)) s next h)
    refl refl refl (λ id held. held) (λ e. refl)

-- a line that waits has what it forces
pub forced_by : (line : ℕ) (act : Act) (s next : Tracing) (ids : ℕ) → next ≡ with_wait line act ids s
    → IsSubset ids next.forced
forced_by line act s next ids is =
    subst (λ (r : Tracing). IsSubset ids r.forced) (sym is) (λ id held. in_or_right s.forced ids id held)

pub sync_is : (line : ℕ) (s next : Tracing) → step Full s line Sync ≡ Ok next
    → next ≡ with_wait line Sync (forced_by_sync Full s.emitted) s
sync_is line s next h = sym (the_ok _ next h)

pub fsync_is : (line : ℕ) (target : Target) (s next : Tracing) → step Full s line (Fsync target) ≡ Ok next
    → next ≡ with_wait line (Fsync target) (forced_by_fsync Full s.disk target s.emitted) s
fsync_is line target s next h = sym (found line (target_found s.disk target) _ next h)

-- ---- steps

pub first_step : (s : Tracing) (x : Step) (xs : List Step) (r : Tracing) → trace_from Full s (x ∷ xs) ≡ Ok r
    → (next : Tracing) × (step Full s x.line x.act ≡ Ok next) × (trace_from Full next xs ≡ Ok r)
first_step s x xs r h = by (step Full s x.line x.act) refl h
  where
    by : (o : Result Tracing TraceFault) → step Full s x.line x.act ≡ o
        → then_ok o (λ next. trace_from Full next xs) ≡ Ok r
        → (next : Tracing) × (step Full s x.line x.act ≡ Ok next) × (trace_from Full next xs ≡ Ok r)
    by (Err e) is h = absurd (no_ok e r _ refl h)
    by (Ok next) is h = (next, is, h)

pub split_steps : (xs ys : List Step) (s r : Tracing) → trace_from Full s (xs ++ ys) ≡ Ok r
    → (mid : Tracing) × (trace_from Full s xs ≡ Ok mid) × (trace_from Full mid ys ≡ Ok r)
split_steps [] ys s r h = (s, refl, h)
split_steps (x ∷ xs) ys s r h =
    let one = first_step s x (xs ++ ys) r h in
    let more = split_steps xs ys one.0 r one.2 in
    (more.0, ap (λ o. then_ok o (λ next. trace_from Full next xs)) one.1 ∙ more.1, more.2)

pub joined : (xs ys : List Step) (s mid r : Tracing) → trace_from Full s xs ≡ Ok mid → trace_from Full mid ys ≡ Ok r
    → trace_from Full s (xs ++ ys) ≡ Ok r
joined [] ys s mid r one two = ap (λ (u : Tracing). trace_from Full u ys) (the_ok s mid one) ∙ two
joined (x ∷ xs) ys s mid r one two =
    let first = first_step s x xs mid one in
    ap (λ o. then_ok o (λ next. trace_from Full next (xs ++ ys))) first.1 ∙ joined xs ys first.0 mid r first.2 two

pub ops_of-append : (xs ys : List Step) → ops_of (xs ++ ys) ≡ ops_of xs ++ ops_of ys
ops_of-append [] ys = refl
ops_of-append (x ∷ xs) ys = ap (λ (ops : List Op). ops_at x.act ++ ops) (ops_of-append xs ys)
    ∙ sym (append_assoc (ops_at x.act) (ops_of xs) (ops_of ys))

pub after_ops-append : (d : Disk) (xs ys : List Op) → after_ops d (xs ++ ys) ≡ after_ops (after_ops d xs) ys
after_ops-append d [] ys = refl
after_ops-append d (x ∷ xs) ys = after_ops-append (with_plan d (plan_of d x)) xs ys

-- what steps add
pub record IsWalk (xs : List Step) (s r : Tracing) : Type 0 where
  pub more : List Emitted
  pub emits : r.emitted ≡ s.emitted ++ more
  pub counted : commits_of more ≡ length (ops_of xs)
  pub disk : r.disk ≡ after_ops s.disk (ops_of xs)
  pub forced : IsSubset s.forced r.forced
  pub current : HasNoGroups xs → r.current ≡ s.current
  pub quiet : HasNoOperation xs → r.emitted ≡ s.emitted

no_more : (xs ys : List Op) → xs ++ ys ≡ [] → (xs ≡ []) × (ys ≡ [])
no_more [] ys e = (refl, e)
no_more (x ∷ xs) ys e = absurd (cc)

pub walked : (xs : List Step) (s r : Tracing) → trace_from Full s xs ≡ Ok r → IsWalk xs s r
walked [] s r h = subst (IsWalk [] s) (the_ok s r h) (record {
  more = [];
  emits = sym (append-nil s.emitted);
  counted = refl;
  disk = refl;
  forced = λ id held. held;
  current = λ e. refl;
  quiet = λ e. refl;
})
walked (x ∷ xs) s r h =
    let one = first_step s x xs r h in
    let is = stepped x.line x.act s one.0 one.1 in
    let rest = walked xs one.0 r one.2 in
    let count : commits_of (is.more ++ rest.more) ≡ commits_of is.more + commits_of rest.more =
    commits_of-append is.more rest.more in
    let ops : length (ops_at x.act ++ ops_of xs) ≡ length (ops_at x.act) + length (ops_of xs) =
    length-append (ops_at x.act) (ops_of xs) in
    let first : commits_of is.more ≡ length (ops_at x.act) = is.counted in
    let behind : commits_of rest.more ≡ length (ops_of xs) = rest.counted in
    record {
      more = is.more ++ rest.more;
      emits = rest.emits ∙ (ap (λ (es : List Emitted). es ++ rest.more) is.emits
          ∙ append_assoc s.emitted is.more rest.more);
      counted = omega arith;
      disk = rest.disk ∙ (ap (λ (d : Disk). after_ops d (ops_of xs)) is.disk
          ∙ sym (after_ops-append s.disk (ops_at x.act) (ops_of xs)));
      forced = λ id held. rest.forced id (is.forced id held);
      current = λ none.
          let both = or_parts (is_of_groups x.act) (list_any (λ y. is_of_groups y.act) xs) none in
          rest.current both.1 ∙ is.current both.0;
      quiet = λ none.
          let both = no_more (ops_at x.act) (ops_of xs) none in
          rest.quiet both.1 ∙ is.quiet both.0;
    }

-- ---- behind a line that waits

-- from the places before and behind the line to a place with no operation between
pub record WaitsAt (act : Act) (steps : List Step) (s here : Tracing) : Type 0 where
  pub earlier : List Step
  pub rest : List Step
  pub are : steps ≡ earlier ++ rest
  pub counted : length (ops_of steps) ≡ length (ops_of earlier) + length (ops_at act)
  pub line : ℕ
  pub at : Tracing
  pub next : Tracing
  pub traced : trace_from Full s earlier ≡ Ok at
  pub waits : step Full at line act ≡ Ok next
  pub emits : here.emitted ≡ next.emitted
  pub disk : here.disk ≡ next.disk
  pub forced : IsSubset next.forced here.forced

pub waits_at : (act : Act) (steps : List Step) (s here : Tracing) → EndBehind act steps
    → trace_from Full s steps ≡ Ok here → WaitsAt act steps s here
waits_at act steps s here behind h =
    let split = split_steps behind.earlier (behind.step ∷ behind.later) s here
    (subst (λ (xs : List Step). trace_from Full s xs ≡ Ok here) behind.are h) in
    let one = first_step split.0 behind.step behind.later here split.2 in
    let rest = walked behind.later one.0 here one.2 in
    record {
      earlier = behind.earlier;
      rest = behind.step ∷ behind.later;
      are = behind.are;
      counted = ap (λ (xs : List Step). length (ops_of xs)) behind.are
          ∙ (ap (λ (ops : List Op). length ops) (ops_of-append behind.earlier (behind.step ∷ behind.later))
          ∙ (length-append (ops_of behind.earlier) (ops_at behind.step.act ++ ops_of behind.later)
          ∙ ap (λ (m : ℕ). length (ops_of behind.earlier) + m) (acts behind.step.act behind.later behind.does
          behind.quiet)));
      line = behind.step.line;
      at = split.0;
      next = one.0;
      traced = split.1;
      waits = subst (λ (a : Act). step Full split.0 behind.step.line a ≡ Ok one.0) behind.does one.1;
      emits = rest.quiet behind.quiet;
      disk = rest.disk ∙ ap (after_ops one.0.disk) behind.quiet;
      forced = rest.forced;
    }
  where
    acts : (does : Act) (later : List Step) → does ≡ act → HasNoOperation later
        → length (ops_at does ++ ops_of later) ≡ length (ops_at act)
    acts does later is quiet = ap (λ (ops : List Op). length (ops_at does ++ ops)) quiet
        ∙ (ap (λ (ops : List Op). length ops) (append-nil (ops_at does)) ∙ ap (λ (a : Act). length (ops_at a)) is)
