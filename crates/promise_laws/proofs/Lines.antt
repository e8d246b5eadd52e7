-- No promise of a line is broken for which the script has waited, and nothing fails if this holds of each line.
use Rattle.std.proofs.Common.{◌≡◌, ℕ, zero, suc, inl, inr, List, [], ◌∷◌, ◌++◌, Bool, true, false, ◌&&◌, ◌||◌, Option}
use Rattle.std.proofs.Common.{Some, None, Result, Ok, Err, append_assoc, refl, sym, ◌∙◌, ap, subst}
use Rattle.std.specs.Prelude.{All, option_to_list, ◌==◌}
use Rattle.std.specs.List.{Contains}
use Rattle.std.proofs.lemmas.List.Elements.{Contains-append_cases}
use Rattle.std.proofs.lemmas.List.Folds.{list_any-append}
use Rattle.patch_sets.specs.Closed.{IsClosed}
use Rattle.patch_sets.proofs.Ids.{eq_from_true}
use Rattle.patch_sets.proofs.Lists.{front_or_rest, in_none}
use Rattle.crash_model.specs.Checker.{Asked, Demands, AreDemands, IsFailingUnder, counted_among, promised, all_faults}
use Rattle.crash_model.specs.Disk.{Disk, IsDisk}
use Rattle.crash_model.specs.Lists.{when, some_below}
use Rattle.crash_model.specs.Patches.{deps_of, image_of}
use Rattle.crash_model.specs.Promises.{Promise, is_broken, breaks_line, kept, durable, promise_of, promises_from}
use Rattle.crash_model.specs.Promises.{promises_of}
use Rattle.crash_model.specs.BrokenLines.{broken_lines, lines_end}
use Rattle.crash_model.specs.Replay.{image_after_replay}
use Rattle.crash_model.specs.Rules.{journal_rules}
use Rattle.crash_model.specs.RuleFacts.{AreAmong}
use Rattle.crash_model.specs.Sound.{IsSound, HasZeroJournal}
use Rattle.crash_model.specs.Trace.{trace_from, step, IsGraphOf}
use Rattle.crash_model.specs.Tracing.{Tracing, trace_start}
use Rattle.crash_model.specs.declared.fault.Fault.{Fault}
use Rattle.crash_model.specs.declared.fault.Fault.TheVariants.{BrokenPromise}
use Rattle.crash_model.specs.declared.modules.Module.{Module}
use Rattle.crash_model.specs.declared.modules.Module.TheVariants.{Full}
use Rattle.crash_model.specs.declared.names.Path.{Path}
use Rattle.crash_model.specs.declared.operations.Op.{Op}
use Rattle.crash_model.specs.declared.patches.Patch.{Patch}
use Rattle.crash_model.specs.declared.refusals.TraceFault.{TraceFault}
use Rattle.crash_model.specs.declared.rules.Rule.{Rule}
use Rattle.crash_model.specs.declared.steps.Act.{Act}
use Rattle.crash_model.specs.declared.steps.Act.TheVariants.{Do, Group, End, Depend, Sync, Fsync, Keep, Hold, Spare}
use Rattle.crash_model.specs.declared.steps.Step.{Step}
use Rattle.crash_model.specs.declared.steps.Target.TheVariants.{At, Root}
use Rattle.crash_model.specs.Plan.{then_ok}
use Rattle.inode_fs.specs.Inside.{GivesName}
use Rattle.promise_steps.proofs.Whole.{begins}
use Rattle.full_journal_laws.specs.Full.{ops_at, ops_of, GivesNames}
use Rattle.full_journal_laws.proofs.Failing.{only_broken, none_fails}
use Rattle.full_journal_laws.proofs.Final.{recovered}
use Rattle.full_journal_laws.proofs.Safe.{steps_give, traced_is_safe}
use Rattle.promise_laws.specs.Waited.{HasNoOperation, HasNoGroups, EndBehind, IsWaitedFor, IsSure, IsSureAt, AreSure}
use Rattle.promise_laws.specs.Waited.{RiskNoPromise, AreAtRisk}
use Rattle.promise_laws.proofs.Kept.{waited_kept, durable_kept}
use Rattle.promise_laws.proofs.Steps.{first_step, joined, ops_of-append}

-- ---- one more step that is no operation

quiet_more : (before : List Step) (x : Step) → ops_at x.act ≡ [] → HasNoOperation before
    → HasNoOperation (before ++ x ∷ [])
quiet_more before x none quiet = ops_of-append before (x ∷ [])
    ∙ (ap (λ (ops : List Op). ops ++ (ops_at x.act ++ [])) quiet ∙ ap (λ (ops : List Op). ops ++ []) none)

behind_more : (act : Act) (before : List Step) (x : Step) → ops_at x.act ≡ [] → EndBehind act before
    → EndBehind act (before ++ x ∷ [])
behind_more act before x none behind = record {
  earlier = behind.earlier;
  step = behind.step;
  later = behind.later ++ x ∷ [];
  are = ap (λ (steps : List Step). steps ++ x ∷ []) behind.are
      ∙ append_assoc behind.earlier (behind.step ∷ behind.later) (x ∷ []);
  does = behind.does;
  quiet = quiet_more behind.later x none behind.quiet;
}

waited_more : (paths : List Path) (before : List Step) (x : Step) → ops_at x.act ≡ [] → IsWaitedFor before paths
    → IsWaitedFor (before ++ x ∷ []) paths
waited_more paths before x none (inl quiet) = inl (quiet_more before x none quiet)
waited_more paths before x none (inr (inl behind)) = inr (inl (behind_more Sync before x none behind))
waited_more paths before x none (inr (inr (path, is, behind))) =
    inr (inr (path, is, behind_more (Fsync (At path)) before x none behind))

-- ---- the promises of a script

module _ (rules : List Rule) (whole is_durable : Bool) (base : Disk) (steps : List Step) (s : Tracing)
    (patches : List Patch) (set line : ℕ) (disk : IsDisk base) (sound : IsSound base) (zeros : HasZeroJournal base)
    (names : All GivesName (ops_of steps)) (is_traced : trace_from Full (trace_start whole base) steps ≡ Ok s)
    (among : AreAmong journal_rules rules) (graph : IsGraphOf rules base s patches)
    (closed : IsClosed (deps_of patches) set) (sure : IsSureAt line steps) where
  abbrev image : Disk
  image = image_after_replay (image_of base patches set)

  -- if it is a line of this number, the promise is kept
  bare : (own : ℕ) (broken : Bool) → (own ≡ line → broken ≡ false) → ((own == line && broken) || false) ≡ false
  bare own broken kept = by (own == line) refl
    where
      by : (b : Bool) → (own == line) ≡ b → ((b && broken) || false) ≡ false
      by true is = rw (kept (eq_from_true own line is)) refl
      by false is = refl

  -- the promise of a step
  module _ (done : List Step) (x : Step) (xs : List Step) (next : Tracing) (are : steps ≡ done ++ x ∷ xs)
      (to_next : trace_from Full (trace_start whole base) (done ++ x ∷ []) ≡ Ok next) where
    split : steps ≡ (done ++ x ∷ []) ++ xs
    split = are ∙ sym (append_assoc done (x ∷ []) xs)

    keeps : (paths : List Path) → ops_at x.act ≡ [] → HasNoGroups steps → IsWaitedFor done paths
        → is_broken (kept Full x.line paths next xs) set image ≡ false
    keeps paths quiet none waited = waited_kept rules whole base (done ++ x ∷ []) xs s next patches set x.line paths
        disk sound
        zeros (subst (λ (ys : List Step). All GivesName (ops_of ys)) split names)
        (subst (λ (ys : List Step). trace_from Full (trace_start whole base) ys ≡ Ok s) split is_traced) among graph
        closed to_next (subst HasNoGroups split none) (waited_more paths done x quiet waited)

    lasts : (path : Path) → x.act ≡ Fsync (At path) → is_broken (durable Full x.line path next xs) set image ≡ false
    lasts path is = durable_kept rules whole base (done ++ x ∷ []) xs s next patches set x.line [] disk sound
        zeros (subst (λ (ys : List Step). All GivesName (ops_of ys)) split names)
        (subst (λ (ys : List Step). trace_from Full (trace_start whole base) ys ≡ Ok s) split is_traced) among graph
        closed to_next path
        (record { earlier = done; step = x; later = []; are = refl; does = is; quiet = refl })

    of_fsync : (b : Bool) (path : Path) → x.act ≡ Fsync (At path)
        → breaks_line (option_to_list (when b (durable Full x.line path next xs))) set image line ≡ false
    of_fsync true path is = bare x.line _ (λ own. lasts path is)
    of_fsync false path is = refl

    of_step : (act : Act) → x.act ≡ act
        → breaks_line (option_to_list (promise_of Full is_durable x.line act next xs)) set image line ≡ false
    of_step (Keep paths) is = bare x.line _ (λ own.
        let both = subst (IsSure steps done) is (sure done x xs are own) in
        keeps paths.items (ap ops_at is) both.0 both.1)
    of_step (Hold path) is = bare x.line _ (λ own. absurd (subst (IsSure steps done) is (sure done x xs are own)))
    of_step (Fsync (At path)) is = of_fsync is_durable path is
    of_step (Fsync Root) is = refl
    of_step (Do op) is = refl
    of_step (Group a) is = refl
    of_step End is = refl
    of_step (Depend b a) is = refl
    of_step Sync is = refl
    of_step (Spare path other) is = refl

  none_from : (xs done : List Step) (u : Tracing) → steps ≡ done ++ xs
      → trace_from Full (trace_start whole base) done ≡ Ok u → trace_from Full u xs ≡ Ok s
      → breaks_line (promises_from Full is_durable u xs) set image line ≡ false
  none_from [] done u are to_u h = refl
  none_from (x ∷ xs) done u are to_u h =
      let one = first_step u x xs s h in
      let next : Tracing = one.0 in
      let to_next : trace_from Full (trace_start whole base) (done ++ x ∷ []) ≡ Ok next =
      joined done (x ∷ []) (trace_start whole base) u next to_u
      (ap (λ o. then_ok o (λ r. trace_from Full r [])) one.1) in
      let first = of_step done x xs next are to_next x.act refl in
      let rest = none_from xs (done ++ x ∷ []) next (are ∙ sym (append_assoc done (x ∷ []) xs)) to_next one.2 in
      ap (λ (ps : List Promise). breaks_line ps set image line) (promises_ok u next x xs one.1)
      ∙ (list_any-append (λ (p : Promise). p.line == line && is_broken p set image)
      (option_to_list (promise_of Full is_durable x.line x.act next xs)) (promises_from Full is_durable next xs)
      ∙ rw (first, rest) refl)
    where
      promises_ok : (u next : Tracing) (x : Step) (xs : List Step) → step Full u x.line x.act ≡ Ok next
          → promises_from Full is_durable u (x ∷ xs)
          ≡ option_to_list (promise_of Full is_durable x.line x.act next xs) ++ promises_from Full is_durable next xs
      promises_ok u next x xs is = ap (λ (r : Result Tracing TraceFault). elim r [
        | Ok after ↦ option_to_list (promise_of Full is_durable x.line x.act after xs)
            ++ promises_from Full is_durable after xs
        | Err _ ↦ []
      ]) is

  pub line_kept : breaks_line (promises_of Full is_durable base steps) set image line ≡ false
  line_kept = ap (λ (ps : List Promise). breaks_line ps set image line) (sym (begins Full is_durable whole base steps))
      ∙ none_from steps [] (trace_start whole base) refl refl is_traced

-- ---- no line

no_lines : (test : ℕ → Bool) (n : ℕ) → ((line : ℕ) → test line ≡ false)
    → some_below n (λ line. when (test line) (BrokenPromise line)) ≡ []
unfolding some_below
no_lines test zero none = refl
no_lines test (suc n) none = rw (no_lines test n none, none n) refl

pub none_broken : (promises : List Promise) (set : ℕ) (d : Disk)
    → ((line : ℕ) → breaks_line promises set d line ≡ false) → broken_lines promises set d ≡ []
unfolding broken_lines
none_broken promises set d none = no_lines (breaks_line promises set d) (lines_end promises) none

-- ---- what is listed

broken_if : (line : ℕ) (test : Bool) (fault : Fault)
    → Contains (option_to_list (when test (BrokenPromise line))) fault → (test ≡ true) × (fault ≡ BrokenPromise line)
broken_if line true fault is = elim (front_or_rest (BrokenPromise line) [] fault is) [
  | inl e ↦ (refl, sym e)
  | inr rest ↦ absurd (in_none fault rest)
]
broken_if line false fault is = absurd (in_none fault is)

of_lines : (test : ℕ → Bool) (n : ℕ) (fault : Fault)
    → Contains (some_below n (λ line. when (test line) (BrokenPromise line))) fault
    → (line : ℕ) × (test line ≡ true) × (fault ≡ BrokenPromise line)
unfolding some_below
of_lines test zero fault is = absurd (in_none fault is)
of_lines test (suc n) fault is = elim (Contains-append_cases
    (some_below n (λ line. when (test line) (BrokenPromise line)))
    (option_to_list (when (test n) (BrokenPromise n))) fault is) [
      | inl before ↦ of_lines test n fault before
      | inr last ↦ let both = broken_if n (test n) fault last in (n, both.0, both.1)
    ]

-- the line of a broken promise
broken_line : (promises : List Promise) (set : ℕ) (d : Disk) (fault : Fault)
    → Contains (broken_lines promises set d) fault
    → (line : ℕ) × (breaks_line promises set d line ≡ true) × (fault ≡ BrokenPromise line)
unfolding broken_lines
broken_line promises set d fault found = of_lines (breaks_line promises set d) (lines_end promises) fault found

not_both : (b : Bool) → b ≡ true → b ≡ false → ⊥
not_both true holds fails = absurd (cc)
not_both false holds fails = absurd (cc)

-- ---- so nothing fails

module _ (rules : List Rule) (whole : Bool) (asked : Asked) (base : Disk) (steps : List Step) (s : Tracing)
    (patches : List Patch) (set : ℕ) (demands : Demands) (disk : IsDisk base) (sound : IsSound base)
    (zeros : HasZeroJournal base) (names : All GivesNames steps)
    (is_traced : trace_from Full (trace_start whole base) steps ≡ Ok s) (among : AreAmong journal_rules rules)
    (graph : IsGraphOf rules base s patches) (full : asked.kind ≡ Full)
    (are : AreDemands asked base steps demands) where
  listed_none : AreSure steps → (closed : IsClosed (deps_of patches) set) (promising : Bool)
      → broken_lines (promised (when promising (promises_of Full asked.durable base steps))) set
      (image_after_replay (image_of base patches set)) ≡ []
  listed_none sure closed true = none_broken (promises_of Full asked.durable base steps) set
      (image_after_replay (image_of base patches set)) (λ line.
      line_kept rules whole asked.durable base steps s patches
      set line disk sound zeros (steps_give steps names) is_traced among graph closed (sure line))
  listed_none sure closed false =
      none_broken [] set (image_after_replay (image_of base patches set)) (λ line. refl)

  broken_alone : IsClosed (deps_of patches) set
      → all_faults demands set (image_after_replay (image_of base patches set))
      ≡ broken_lines (promised (when asked.promising (promises_of Full asked.durable base steps))) set
      (image_after_replay (image_of base patches set))
  broken_alone closed =
      only_broken asked base steps s patches set disk
      (recovered rules whole base steps s patches set disk sound zeros
      (steps_give steps names) is_traced among graph closed) demands are
      ∙ ap (λ (ps : Option (List Promise)). broken_lines (promised ps) set
      (image_after_replay (image_of base patches set))) (are.promises
      ∙ ap (λ (kind : Module). when asked.promising (promises_of kind asked.durable base steps)) full)

  faultless : AreSure steps → IsClosed (deps_of patches) set
      → all_faults demands set (image_after_replay (image_of base patches set)) ≡ []
  faultless sure closed = broken_alone closed ∙ listed_none sure closed asked.promising

  pub none_at_risk : RiskNoPromise asked steps → ¬ (IsFailingUnder demands base patches set)
  none_at_risk (inl sure) failing = failing.unclean (record {
    faultless = ap (counted_among demands.counted) (faultless sure failing.closed) ∙ nothing demands.counted;
  })
    where
      nothing : (counted : Option ℕ) → counted_among counted [] ≡ []
      nothing None = refl
      nothing (Some counted) = refl
  none_at_risk (inr (counted, is, without)) failing =
      none_fails asked whole demands base steps patches disk are (inr (counted, are.counted ∙ is, without))
      (traced_is_safe Full rules whole base steps s patches refl among disk sound zeros names is_traced graph) set
      failing

  -- ---- and what is found is at risk

  found_at_risk : (closed : IsClosed (deps_of patches) set) (promising : Bool)
      → AreAtRisk steps (broken_lines (promised (when promising (promises_of Full asked.durable base steps))) set
      (image_after_replay (image_of base patches set)))
  found_at_risk closed true fault found =
      let it = broken_line (promises_of Full asked.durable base steps) set
      (image_after_replay (image_of base patches set)) fault found in (
        it.0,
        it.2,
        λ sure. not_both _ it.1 (line_kept rules whole asked.durable base steps s patches set it.0 disk
            sound zeros (steps_give steps names) is_traced among graph closed sure),
      )
  found_at_risk closed false fault found =
      let it = broken_line [] set (image_after_replay (image_of base patches set)) fault found in
      absurd (not_both _ it.1 refl)

  pub at_risk_alone : IsClosed (deps_of patches) set
      → AreAtRisk steps (all_faults demands set (image_after_replay (image_of base patches set)))
  at_risk_alone closed =
      subst (AreAtRisk steps) (sym (broken_alone closed)) (found_at_risk closed asked.promising)
