-- A set that has what an `fsync` of a path forces shows of the path what it showed at the line, or has more commits.
use Rattle.std.proofs.Common.{◌≡◌, ℕ, zero, suc, ◌+◌, ◌*◌, ◌<◌, inl, inr, List, [], ◌∷◌, ◌++◌, length, take, Bool, true}
use Rattle.std.proofs.Common.{false, ◌&&◌, ◌||◌, Some, Result, Ok, arith, refl, sym, ◌∙◌, ap, subst}
use Rattle.std.specs.Prelude.{All, slice_get, ◌==◌}
use Rattle.std.proofs.lemmas.Bool.{cases_lt, eq-eqb}
use Rattle.std.proofs.lemmas.List.Elements.{All-head, All-tail}
use Rattle.patch_sets.specs.Sets.{IsSubset}
use Rattle.patch_sets.proofs.Ids.{has_true}
use Rattle.crash_model.specs.Disk.{Disk, IsDisk}
use Rattle.crash_model.specs.Paths.{names_of, names_show}
use Rattle.crash_model.specs.Plan.{with_changes}
use Rattle.crash_model.specs.StepDisks.{with_plan}
use Rattle.crash_model.specs.Sound.{IsSound}
use Rattle.crash_model.specs.Trace.{Emitted, trace_from}
use Rattle.crash_model.specs.Tracing.{Tracing, trace_start}
use Rattle.crash_model.specs.Waiting.{ranges_from, ranges_of, meets, is_file_data_patch, last_op_number, fsync_forces}
use Rattle.crash_model.specs.Waiting.{forced_by_fsync, ids_from}
use Rattle.crash_model.specs.Waiting as Waiting
use Rattle.crash_model.specs.declared.modules.Module.TheVariants.{Full}
use Rattle.crash_model.specs.declared.names.Path.{Path}
use Rattle.crash_model.specs.declared.operations.Op.{Op}
use Rattle.crash_model.specs.declared.plans.Change.{Change}
use Rattle.crash_model.specs.declared.ranges.Range.{Range}
use Rattle.crash_model.specs.declared.refusals.FsFault.{FsFault}
use Rattle.crash_model.specs.declared.steps.Step.{Step}
use Rattle.crash_model.specs.declared.steps.Target.TheVariants.{At}
use Rattle.inode_fs.specs.Inside.{GivesName}
use Rattle.journal_replay.proofs.Blocks.{IsShaped}
use Rattle.full_journal_laws.specs.Full.{is_commit, ops_of, after_ops, commits_from}
use Rattle.full_journal_laws.proofs.Closed.{get-left}
use Rattle.full_journal_laws.proofs.Final.{with_all_changes}
use Rattle.full_journal_laws.proofs.Logs.{log_emitted, IsClosedIn, IsGood, ArePlans}
use Rattle.full_journal_laws.proofs.Plans.{plan-good}
use Rattle.full_journal_laws.proofs.Traces.{Logged, changes_of, IsLogged, traced_logged}
use Rattle.promise_laws.proofs.Chains.{HasTurn, Lies, reaches}
use Rattle.promise_laws.proofs.Commits.{commits_from-append, in_ids}
use Rattle.promise_laws.proofs.Frames.{SameIn, same-back, in_places, last-log, same-after, agree-in}
use Rattle.promise_laws.proofs.Recovered.{good_after, ops-generations}
use Rattle.promise_laws.proofs.Shows.{IsAlike, alike-shown, sound-live}
use Rattle.promise_laws.proofs.Steps.{walked}

-- ---- the disks after operations, by their changes

plans_after : (k : ℕ) (ops : List Op) (plans : List (List Change)) (d : Disk) → ArePlans d ops plans
    → with_all_changes d (take k plans) ≡ after_ops d (take k ops)
plans_after zero ops plans d are = refl
plans_after (suc k) [] [] d are = refl
plans_after (suc k) [] (cs ∷ plans) d are = absurd are
plans_after (suc k) (op ∷ ops) [] d are = absurd are
plans_after (suc k) (op ∷ ops) (cs ∷ plans) d are =
    plans_after k ops plans (with_changes d cs) are.1
    ∙ ap (λ (r : Result (List Change) FsFault). after_ops (with_plan d r) (take k ops)) (sym are.0)

plans_all : (ops : List Op) (plans : List (List Change)) (d : Disk) → ArePlans d ops plans
    → with_all_changes d plans ≡ after_ops d ops
plans_all [] [] d are = refl
plans_all [] (cs ∷ plans) d are = absurd are
plans_all (op ∷ ops) [] d are = absurd are
plans_all (op ∷ ops) (cs ∷ plans) d are =
    plans_all ops plans (with_changes d cs) are.1
    ∙ ap (λ (r : Result (List Change) FsFault). after_ops (with_plan d r) ops) (sym are.0)

pub good_all : (n jl : ℕ) (ops : List Op) (plans : List (List Change)) (d : Disk) → IsGood n jl d
    → All GivesName ops → ArePlans d ops plans → IsGood n jl (after_ops d ops)
good_all n jl [] [] d good names are = good
good_all n jl [] (cs ∷ plans) d good names are = absurd are
good_all n jl (op ∷ ops) [] d good names are = absurd are
good_all n jl (op ∷ ops) (cs ∷ plans) d good names are =
    subst (λ (plan : Result (List Change) FsFault). IsGood n jl (after_ops (with_plan d plan) ops)) (sym are.0)
    (good_all n jl ops plans (with_changes d cs) (plan-good n jl d op cs good (All-head GivesName op ops names)
    are.0) (All-tail GivesName op ops names) are.1)

shaped : (n jl : ℕ) (d : Disk) → IsGood n jl d → IsShaped n jl d
shaped n jl d good = record {
  blocks = good.blocks;
  journal = good.journal;
  long = good.disk.whole ∙ ap (λ (m : ℕ). 128 * m) good.blocks;
}

-- ---- behind the line

module _ (whole : Bool) (base : Disk) (earlier : List Step) (at : Tracing) (all more : List Emitted) (all_whole : Bool)
    (links : List (List ℕ × List ℕ)) (set : ℕ) (path : Path) (disk : IsDisk base) (sound : IsSound base)
    (names : All GivesName (ops_of earlier)) (is_traced : trace_from Full (trace_start whole base) earlier ≡ Ok at)
    (emits : all ≡ at.emitted ++ more) (closed : IsClosedIn all_whole links all set)
    (held : IsSubset (forced_by_fsync Full at.disk (At path) at.emitted) set) where
  abbrev n : ℕ
  n = base.blocks

  abbrev jl : ℕ
  jl = base.journal

  abbrev rs : List Range
  rs = ranges_from at.disk (Some 0) (names_of path)

  abbrev last : ℕ
  last = last_op_number (in_places rs) at.emitted

  abbrev k : ℕ
  k = commits_from 0 all set

  good : IsGood n jl base
  good = record { blocks = refl; journal = refl; disk = disk; sound = sound }

  logged : IsLogged n jl (ops_of earlier) (trace_start whole base) at
  logged = traced_logged n jl earlier (trace_start whole base) at good names is_traced

  split : k ≡ commits_from 0 at.emitted set + commits_from (0 + length at.emitted) more set
  split = ap (λ (es : List Emitted). commits_from 0 es set) emits ∙ commits_from-append 0 at.emitted more set

  lies : (log : List Emitted) → at.emitted ≡ log → Lies n all all_whole links set closed log 0
  lies log is i y there = ap (λ (es : List Emitted). slice_get es (0 + i)) emits
      ∙ (ap (λ (m : ℕ). slice_get (at.emitted ++ more) m) (none i)
      ∙ get-left at.emitted more i y (ap (λ (es : List Emitted). slice_get es i) is ∙ there))
    where
      none : (i : ℕ) → 0 + i ≡ i
      none i = omega arith

  -- the commit of the last operation is forced
  forced : (log : List Emitted) → at.emitted ≡ log → HasTurn n all all_whole links set closed log 0 last
  unfolding forced_by_fsync ranges_of
  forced log is i y there part turn = has_true set (0 + i) (held (0 + i)
      (in_ids 0 (fsync_forces Full rs at.emitted) at.emitted i y
      (ap (λ (es : List Emitted). slice_get es i) is ∙ there)
      (is_forced (is_file_data_patch y && meets rs y) (Waiting.is_commit y) (y.op_number == last) (ap is_commit part)
      (eq-eqb y.op_number last turn))))
    where
      is_forced : (a b c : Bool) → b ≡ true → c ≡ true → (a || (b && c)) ≡ true
      is_forced true b c p q = refl
      is_forced false b c p q = rw (p, q) refl

  reached : (log : Logged) → at.emitted ≡ log_emitted n base 1 4 log → last < 1 + k
  reached [] is =
      let none : last ≡ 0 = ap (last_op_number (in_places rs)) is in
      omega arith
  reached (o ∷ log) is = elim (cases_lt last 1) [
    | inl none ↦ omega arith
    | inr some ↦
        let bound = last-log (in_places rs) n base 1 4 (o ∷ log) (omega arith) in
        let same : last ≡ last_op_number (in_places rs) (log_emitted n base 1 4 (o ∷ log)) =
        ap (last_op_number (in_places rs)) is in
        let far = reaches n all all_whole links set closed o log base 1 4 0 last (lies _ is) (forced _ is) some
        (omega arith) in
        let count : commits_from 0 at.emitted set ≡ commits_from 0 (log_emitted n base 1 4 (o ∷ log)) set =
        ap (λ (es : List Emitted). commits_from 0 es set) is in
        let whole_count = split in
        omega arith
  ]

  abbrev left : Disk
  left = after_ops base (take k (ops_of earlier))

  at_is : with_all_changes base (changes_of logged.changes) ≡ at.disk
  at_is = plans_all (ops_of earlier) (changes_of logged.changes) base logged.plans
      ∙ sym (walked earlier (trace_start whole base) at is_traced).disk

  same : SameIn rs at.disk left
  same = same-back rs left at.disk
      (subst (λ (d : Disk). SameIn rs left d) at_is
      (subst (λ (d : Disk). SameIn rs d (with_all_changes base (changes_of logged.changes)))
      (plans_after k (ops_of earlier) (changes_of logged.changes) base logged.plans)
      (same-after rs logged.changes n jl base 1 4 last k (shaped n jl base good) logged.log
      (let is : last ≡ last_op_number (in_places rs) (log_emitted n base 1 4 logged.changes) =
      ap (last_op_number (in_places rs)) logged.emits in omega arith)
      (reached logged.changes logged.emits))))

  left_good : IsGood n jl left
  left_good = good_after k n jl (ops_of earlier) (changes_of logged.changes) base good names logged.plans

  at_good : IsGood n jl at.disk
  at_good = subst (IsGood n jl) (sym (walked earlier (trace_start whole base) at is_traced).disk)
      (good_all n jl (ops_of earlier) (changes_of logged.changes) base good names logged.plans)

  alike : IsAlike at.disk left
  alike = record {
    blocks = left_good.blocks ∙ sym at_good.blocks;
    journal = left_good.journal ∙ sym at_good.journal;
    generations = ops-generations base (take k (ops_of earlier))
        ∙ sym (ap (λ (d : Disk). d.generations) (walked earlier (trace_start whole base) at is_traced).disk
        ∙ ops-generations base (ops_of earlier));
  }

  pub shows_fsynced : names_show left (names_of path) ≡ names_show at.disk (names_of path)
  shows_fsynced = alike-shown at.disk left alike (sound-live at.disk at_good.sound) (sound-live left left_good.sound)
      (names_of path)
      (agree-in at.disk left n jl (shaped n jl at.disk at_good) (shaped n jl left left_good) (Some 0) (names_of path)
      same)
