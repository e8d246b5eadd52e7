-- A promise for which the script has waited is kept.
use Rattle.std.proofs.Common.{◌≡◌, ℕ, zero, suc, ◌+◌, ◌-◌, ◌≤◌, ◌⊎◌, inl, inr, List, [], ◌∷◌, ◌++◌, length, take, Bool}
use Rattle.std.proofs.Common.{true, false, ◌||◌, Some, Ok, arith, tests, append_assoc, refl, sym, ◌∙◌, ap, subst}
use Rattle.std.specs.Prelude.{All, nat_le}
use Rattle.std.specs.List.{list_any}
use Rattle.std.proofs.lemmas.Bool.{cases_Bool, or_parts, cases_lt}
use Rattle.std.proofs.lemmas.List.Folds.{list_any-append}
use Rattle.std.proofs.lemmas.List.Elements.{All-nil, All-cons, All-head, All-tail}
use Rattle.patch_sets.specs.Sets.{Has, IsSubset}
use Rattle.patch_sets.specs.Closed.{IsClosed}
use Rattle.patch_sets.proofs.Bits.{subset_from_and}
use Rattle.patch_sets.proofs.Ids.{eq_from_true, has_true}
use Rattle.crash_model.specs.Disk.{Disk, IsDisk}
use Rattle.crash_model.specs.Paths.{names_of, names_show}
use Rattle.crash_model.specs.Patches.{deps_of, image_of}
use Rattle.crash_model.specs.Promises.{Promise, paths_show, allowance, has_all, has_none, is_allowed, is_broken, kept}
use Rattle.crash_model.specs.Promises.{durable, touched_ranges, touching_from, rests_of, places_from}
use Rattle.crash_model.specs.Replay.{image_after_replay}
use Rattle.crash_model.specs.Rules.{journal_rules}
use Rattle.crash_model.specs.RuleFacts.{AreAmong}
use Rattle.crash_model.specs.Sound.{IsSound, HasZeroJournal}
use Rattle.crash_model.specs.Trace.{Emitted, trace_from, IsGraphOf}
use Rattle.crash_model.specs.Tracing.{Tracing, trace_start}
use Rattle.crash_model.specs.Waiting.{forced_by_sync, forced_by_fsync, sync_forces, ids_from, is_file_data_patch}
use Rattle.crash_model.specs.Waiting as Waiting
use Rattle.crash_model.specs.declared.modules.Module.TheVariants.{Full}
use Rattle.crash_model.specs.declared.names.Path.{Path}
use Rattle.crash_model.specs.declared.operations.Op.{Op}
use Rattle.crash_model.specs.declared.patches.Patch.{Patch}
use Rattle.crash_model.specs.declared.promises.Allowance.{Allowance}
use Rattle.crash_model.specs.declared.ranges.Range.{Range}
use Rattle.crash_model.specs.declared.rules.Rule.{Rule}
use Rattle.crash_model.specs.declared.showing.Shown.{Shown}
use Rattle.crash_model.specs.declared.steps.Act.{Act}
use Rattle.crash_model.specs.declared.steps.Act.TheVariants.{Sync, Fsync}
use Rattle.crash_model.specs.declared.steps.Step.{Step}
use Rattle.crash_model.specs.declared.steps.Target.TheVariants.{At}
use Rattle.inode_fs.specs.Inside.{GivesName}
use Rattle.full_journal_laws.specs.Full.{is_commit, ops_of, after_ops, commits_from}
use Rattle.full_journal_laws.proofs.Logs.{IsGood}
use Rattle.full_journal_laws.proofs.Traces.{changes_of, traced_logged}
use Rattle.full_journal_laws.proofs.Final.{closed_in}
use Rattle.promise_laws.specs.Waited.{HasNoOperation, is_of_groups, HasNoGroups, EndBehind, IsWaitedFor}
use Rattle.promise_laws.proofs.Commits.{commits_of, commits_few, commits_all, commits_from-append, in_ids}
use Rattle.promise_laws.proofs.Steps.{the_ok, split_steps, ops_of-append, after_ops-append, IsWalk, walked, WaitsAt}
use Rattle.promise_laws.proofs.Steps.{waits_at, sync_is, fsync_is, forced_by}
use Rattle.promise_laws.proofs.Rests.{same_shows, stays_allowed, shown_allowed}
use Rattle.promise_laws.proofs.Recovered.{shows_left, one-shown}
use Rattle.promise_laws.proofs.Fsynced.{good_all, shows_fsynced}
use Rattle.promise_laws.proofs.Lasting.{apart, stays_shown}

-- a set breaks no promise where it shows what is allowed
kept_while_it_lasts : (promise : Promise) (set : ℕ) (d : Disk)
    → (IsSubset promise.after set → has_none set promise.ends ≡ true
    → is_allowed promise.allowed set (paths_show d promise.paths) ≡ true)
    → is_broken promise set d ≡ false
unfolding is_broken
kept_while_it_lasts promise set d allowed = elim (cases_Bool (has_all set promise.after)) [
  | inr without ↦ rw without refl
  | inl held ↦ elim (cases_Bool (has_none set promise.ends)) [
    | inr ended ↦ rw (held, ended) refl
    | inl lasts ↦ rw (
      held,
      lasts,
      allowed (subset_from_and promise.after set (eq_from_true _ promise.after held)) lasts,
    ) refl
  ]
]

pub not_broken : (promise : Promise) (set : ℕ) (d : Disk)
    → (IsSubset promise.after set → is_allowed promise.allowed set (paths_show d promise.paths) ≡ true)
    → is_broken promise set d ≡ false
not_broken promise set d allowed = kept_while_it_lasts promise set d (λ held lasts. allowed held)

zero_least : (set : ℕ) → nat_le 0 set ≡ true
zero_least set = grind (arith, tests)

module _ (rules : List Rule) (whole : Bool) (base : Disk) (before after : List Step) (s here : Tracing)
    (patches : List Patch) (set line : ℕ) (paths : List Path) (disk : IsDisk base) (sound : IsSound base)
    (zeros : HasZeroJournal base) (names : All GivesName (ops_of (before ++ after)))
    (is_traced : trace_from Full (trace_start whole base) (before ++ after) ≡ Ok s)
    (among : AreAmong journal_rules rules) (graph : IsGraphOf rules base s patches)
    (closed : IsClosed (deps_of patches) set) (is_here : trace_from Full (trace_start whole base) before ≡ Ok here)
  where
    abbrev image : Disk
    image = image_after_replay (image_of base patches set)

    abbrev commits : ℕ
    commits = commits_from 0 s.emitted set

    to_here : IsWalk before (trace_start whole base) here
    to_here = walked before (trace_start whole base) here is_here

    from_here : trace_from Full here after ≡ Ok s
    from_here =
        let split = split_steps before after (trace_start whole base) s is_traced in
        subst (λ (r : Tracing). trace_from Full r after ≡ Ok s)
        (the_ok split.0 here (sym split.1 ∙ is_here)) split.2

    onward : IsWalk after here s
    onward = walked after here s from_here

    -- commits up to the place are of the operations before it
    commits_here : commits_of here.emitted ≡ length (ops_of before)
    commits_here = ap commits_of to_here.emits ∙ to_here.counted

    commits_split : commits ≡ commits_from 0 here.emitted set + commits_from (0 + length here.emitted) onward.more set
    commits_split = ap (λ (es : List Emitted). commits_from 0 es set) onward.emits
        ∙ commits_from-append 0 here.emitted onward.more set

    -- the disk after at least the operations before the place
    left_is : length (ops_of before) ≤ commits → after_ops base (take commits (ops_of (before ++ after)))
        ≡ after_ops here.disk (take (commits - length (ops_of before)) (ops_of after))
    left_is enough =
        ap (λ (ops : List Op). after_ops base (take commits ops)) (ops_of-append before after)
        ∙ (ap (after_ops base) (take-append (ops_of before) (ops_of after) commits enough)
        ∙ (after_ops-append base (ops_of before) (take (commits - length (ops_of before)) (ops_of after))
        ∙ ap (λ (d : Disk). after_ops d (take (commits - length (ops_of before)) (ops_of after))) (sym to_here.disk)))
      where
        take-append : (xs ys : List Op) (n : ℕ) → length xs ≤ n → take n (xs ++ ys) ≡ xs ++ take (n - length xs) ys
        take-append [] ys n more = ap (λ (m : ℕ). take m ys) (omega arith)
        take-append (x ∷ xs) ys zero more = absurd (omega arith)
        take-append (x ∷ xs) ys (suc n) more = ap (λ (zs : List Op). x ∷ zs) (take-append xs ys n (omega arith)
            ∙ ap (λ (m : ℕ). xs ++ take m ys) (omega arith))

    abbrev first : List Allowance
    first = allowance 0 (paths_show here.disk paths) ∷ []

    -- what is shown at the place is allowed
    allowed_here : is_allowed (kept Full line paths here after).allowed set (paths_show here.disk paths) ≡ true
    allowed_here = stays_allowed set (rests_of (places_from Full here after)) first 0 paths
        (paths_show here.disk paths)
        (rw (zero_least set, same_shows (paths_show here.disk paths)) refl)

    no_groups : HasNoGroups (before ++ after) → HasNoGroups before × HasNoGroups after
    no_groups none = or_parts (list_any (λ x. is_of_groups x.act) before) (list_any (λ x. is_of_groups x.act) after)
        (sym (list_any-append (λ (x : Step). is_of_groups x.act) before after) ∙ none)

    -- what is shown after these operations, or more of them, is allowed
    allowed_behind : HasNoGroups (before ++ after) → length (ops_of before) ≤ commits
        → is_allowed (kept Full line paths here after).allowed set (paths_show image paths) ≡ true
    allowed_behind none enough =
        let both = no_groups none in
        let few : commits_from 0 here.emitted set ≤ commits_of here.emitted = commits_few 0 here.emitted set in
        let count : commits_of here.emitted ≡ length (ops_of before) = commits_here in
        subst (λ (shows : List Shown). is_allowed (kept Full line paths here after).allowed set shows ≡ true)
        (sym (shows_left rules whole base (before ++ after) s patches set disk sound zeros names is_traced among graph
        closed paths ∙ ap (λ (d : Disk). paths_show d paths) (left_is enough)))
        (shown_allowed set paths after s here first 0 (commits - length (ops_of before)) from_here both.1
        (to_here.current both.0) (rw (zero_least set) refl) (zero_least set) (omega arith))

    -- ---- behind a `sync`

    sync_commits : EndBehind Sync before → IsSubset here.forced set → length (ops_of before) ≤ commits
    unfolding forced_by_sync
    sync_commits behind held =
        let wait = waits_at Sync before (trace_start whole base) here behind is_here in
        let is = sync_is wait.line wait.at wait.next wait.waits in
        let same : here.emitted ≡ wait.at.emitted = wait.emits ∙ ap (λ (r : Tracing). r.emitted) is in
        let ids : IsSubset (ids_from 0 (sync_forces Full) here.emitted) here.forced =
        λ id has. wait.forced id
        (forced_by wait.line Sync wait.at wait.next (forced_by_sync Full wait.at.emitted) is id
        (subst (λ (es : List Emitted). Has (ids_from 0 (sync_forces Full) es) id) same has)) in
        let all : commits_of here.emitted ≤ commits_from 0 here.emitted set =
        commits_all 0 here.emitted set (λ i e at commit. has_true set (0 + i) (held (0 + i) (ids (0 + i)
        (in_ids 0 (sync_forces Full) here.emitted i e at (forces e commit))))) in
        let count : commits_of here.emitted ≡ length (ops_of before) = commits_here in
        let split = commits_split in
        omega arith
      where
        or_true : (a b : Bool) → b ≡ true → (a || b) ≡ true
        or_true true b e = refl
        or_true false b e = e

        forces : (e : Emitted) → is_commit e.part ≡ true → sync_forces Full e ≡ true
        forces e commit = or_true (is_file_data_patch e) (Waiting.is_commit e) commit

    pub kept_behind : HasNoGroups (before ++ after) → (HasNoOperation before ⊎ EndBehind Sync before)
        → is_broken (kept Full line paths here after) set image ≡ false
    kept_behind none (inl quiet) = not_broken (kept Full line paths here after) set image
        (λ held. allowed_behind none (let no : length (ops_of before) ≡ 0 = ap (λ (ops : List Op). length ops) quiet in
        omega arith))
    kept_behind none (inr behind) = not_broken (kept Full line paths here after) set image
        (λ held. allowed_behind none (sync_commits behind held))

    -- ---- behind an `fsync`

    all_left : (xs ys : List Op) → All GivesName (xs ++ ys) → All GivesName xs
    all_left [] ys all = All-nil GivesName
    all_left (x ∷ xs) ys all = All-cons GivesName x xs (All-head GivesName x (xs ++ ys) all)
        (all_left xs ys (All-tail GivesName x (xs ++ ys) all))

    take_left : (xs ys : List Op) (n : ℕ) → n ≤ length xs → take n (xs ++ ys) ≡ take n xs
    take_left [] ys zero few = refl
    take_left [] ys (suc n) few = absurd (omega arith)
    take_left (x ∷ xs) ys zero few = refl
    take_left (x ∷ xs) ys (suc n) few = ap (λ (zs : List Op). x ∷ zs) (take_left xs ys n (omega arith))

    -- the operations before the line come first
    ops_first : (act : Act) (wait : WaitsAt act before (trace_start whole base) here)
        → ops_of (before ++ after) ≡ ops_of wait.earlier ++ (ops_of wait.rest ++ ops_of after)
    ops_first act wait = ops_of-append before after
        ∙ (ap (λ (xs : List Step). ops_of xs ++ ops_of after) wait.are
        ∙ (ap (λ (ops : List Op). ops ++ ops_of after) (ops_of-append wait.earlier wait.rest)
        ∙ append_assoc (ops_of wait.earlier) (ops_of wait.rest) (ops_of after)))

    -- with fewer commits than operations, the path shows what it showed at the line
    pub fsync_shown : (path : Path) → EndBehind (Fsync (At path)) before → IsSubset here.forced set
        → commits ≤ length (ops_of before)
        → names_show (after_ops base (take commits (ops_of (before ++ after)))) (names_of path)
        ≡ names_show here.disk (names_of path)
    fsync_shown path behind held few =
        let act : Act = Fsync (At path) in
        let wait = waits_at act before (trace_start whole base) here behind is_here in
        let is = fsync_is wait.line (At path) wait.at wait.next wait.waits in
        let ops = ops_first act wait in
        let same_emitted : here.emitted ≡ wait.at.emitted = wait.emits ∙ ap (λ (r : Tracing). r.emitted) is in
        let same_disk : here.disk ≡ wait.at.disk = wait.disk ∙ ap (λ (r : Tracing). r.disk) is in
        let count : length (ops_of before) ≡ length (ops_of wait.earlier) + 0 = wait.counted in
        let left : take commits (ops_of (before ++ after)) ≡ take commits (ops_of wait.earlier) =
        ap (λ (zs : List Op). take commits zs) ops
        ∙ take_left (ops_of wait.earlier) (ops_of wait.rest ++ ops_of after) commits (omega arith) in
        ap (λ (zs : List Op). names_show (after_ops base zs) (names_of path)) left
        ∙ (shows_fsynced whole base wait.earlier wait.at s.emitted onward.more s.whole s.links set path disk sound
        (all_left (ops_of wait.earlier) (ops_of wait.rest ++ ops_of after)
        (subst (λ (zs : List Op). All GivesName zs) ops names)) wait.traced
        (onward.emits ∙ ap (λ (es : List Emitted). es ++ onward.more) same_emitted)
        (closed_in rules base s patches set among graph closed)
        (λ id has. held id (wait.forced id (forced_by wait.line act wait.at wait.next
        (forced_by_fsync Full wait.at.disk (At path) wait.at.emitted) is id has)))
        ∙ ap (λ (d : Disk). names_show d (names_of path)) (sym same_disk))

    allowed_fsync : HasNoGroups (before ++ after) → (path : Path) → paths ≡ path ∷ []
        → EndBehind (Fsync (At path)) before → IsSubset here.forced set
        → is_allowed (kept Full line paths here after).allowed set (paths_show image paths) ≡ true
    allowed_fsync none path is behind held = elim (cases_lt commits (length (ops_of before))) [
      | inr enough ↦ allowed_behind none enough
      | inl fewer ↦
          let left : Disk = after_ops base (take commits (ops_of (before ++ after))) in
          let one : paths_show left paths ≡ paths_show here.disk paths = ap (paths_show left) is
          ∙ (ap (λ (x : Shown). x ∷ []) (one-shown here.disk left path (fsync_shown path behind held (omega arith)))
          ∙ sym (ap (paths_show here.disk) is)) in
          subst (λ (shows : List Shown). is_allowed (kept Full line paths here after).allowed set shows ≡ true)
          (sym (shows_left rules whole base (before ++ after) s patches set disk sound zeros names is_traced among
          graph closed paths ∙ one)) allowed_here
    ]

    pub waited_kept : HasNoGroups (before ++ after) → IsWaitedFor before paths
        → is_broken (kept Full line paths here after) set image ≡ false
    waited_kept none (inl quiet) = kept_behind none (inl quiet)
    waited_kept none (inr (inl behind)) = kept_behind none (inr behind)
    waited_kept none (inr (inr (path, is, behind))) = not_broken (kept Full line paths here after) set image
        (allowed_fsync none path is behind)

    -- ---- what lasts

    all_right : (xs ys : List Op) → All GivesName (xs ++ ys) → All GivesName ys
    all_right [] ys all = all
    all_right (x ∷ xs) ys all = all_right xs ys (All-tail GivesName x (xs ++ ys) all)

    names_split : All GivesName (ops_of before ++ ops_of after)
    names_split = subst (λ (ops : List Op). All GivesName ops) (ops_of-append before after) names

    here_good : IsGood base.blocks base.journal here.disk
    here_good =
        let good : IsGood base.blocks base.journal base =
        record { blocks = refl; journal = refl; disk = disk; sound = sound } in
        let first_names = all_left (ops_of before) (ops_of after) names_split in
        let logged =
        traced_logged base.blocks base.journal before (trace_start whole base) here good first_names is_here
        in
        subst (IsGood base.blocks base.journal) (sym to_here.disk)
        (good_all base.blocks base.journal (ops_of before) (changes_of logged.changes) base good first_names
        logged.plans)

    lasting : (path : Path) (ranges : List Range) → EndBehind (Fsync (At path)) before → IsSubset here.forced set
        → has_none set (touching_from Full path ranges here after) ≡ true
        → names_show (after_ops base (take commits (ops_of (before ++ after)))) (names_of path)
        ≡ names_show here.disk (names_of path)
    lasting path ranges behind held lasts = elim (cases_lt commits (length (ops_of before))) [
      | inl fewer ↦ fsync_shown path behind held (omega arith)
      | inr enough ↦
          let few : commits_from 0 here.emitted set ≤ commits_of here.emitted = commits_few 0 here.emitted set in
          let count : commits_of here.emitted ≡ length (ops_of before) = commits_here in
          ap (λ (d : Disk). names_show d (names_of path)) (left_is enough)
          ∙ stays_shown base.blocks base.journal path ranges set after here s (commits - length (ops_of before))
          s.whole
          s.links here_good (all_right (ops_of before) (ops_of after) names_split)
          (closed_in rules base s patches set among graph closed) from_here
          (apart set (touching_from Full path ranges here after) lasts) (omega arith)
    ]

    pub durable_kept : (path : Path) → EndBehind (Fsync (At path)) before
        → is_broken (durable Full line path here after) set image ≡ false
    durable_kept path behind = kept_while_it_lasts (durable Full line path here after) set image (λ held lasts.
        let left : Disk = after_ops base (take commits (ops_of (before ++ after))) in
        let one : paths_show left (path ∷ []) ≡ paths_show here.disk (path ∷ []) =
        ap (λ (x : Shown). x ∷ []) (one-shown here.disk left path
        (lasting path (touched_ranges here.disk (Some 0) (names_of path)) behind held lasts)) in
        subst (λ (shows : List Shown). is_allowed (allowance 0 (paths_show here.disk (path ∷ [])) ∷ []) set shows
        ≡ true)
        (sym (shows_left rules whole base (before ++ after) s patches set disk sound zeros names is_traced among graph
        closed (path ∷ []) ∙ one))
        (rw (zero_least set, same_shows (paths_show here.disk (path ∷ []))) refl))
