-- The full journal is safe.
use Rattle.std.proofs.Common.{◌≡◌, ℕ, zero, suc, ◌+◌, ◌*◌, ◌<◌, ◌≤◌, inl, inr, List, [], ◌∷◌, ◌++◌, length, take, drop}
use Rattle.std.proofs.Common.{map, Bool, true, false, cond, Result, Ok, arith, refl, sym, ◌∙◌, ap, subst}
use Rattle.std.specs.Prelude.{slice_get, slice_index, unwrap_or, ◌==◌}
use Rattle.std.specs.List.{flat_map, range_with_len}
use Rattle.std.proofs.lemmas.List.{length-append, length-take, map-append, take_at, drop_at, drop-drop}
use Rattle.std.specs.Prelude.{All}
use Rattle.std.proofs.lemmas.List.Elements.{All-head, All-tail}
use Rattle.crash_model.specs.Disk.{Disk, IsDisk, block_of, with_bytes}
use Rattle.crash_model.specs.Sound.{IsSound, HasZeroJournal}
use Rattle.patch_sets.specs.Sets.{Has, has}
use Rattle.patch_sets.specs.Closed.{IsClosed}
use Rattle.crash_model.specs.Patches.{Place, place, image_from, image_of, deps_of}
use Rattle.crash_model.specs.Plan.{with_changes}
use Rattle.crash_model.specs.StepDisks.{with_plan}
use Rattle.crash_model.specs.declared.operations.Op.{Op}
use Rattle.crash_model.specs.declared.refusals.FsFault.{FsFault}
use Rattle.inode_fs.specs.Inside.{GivesName}
use Rattle.crash_model.specs.Replay.{is_header, headers_from, headers, copy_in, copy_after, count_of, targets_of}
use Rattle.crash_model.specs.Replay.{image_after_replay}
use Rattle.crash_model.specs.Trace.{Emitted, Origin, trace_from, journal_patches, copies, in_place_patch, part_of}
use Rattle.crash_model.specs.Trace.{touched_blocks, IsGraphOf}
use Rattle.crash_model.specs.Tracing.{Tracing, trace_start}
use Rattle.crash_model.specs.Rules.{journal_rules}
use Rattle.crash_model.specs.RuleFacts.{AreAmong}
use Rattle.crash_model.specs.declared.rules.Part.TheVariants.{Commit, Done}
use Rattle.crash_model.specs.declared.rules.Rule.{Rule}
use Rattle.crash_model.proofs.Dependence.{depends-among}
use Rattle.crash_model.specs.declared.plans.Change.{Change}
use Rattle.crash_model.specs.declared.patches.Patch.{Patch}
use Rattle.crash_model.specs.declared.modules.Module.TheVariants.{Full}
use Rattle.crash_model.specs.declared.steps.Step.{Step}
use Rattle.full_journal_laws.proofs.Transactions.{IsLogClosed, copy_places, change_places, turn_places, log_places}
use Rattle.full_journal_laws.proofs.Transactions.{committed_disk, replayed_block}
use Rattle.crash_model.specs.Atomic.{shows}
use Rattle.full_journal_laws.proofs.Showing.{sound_shows}
use Rattle.full_journal_laws.specs.Full.{IsOutside}
use Rattle.full_journal_laws.proofs.Logs.{log_emitted, IsClosedIn, IsGood, ArePlans}
use Rattle.journal_replay.proofs.Blocks.{IsShaped, length-block, block-at, shaped-inside}
use Rattle.journal_replay.proofs.Targets.{bool_is, same_number, found_or_not, header_fits}
use Rattle.full_journal_laws.proofs.Images.{shaped-image, image-generations}
use Rattle.full_journal_laws.proofs.Targets.{equal_test}
use Rattle.crash_model.specs.Atomic.{shows}
use Rattle.full_journal_laws.proofs.Showing.{sound_shows}
use Rattle.full_journal_laws.specs.Full.{ops_of, after_ops, commits_from, IsRecovered}
use Rattle.full_journal_laws.proofs.Plans.{plan-good}
use Rattle.full_journal_laws.proofs.Outside.{sound-outside}
use Rattle.full_journal_laws.proofs.TurnPlaces.{placed-log}
use Rattle.full_journal_laws.proofs.Journal.{log_safe}
use Rattle.full_journal_laws.proofs.Closed.{closed_log, length-copy, parts_of}
use Rattle.full_journal_laws.proofs.Traces.{Logged, changes_of, IsLogged, traced_logged}

-- a set that is closed by the graph's dependencies has what its members depend on by the rules of the journal
pub closed_in : (rules : List Rule) (base : Disk) (s : Tracing) (patches : List Patch) (set : ℕ)
    → AreAmong journal_rules rules → IsGraphOf rules base s patches → IsClosed (deps_of patches) set
    → IsClosedIn s.whole s.links s.emitted set
closed_in rules base s patches set among graph closed q p x y hx hy less dep hq =
    let mask : Has (slice_index (deps_of patches) q) p = (graph.exactly q p x y less hx hy).1
    (depends-among journal_rules rules s.whole s.links x p y among dep) in
    equal_test _ 1 (closed.whole q p (same_number _ 1 hq) mask)

-- ---- the places of what is emitted

map-copies : (after : Disk) (t j : ℕ) (g : Origin) (bs : List ℕ)
    → map (λ (e : Emitted). e.place) (copies after t j g bs) ≡ copy_places after j bs
map-copies after t j g [] = refl
map-copies after t j g (b ∷ bs) = ap (λ (ps : List Place). place j 0 (block_of after b) ∷ ps)
    (map-copies after t (j + 1) g bs)

map-plain : (t : ℕ) (g : Origin) (cs : List Change) → map (λ (e : Emitted). e.place) (map (in_place_patch t g) cs)
    ≡ change_places cs
map-plain t g [] = refl
map-plain t g (c ∷ cs) = ap (λ (ps : List Place). place c.block c.offset c.new.items ∷ ps) (map-plain t g cs)

map-turn : (after : Disk) (t j : ℕ) (g : Origin) (targets : List ℕ) (cs : List Change)
    → map (λ (e : Emitted). e.place) (journal_patches after t j g targets cs) ≡ turn_places after t j targets cs
map-turn after t j g targets cs =
    let commit : Emitted = part_of t g Commit j 0 (0xC7 ∷ t ∷ length targets ∷ targets) in
    let done : Emitted = part_of t g Done j 0 (0xC8 ∷ []) in
    map-append (λ (e : Emitted). e.place) (copies after t (j + 1) g targets)
    (commit ∷ (map (in_place_patch t g) cs ++ (done ∷ [])))
    ∙ ap (λ (ps : List Place). ps ++ (commit.place ∷ map (λ (e : Emitted). e.place)
    (map (in_place_patch t g) cs ++ (done ∷ [])))) (map-copies after t (j + 1) g targets)
    ∙ ap (λ (ps : List Place). copy_places after (j + 1) targets ++ (commit.place ∷ ps))
    (map-append (λ (e : Emitted). e.place) (map (in_place_patch t g) cs) (done ∷ []))
    ∙ ap (λ (ps : List Place). copy_places after (j + 1) targets ++ (commit.place ∷ (ps ++ (done.place ∷ []))))
    (map-plain t g cs)

pub map-log : (n : ℕ) (d : Disk) (t j : ℕ) (ops : Logged)
    → map (λ (e : Emitted). e.place) (log_emitted n d t j ops) ≡ log_places n d t j (changes_of ops)
map-log n d t j [] = refl
map-log n d t j (o ∷ ops) =
    let xs : List Emitted = journal_patches (with_changes d o.1) t j o.0 (touched_blocks n o.1) o.1 in
    let rest : List Emitted = log_emitted n (with_changes d o.1) (t + 1) (j + 1 + length (touched_blocks n o.1)) ops in
    map-append (λ (e : Emitted). e.place) xs rest
    ∙ ap (λ (ps : List Place). ps ++ map (λ (e : Emitted). e.place) rest)
    (map-turn (with_changes d o.1) t j o.0 (touched_blocks n o.1) o.1)
    ∙ ap (λ (ps : List Place). turn_places (with_changes d o.1) t j (touched_blocks n o.1) o.1 ++ ps)
    (map-log n (with_changes d o.1) (t + 1) (j + 1 + length (touched_blocks n o.1)) ops)

-- ---- the replayed disk, block by block

rows_at : (row : ℕ → List ℕ) (a m b : ℕ) → ((x : ℕ) → a ≤ x → x < a + m → length (row x) ≡ 128) → b < m
    → take 128 (drop (128 * b) (flat_map row (range_with_len a m))) ≡ row (a + b)
rows_at row a zero b long h = absurd (omega arith)
rows_at row a (suc m) zero long h =
    take_at (row a) (flat_map row (range_with_len (a + 1) m)) 128 (long a (omega arith) (omega arith))
    ∙ ap row (omega arith)
rows_at row a (suc m) (suc b) long h =
    let rest : List ℕ = flat_map row (range_with_len (a + 1) m) in
    let e : 128 * suc b ≡ 128 + 128 * b = omega arith in
    ap (λ (k : ℕ). take 128 (drop k (row a ++ rest))) e
    ∙ ap (λ (xs : List ℕ). take 128 xs) (sym (drop-drop (128 * b) 128 (row a ++ rest)))
    ∙ ap (λ (xs : List ℕ). take 128 (drop (128 * b) xs)) (drop_at (row a) rest 128 (long a (omega arith) (omega arith)))
    ∙ rows_at row (a + 1) m b (λ x from to. long x (omega arith) (omega arith)) (omega arith)
    ∙ ap row (omega arith)

-- where replay finds a block is inside the disk
copy_inside : (n jl : ℕ) (row : List ℕ) (j b cur : ℕ) → 4 + jl ≤ n → cur < n → j + count_of row ≤ 3 + jl
    → unwrap_or (copy_in row j b) cur < n
copy_inside n jl row j b cur room less fits = elim (bool_is (slice_index row 0 == 0xC7)) [
  | inr done ↦ rw done less
  | inl held ↦ rw held (elim (found_or_not b (targets_of row)) [
    | inl at ↦
        let in_targets : at.0 < length (targets_of row) = at.2 in
        let e : length (take (count_of row) (drop 3 row)) ≡ _ = length-take (count_of row) (drop 3 row) in
        rw at.1 (omega arith)
    | inr none ↦ rw none.0 less
  ])
]

after_inside : (most n jl : ℕ) (d : Disk) (j t b cur : ℕ) → d.journal ≡ jl → 4 + jl ≤ n → cur < n
    → copy_after d b cur (headers_from most d j t) < n
after_inside zero n jl d j t b cur e room less = less
after_inside (suc most) n jl d j t b cur e room less = elim (bool_is (is_header d j t (block_of d j))) [
  | inr none ↦ rw none less
  | inl is ↦
      let fits : j + count_of (block_of d j) ≤ 3 + d.journal = header_fits d j t (block_of d j) is in
      rw is (after_inside most n jl d (j + 1 + count_of (block_of d j)) (t + 1) b
      (unwrap_or (copy_in (block_of d j) j b) cur) e room
      (copy_inside n jl (block_of d j) j b cur room less (omega arith)))
]

pub replayed_at : (n jl : ℕ) (d : Disk) (b : ℕ) → IsShaped n jl d → 4 + jl ≤ n → b < n
    → block_of (image_after_replay d) b ≡ replayed_block d jl 4 1 b b
replayed_at n jl d b s room less =
    let bs : d.blocks ≡ n = s.blocks in
    let at : ℕ → ℕ = λ x. copy_after d x x (headers d) in
    rows_at (λ x. block_of d (at x)) 0 d.blocks b (λ x from to.
    length-block d (at x) (shaped-inside n jl d (at x) s
    (after_inside d.journal n jl d 4 1 x x s.journal room (omega arith)))) (omega arith)
    ∙ ap (λ (m : ℕ). block_of d (at m)) (omega arith)
    ∙ ap (λ (m : ℕ). replayed_block d m 4 1 b b) s.journal

-- the bytes of rows of blocks
rows_long : (row : ℕ → List ℕ) (a m : ℕ) → ((x : ℕ) → a ≤ x → x < a + m → length (row x) ≡ 128)
    → length (flat_map row (range_with_len a m)) ≡ 128 * m
rows_long row a zero long = refl
rows_long row a (suc m) long =
    let one = long a (omega arith) (omega arith) in
    let rest = rows_long row (a + 1) m (λ x from to. long x (omega arith) (omega arith)) in
    length-append (row a) (flat_map row (range_with_len (a + 1) m)) ∙ omega arith

replayed_long : (n jl : ℕ) (d : Disk) → IsShaped n jl d → 4 + jl ≤ n → length (image_after_replay d).bytes ≡ 128 * n
replayed_long n jl d s room =
    let bs : d.blocks ≡ n = s.blocks in
    let at : ℕ → ℕ = λ x. copy_after d x x (headers d) in
    rows_long (λ x. block_of d (at x)) 0 d.blocks (λ x from to.
    length-block d (at x) (shaped-inside n jl d (at x) s
    (after_inside d.journal n jl d 4 1 x x s.journal room (omega arith))))
    ∙ ap (λ (m : ℕ). 128 * m) bs

-- ---- how many operations are committed

abbrev pub with_all_changes : Disk → List (List Change) → Disk
with_all_changes d [] = d
with_all_changes d (cs ∷ ops) = with_all_changes (with_changes d cs) ops

-- changes leave what says whether there are generations
changes-generations : (d : Disk) (cs : List Change) → (with_changes d cs).generations ≡ d.generations
changes-generations d [] = refl
changes-generations d (c ∷ cs) = changes-generations (with_bytes d c.block c.offset c.new.items) cs

all_changes-generations : (d : Disk) (ops : List (List Change)) → (with_all_changes d ops).generations ≡ d.generations
all_changes-generations d [] = refl
all_changes-generations d (cs ∷ ops) = all_changes-generations (with_changes d cs) ops ∙ changes-generations d cs

-- how many commits a set has
abbrev pub commits : ℕ → ℕ → List (List Change) → ℕ → ℕ
commits n id [] set = 0
commits n id (cs ∷ ops) set =
    let rest = commits n (id + length (touched_blocks n cs) + 1 + length cs + 1) ops set in
    cond (has set (id + length (touched_blocks n cs))) (suc rest) rest

commits_none : (ops : List (List Change)) (n id : ℕ) (c done : Bool) (set : ℕ) → c ≡ false
    → IsLogClosed n id c done ops set → commits n id ops set ≡ 0
commits_none [] n id c done set none closed = refl
commits_none (cs ∷ ops) n id c done set none closed =
    let k : ℕ = length (touched_blocks n cs) in
    let unheld : has set (id + k) ≡ false = elim (bool_is (has set (id + k))) [
      | inr f ↦ f
      | inl y ↦ let z : c ≡ true = closed.0.chained y in absurd (cc)
    ] in
    rw unheld (commits_none ops n (id + k + 1 + length cs + 1) (has set (id + k)) (has set (id + k + 1 + length cs)) set
    unheld closed.1)

-- they are the first, so the committed disk is the one after as many operations
pub first_operations : (ops : List (List Change)) (n id : ℕ) (d : Disk) (c done : Bool) (set : ℕ)
    → IsLogClosed n id c done ops set
    → committed_disk n d id ops set ≡ with_all_changes d (take (commits n id ops set) ops)
first_operations [] n id d c done set closed = refl
first_operations (cs ∷ ops) n id d c done set closed =
    let k : ℕ = length (touched_blocks n cs) in
    elim (bool_is (has set (id + k))) [
      | inl held ↦ rw held (first_operations ops n (id + k + 1 + length cs + 1) (with_changes d cs) (has set (id + k))
          (has set (id + k + 1 + length cs)) set closed.1)
      | inr unheld ↦ rw unheld (rw (commits_none ops n (id + k + 1 + length cs + 1) (has set (id + k))
          (has set (id + k + 1 + length cs)) set unheld closed.1) refl)
    ]

-- ---- commits, counted by the patches

commits-append : (id : ℕ) (xs ys : List Emitted) (set : ℕ)
    → commits_from id (xs ++ ys) set ≡ commits_from id xs set + commits_from (id + length xs) ys set
commits-append id [] ys set =
    let none : List Emitted = [] in
    let at : id ≡ id + length none = omega arith in
    let there : commits_from id ys set ≡ commits_from (id + length none) ys set =
    ap (λ (m : ℕ). commits_from m ys set) at in
    omega arith
commits-append id (x ∷ xs) ys set =
    let rest = commits-append (id + 1) xs ys set in
    let at : id + 1 + length xs ≡ id + suc (length xs) = omega arith in
    let there = ap (λ (m : ℕ). commits_from m ys set) at in
    omega arith

no_commits_copies : (after : Disk) (t j : ℕ) (g : Origin) (bs : List ℕ) (id set : ℕ)
    → commits_from id (copies after t j g bs) set ≡ 0
no_commits_copies after t j g [] id set = refl
no_commits_copies after t j g (b ∷ bs) id set = let rest = no_commits_copies after t (j + 1) g bs (id + 1) set in
    omega arith

no_commits_plain : (t : ℕ) (g : Origin) (cs : List Change) (id set : ℕ)
    → commits_from id (map (in_place_patch t g) cs) set ≡ 0
no_commits_plain t g [] id set = refl
no_commits_plain t g (c ∷ cs) id set = let rest = no_commits_plain t g cs (id + 1) set in omega arith

turn_commits : (after : Disk) (t j : ℕ) (g : Origin) (targets : List ℕ) (cs : List Change) (id set : ℕ)
    → commits_from id (journal_patches after t j g targets cs) set ≡ cond (has set (id + length targets)) 1 0
turn_commits after t j g targets cs id set =
    let commit : Emitted = part_of t g Commit j 0 (0xC7 ∷ t ∷ length targets ∷ targets) in
    let done : Emitted = part_of t g Done j 0 (0xC8 ∷ []) in
    let cps : List Emitted = copies after t (j + 1) g targets in
    let rest : List Emitted = map (in_place_patch t g) cs ++ (done ∷ []) in
    let split = commits-append id cps (commit ∷ rest) set in
    let none = no_commits_copies after t (j + 1) g targets id set in
    let long : length cps ≡ length targets = length-copy after t (j + 1) g targets in
    let here : id + length cps ≡ id + length targets = omega arith in
    let first = ap (λ (m : ℕ). commits_from m (commit ∷ rest) set) here in
    let behind : commits_from (id + length targets + 1) rest set ≡ 0 =
    (let two = commits-append (id + length targets + 1) (map (in_place_patch t g) cs) (done ∷ []) set in
    let z = no_commits_plain t g cs (id + length targets + 1) set in omega arith) in
    omega arith

log_commits : (log : Logged) (n : ℕ) (d : Disk) (t j id set : ℕ)
    → commits_from id (log_emitted n d t j log) set ≡ commits n id (changes_of log) set
log_commits [] n d t j id set = refl
log_commits (o ∷ log) n d t j id set =
    let k : ℕ = length (touched_blocks n o.1) in
    let xs : List Emitted = journal_patches (with_changes d o.1) t j o.0 (touched_blocks n o.1) o.1 in
    let ys : List Emitted = log_emitted n (with_changes d o.1) (t + 1) (j + 1 + k) log in
    let parts = parts_of (with_changes d o.1) t j o.0 (touched_blocks n o.1) o.1 in
    let long : length xs ≡ k + 1 + length o.1 + 1 = parts.long in
    let split = commits-append id xs ys set in
    let one : commits_from id xs set ≡ cond (has set (id + k)) 1 0 =
    turn_commits (with_changes d o.1) t j o.0 (touched_blocks n o.1) o.1 id set in
    let at : id + length xs ≡ id + k + 1 + length o.1 + 1 = omega arith in
    let rest : commits_from (id + length xs) ys set ≡ commits n (id + k + 1 + length o.1 + 1) (changes_of log) set =
    ap (λ (m : ℕ). commits_from m ys set) at ∙ log_commits log n (with_changes d o.1) (t + 1) (j + 1 + k)
    (id + k + 1 + length o.1 + 1) set in
    count (has set (id + k)) (commits_from id xs set) (commits_from (id + length xs) ys set) _ _ split one rest
  where
    count : (b : Bool) (x y all rest : ℕ) → all ≡ x + y → x ≡ cond b 1 0 → y ≡ rest → all ≡ cond b (suc rest) rest
    count true x y all rest a e f = omega arith
    count false x y all rest a e f = omega arith

-- ---- the operations after the log

plans_after : (k : ℕ) (ops : List Op) (plans : List (List Change)) (d : Disk) → ArePlans d ops plans
    → with_all_changes d (take k plans) ≡ after_ops d (take k ops)
plans_after zero ops plans d are = refl
plans_after (suc k) [] [] d are = refl
plans_after (suc k) [] (cs ∷ plans) d are = absurd are
plans_after (suc k) (op ∷ ops) [] d are = absurd are
plans_after (suc k) (op ∷ ops) (cs ∷ plans) d are =
    plans_after k ops plans (with_changes d cs) are.1
    ∙ ap (λ (r : Result (List Change) FsFault). after_ops (with_plan d r) (take k ops)) (sym are.0)

good_after : (k n jl : ℕ) (ops : List Op) (plans : List (List Change)) (d : Disk) → IsGood n jl d → All GivesName ops
    → ArePlans d ops plans → IsGood n jl (with_all_changes d (take k plans))
good_after zero n jl ops plans d good names are = good
good_after (suc k) n jl [] [] d good names are = good
good_after (suc k) n jl [] (cs ∷ plans) d good names are = absurd are
good_after (suc k) n jl (op ∷ ops) [] d good names are = absurd are
good_after (suc k) n jl (op ∷ ops) (cs ∷ plans) d good names are =
    good_after k n jl ops plans (with_changes d cs) (plan-good n jl d op cs good (All-head GivesName op ops names)
    are.0) (All-tail GivesName op ops names) are.1

-- ---- the whole

module _ (rules : List Rule) (whole : Bool) (base : Disk) (steps : List Step) (s : Tracing) (patches : List Patch)
    (set : ℕ) (disk : IsDisk base) (sound : IsSound base) (zeros : HasZeroJournal base)
    (names : All GivesName (ops_of steps)) (is_traced : trace_from Full (trace_start whole base) steps ≡ Ok s)
    (among : AreAmong journal_rules rules) (graph : IsGraphOf rules base s patches)
    (closed : IsClosed (deps_of patches) set) where
  abbrev n : ℕ
  n = base.blocks

  abbrev jl : ℕ
  jl = base.journal

  good : IsGood n jl base
  good = record { blocks = refl; journal = refl; disk = disk; sound = sound }

  shaped : IsShaped n jl base
  shaped = record { blocks = refl; journal = refl; long = disk.whole }

  logged : IsLogged n jl (ops_of steps) (trace_start whole base) s
  logged = traced_logged n jl steps (trace_start whole base) s good names is_traced

  log_closed : IsLogClosed n 0 true true (changes_of logged.changes) set
  log_closed =
      closed_log logged.changes n s.emitted s.whole s.links set base 0 1 4 true true
      (closed_in rules base s patches set among graph closed)
      (λ i y h. ap (λ (xs : List Emitted). slice_get xs (0 + i)) logged.emits
      ∙ ap (λ (m : ℕ). slice_get (log_emitted n base 1 4 logged.changes) m) (omega arith) ∙ h)
      (λ q x from at is held. refl) (λ q x from at is held. refl)

  abbrev image : Disk
  image = image_from 0 base (log_places n base 1 4 (changes_of logged.changes)) set

  room : 4 + jl ≤ n
  room = omega (arith, disk.room)

  image_is : image_of base patches set ≡ image
  image_is = ap (λ (ps : List Place). image_from 0 base ps set)
      (graph.places ∙ ap (λ (xs : List Emitted). map (λ (e : Emitted). e.place) xs) logged.emits
      ∙ map-log n base 1 4 logged.changes)

  image_shaped : IsShaped n jl image
  image_shaped = shaped-image n jl 0 base (log_places n base 1 4 (changes_of logged.changes)) set shaped
      (placed-log n jl base 1 4 (changes_of logged.changes) shaped room (omega arith) logged.log)

  abbrev k : ℕ
  k = commits_from 0 s.emitted set

  abbrev left : Disk
  left = with_all_changes base (take k (changes_of logged.changes))

  commits_are : commits n 0 (changes_of logged.changes) set ≡ k
  commits_are = sym (ap (λ (xs : List Emitted). commits_from 0 xs set) logged.emits
      ∙ log_commits logged.changes n base 1 4 0 set)

  left_is : committed_disk n base 0 (changes_of logged.changes) set ≡ left
  left_is = first_operations (changes_of logged.changes) n 0 base true true set log_closed
      ∙ ap (λ (m : ℕ). with_all_changes base (take m (changes_of logged.changes))) commits_are

  first_zeros : (x : ℕ) → 4 ≤ x → x < 4 + jl → slice_index (block_of base x) 0 ≡ 0
  first_zeros x from to = block-at base x 0 (omega arith) ∙ zeros x from to 0 (omega arith)

  blocks_are : (b : ℕ) → b < n → IsOutside jl b → block_of (image_after_replay image) b ≡ block_of left b
  blocks_are b less out =
      replayed_at n jl image b image_shaped room less
      ∙ log_safe (changes_of logged.changes) n jl base set b shaped room logged.log log_closed first_zeros out less
      ∙ ap (λ (d : Disk). block_of d b) left_is

  left_good : IsGood n jl left
  left_good = good_after k n jl (ops_of steps) (changes_of logged.changes) base good names logged.plans

  image_sound : IsSound (image_after_replay image)
  image_sound = sound-outside left (image_after_replay image) left_good.disk left_good.sound
      (image_shaped.blocks ∙ sym left_good.blocks) (image_shaped.journal ∙ sym left_good.journal)
      (image-generations 0 base (log_places n base 1 4 (changes_of logged.changes)) set
      ∙ sym (all_changes-generations base (take k (changes_of logged.changes))))
      (replayed_long n jl image image_shaped room ∙ ap (λ (m : ℕ). 128 * m) (sym left_good.blocks)
      ∙ sym left_good.disk.whole)
      (λ b less out. blocks_are b (subst (λ (m : ℕ). b < m) left_good.blocks less)
      (subst (λ (m : ℕ). IsOutside m b) left_good.journal out))

  pub recovered : IsRecovered base steps s patches set
  recovered = record {
    same = λ b less out. ap (λ (d : Disk). block_of (image_after_replay d) b) image_is ∙ blocks_are b less out
        ∙ ap (λ (d : Disk). block_of d b) (plans_after k (ops_of steps) (changes_of logged.changes) base logged.plans);
    shown = ap (λ (d : Disk). shows (image_after_replay d) (after_ops base (take k (ops_of steps)))) image_is
        ∙ (ap (λ (d : Disk). shows (image_after_replay image) d)
        (sym (plans_after k (ops_of steps) (changes_of logged.changes) base logged.plans))
        ∙ sound_shows (image_after_replay image) left left_good.disk left_good.sound
        (λ b less out. blocks_are b (subst (λ (m : ℕ). b < m) left_good.blocks less)
        (subst (λ (m : ℕ). IsOutside m b) left_good.journal out)));
    sound = subst (λ (d : Disk). IsSound (image_after_replay d)) (sym image_is) image_sound;
  }
