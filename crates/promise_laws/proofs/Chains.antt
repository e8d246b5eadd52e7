-- The commits of a closed set are the first ones.
use Rattle.std.proofs.Common.{◌≡◌, ℕ, suc, ◌+◌, ◌<◌, ◌≤◌, inl, inr, List, [], ◌∷◌, ◌++◌, length, map, Bool, true, Some}
use Rattle.std.proofs.Common.{arith, tests, refl, sym, ◌∙◌, ap, subst}
use Rattle.std.specs.Prelude.{slice_get, ◌==◌}
use Rattle.std.proofs.lemmas.Bool.{cases_Bool, cases_order}
use Rattle.patch_sets.specs.Sets.{has}
use Rattle.crash_model.specs.Disk.{Disk}
use Rattle.crash_model.specs.Plan.{with_changes}
use Rattle.crash_model.specs.Trace.{Emitted, Origin, part_of, in_place_patch, copies, journal_patches, touched_blocks}
use Rattle.crash_model.specs.declared.plans.Change.{Change}
use Rattle.crash_model.specs.declared.rules.Part.TheVariants.{Commit, Done}
use Rattle.full_journal_laws.specs.Full.{commits_from}
use Rattle.full_journal_laws.proofs.Closed.{get-left, get-right, HasParts, parts_of, by_row, length-copy}
use Rattle.full_journal_laws.proofs.Logs.{log_emitted, IsClosedIn}
use Rattle.full_journal_laws.proofs.Traces.{Logged}
use Rattle.promise_laws.proofs.Commits.{one_if, commits_of, commits_of-append, commits_few, commits_from-append}
use Rattle.promise_laws.proofs.Commits.{no_copies, no_changes}

same_test : (t : ℕ) → (t == t) ≡ true
same_test t = grind (arith, tests)

-- of a transaction a set has the one commit, or none
pub turn_commits : (after : Disk) (t j : ℕ) (g : Origin) (targets : List ℕ) (cs : List Change) (id set : ℕ)
    → commits_from id (journal_patches after t j g targets cs) set ≡ one_if (has set (id + length targets))
turn_commits after t j g targets cs id set =
    let first : List Emitted = copies after t (j + 1) g targets in
    let commit : Emitted = part_of t g Commit j 0 (0xC7 ∷ t ∷ length targets ∷ targets) in
    let done : Emitted = part_of t g Done j 0 (0xC8 ∷ []) in
    let plain : List Emitted = map (in_place_patch t g) cs in
    let rest : List Emitted = plain ++ (done ∷ []) in
    let whole = commits_from-append id first (commit ∷ rest) set in
    let long : length first ≡ length targets = length-copy after t (j + 1) g targets in
    let none_first : commits_from id first set ≤ commits_of first = commits_few id first set in
    let no_first : commits_of first ≡ 0 = no_copies after t (j + 1) g targets in
    let none_last : commits_from (id + length first + 1) rest set ≤ commits_of rest =
    commits_few (id + length first + 1) rest set in
    let last : commits_of rest ≡ commits_of plain + commits_of (done ∷ []) = commits_of-append plain (done ∷ []) in
    let no_last : commits_of plain ≡ 0 = no_changes t g cs in
    let at : one_if (has set (id + length first)) ≡ one_if (has set (id + length targets)) =
    ap (λ (m : ℕ). one_if (has set (id + m))) long in
    omega arith

module _ (n : ℕ) (all : List Emitted) (whole : Bool) (links : List (List ℕ × List ℕ)) (set : ℕ)
    (closed : IsClosedIn whole links all set) where
  -- the patches of a log are among all, from an id on
  abbrev pub Lies : List Emitted → ℕ → Type 0
  Lies log id = (i : ℕ) (y : Emitted) → slice_get log i ≡ Some y → slice_get all (id + i) ≡ Some y

  abbrev transaction_of : Disk → ℕ → ℕ → Origin × List Change → List Emitted
  transaction_of d t j o = journal_patches (with_changes d o.1) t j o.0 (touched_blocks n o.1) o.1

  abbrev rest_of : Disk → ℕ → ℕ → Origin × List Change → Logged → List Emitted
  rest_of d t j o log = log_emitted n (with_changes d o.1) (t + 1) (j + 1 + length (touched_blocks n o.1)) log

  parts : (d : Disk) (t j : ℕ) (o : Origin × List Change)
      → HasParts t j (touched_blocks n o.1) (length o.1) (transaction_of d t j o)
  parts d t j o = parts_of (with_changes d o.1) t j o.0 (touched_blocks n o.1) o.1

  rest_lies : (d : Disk) (t j id : ℕ) (o : Origin × List Change) (log : Logged)
      → Lies (log_emitted n d t j (o ∷ log)) id → Lies (rest_of d t j o log) (id + length (transaction_of d t j o))
  rest_lies d t j id o log lies i y at =
      ap (λ (m : ℕ). slice_get all m) (plus id (length (transaction_of d t j o)) i)
      ∙ lies (length (transaction_of d t j o) + i) y
      (get-right (transaction_of d t j o) (rest_of d t j o log) i (length (transaction_of d t j o) + i) refl ∙ at)
    where
      plus : (a b c : ℕ) → a + b + c ≡ a + (b + c)
      plus a b c = omega arith

  commit_lies : (d : Disk) (t j id : ℕ) (o : Origin × List Change) (log : Logged)
      → Lies (log_emitted n d t j (o ∷ log)) id
      → slice_get all (id + length (touched_blocks n o.1)) ≡ Some (parts d t j o).commit
  commit_lies d t j id o log lies = lies (length (touched_blocks n o.1)) (parts d t j o).commit
      (get-left (transaction_of d t j o) (rest_of d t j o log) (length (touched_blocks n o.1)) (parts d t j o).commit
      (parts d t j o).commit_at)

  split_commits : (d : Disk) (t j id : ℕ) (o : Origin × List Change) (log : Logged)
      → commits_from id (log_emitted n d t j (o ∷ log)) set
      ≡ one_if (has set (id + length (touched_blocks n o.1)))
      + commits_from (id + length (transaction_of d t j o)) (rest_of d t j o log) set
  split_commits d t j id o log =
      commits_from-append id (transaction_of d t j o) (rest_of d t j o log) set
      ∙ ap (λ (m : ℕ). m + commits_from (id + length (transaction_of d t j o)) (rest_of d t j o log) set)
      (turn_commits (with_changes d o.1) t j o.0 (touched_blocks n o.1) o.1 id set)

  -- a set that has a commit of the next transaction has that of this one
  before_it : (d : Disk) (t j id : ℕ) (o p : Origin × List Change) (log : Logged)
      → Lies (log_emitted n d t j (o ∷ p ∷ log)) id
      → has set (id + length (transaction_of d t j o) + length (touched_blocks n p.1)) ≡ true
      → has set (id + length (touched_blocks n o.1)) ≡ true
  before_it d t j id o p log lies held =
      let d' : Disk = with_changes d o.1 in
      let j' : ℕ = j + 1 + length (touched_blocks n o.1) in
      let one = parts d t j o in
      let two = parts d' (t + 1) j' p in
      let long : length (transaction_of d t j o) ≡ length (touched_blocks n o.1) + 1 + length o.1 + 1 = one.long in
      closed (id + length (transaction_of d t j o) + length (touched_blocks n p.1)) (id + length (touched_blocks n o.1))
      two.commit one.commit
      (commit_lies d' (t + 1) j' (id + length (transaction_of d t j o)) p log (rest_lies d t j id o (p ∷ log) lies))
      (commit_lies d t j id o (p ∷ log) lies) (omega arith)
      (by_row whole links two.commit (id + length (touched_blocks n o.1)) one.commit Commit Commit (t + 1) t
      two.commit_is one.commit_is (rw (same_test (t + 1)) refl)) held

  -- so a set that has a commit of a log has the first one
  pub first_held : (o : Origin × List Change) (log : Logged) (d : Disk) (t j id : ℕ)
      → Lies (log_emitted n d t j (o ∷ log)) id → 1 ≤ commits_from id (log_emitted n d t j (o ∷ log)) set
      → has set (id + length (touched_blocks n o.1)) ≡ true
  first_held o [] d t j id lies some = elim (cases_Bool (has set (id + length (touched_blocks n o.1)))) [
    | inl held ↦ held
    | inr without ↦
        let split = split_commits d t j id o [] in
        let none : one_if (has set (id + length (touched_blocks n o.1))) ≡ 0 = ap one_if without in
        absurd (omega arith)
  ]
  first_held o (p ∷ log) d t j id lies some = elim (cases_Bool (has set (id + length (touched_blocks n o.1)))) [
    | inl held ↦ held
    | inr without ↦
        let split = split_commits d t j id o (p ∷ log) in
        let none : one_if (has set (id + length (touched_blocks n o.1))) ≡ 0 = ap one_if without in
        before_it d t j id o p log lies
        (first_held p log (with_changes d o.1) (t + 1) (j + 1 + length (touched_blocks n o.1))
        (id + length (transaction_of d t j o)) (rest_lies d t j id o (p ∷ log) lies) (omega arith))
  ]

  -- the set has the commits of an operation
  abbrev pub HasTurn : List Emitted → ℕ → ℕ → Type 0
  HasTurn log id last = (i : ℕ) (y : Emitted) → slice_get log i ≡ Some y → y.part ≡ Commit → y.op_number ≡ last
      → has set (id + i) ≡ true

  this_turn : (o : Origin × List Change) (log : Logged) (d : Disk) (t j id : ℕ)
      → HasTurn (log_emitted n d t j (o ∷ log)) id t
      → t + 1 ≤ t + commits_from id (log_emitted n d t j (o ∷ log)) set
  this_turn o log d t j id forced =
      let one = parts d t j o in
      let held : has set (id + length (touched_blocks n o.1)) ≡ true =
      forced (length (touched_blocks n o.1)) one.commit
      (get-left (transaction_of d t j o) (rest_of d t j o log) (length (touched_blocks n o.1)) one.commit one.commit_at)
      one.commit_is.part one.commit_is.op_number in
      let split = split_commits d t j id o log in
      let there : one_if (has set (id + length (touched_blocks n o.1))) ≡ 1 = ap one_if held in
      omega arith

  rest_forced : (d : Disk) (t j id last : ℕ) (o : Origin × List Change) (log : Logged)
      → HasTurn (log_emitted n d t j (o ∷ log)) id last
      → HasTurn (rest_of d t j o log) (id + length (transaction_of d t j o)) last
  rest_forced d t j id last o log forced i y at part turn =
      subst (λ (m : ℕ). has set m ≡ true) (plus id (length (transaction_of d t j o)) i)
      (forced (length (transaction_of d t j o) + i) y
      (get-right (transaction_of d t j o) (rest_of d t j o log) i (length (transaction_of d t j o) + i) refl
      ∙ at) part turn)
    where
      plus : (a b c : ℕ) → a + (b + c) ≡ a + b + c
      plus a b c = omega arith

  -- a set that has the commit of an operation has those of all before it
  pub reaches : (o : Origin × List Change) (log : Logged) (d : Disk) (t j id last : ℕ)
      → Lies (log_emitted n d t j (o ∷ log)) id → HasTurn (log_emitted n d t j (o ∷ log)) id last
      → t ≤ last → last < t + suc (length log)
      → last + 1 ≤ t + commits_from id (log_emitted n d t j (o ∷ log)) set
  reaches o [] d t j id last lies forced from to =
      let same : last ≡ t = omega arith in
      subst (λ (m : ℕ). m + 1 ≤ t + commits_from id (log_emitted n d t j (o ∷ [])) set) (sym same)
      (this_turn o [] d t j id (subst (HasTurn (log_emitted n d t j (o ∷ [])) id) same forced))
  reaches o (p ∷ log) d t j id last lies forced from to = elim (cases_order t last) [
    | inl here ↦ subst (λ (m : ℕ). m + 1 ≤ t + commits_from id (log_emitted n d t j (o ∷ p ∷ log)) set) here
        (this_turn o (p ∷ log) d t j id (subst (HasTurn (log_emitted n d t j (o ∷ p ∷ log)) id) (sym here) forced))
    | inr apart ↦ elim apart [
      | inr before ↦ absurd (omega arith)
      | inl behind ↦
          let split = split_commits d t j id o (p ∷ log) in
          let rest = reaches p log (with_changes d o.1) (t + 1) (j + 1 + length (touched_blocks n o.1))
          (id + length (transaction_of d t j o)) last (rest_lies d t j id o (p ∷ log) lies)
          (rest_forced d t j id last o (p ∷ log) forced) (omega arith) (omega arith) in
          let there : one_if (has set (id + length (touched_blocks n o.1))) ≡ 1 =
          ap one_if (first_held o (p ∷ log) d t j id lies (omega arith)) in
          omega arith
    ]
  ]
