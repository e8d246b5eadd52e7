-- A line `keep` allows a set what its paths show after some of the later operations, if the set has as many commits.
use Rattle.std.proofs.Common.{◌≡◌, ℕ, zero, suc, ◌+◌, ◌^◌, ◌<◌, ◌≤◌, inl, inr, List, [], ◌∷◌, ◌++◌, length, take, Bool}
use Rattle.std.proofs.Common.{true, false, ◌&&◌, ◌||◌, Option, None, Result, Ok, Err, arith, tests, refl, sym, ◌∙◌, ap}
use Rattle.std.proofs.Common.{subst}
use Rattle.std.specs.Prelude.{nat_le, is_some, if◌then◌else◌}
use Rattle.std.specs.List.{list_any, list_all}
use Rattle.std.proofs.lemmas.Bool.{and_parts, or_parts, cases_lt}
use Rattle.std.proofs.lemmas.List.Folds.{list_any-append, list_all-append}
use Rattle.std.proofs.lemmas.Slice.Eq.{bytes_eq-Decides}
use Rattle.patch_sets.specs.Sets.{Has}
use Rattle.patch_sets.proofs.Bits.{below_from_small}
use Rattle.patch_sets.proofs.Ids.{from_has}
use Rattle.crash_model.specs.Disk.{Disk}
use Rattle.crash_model.specs.Paths.{is_same_slot, are_same_slots, is_same_shown, are_same_shown}
use Rattle.crash_model.specs.Promises.{paths_show, allowance, is_allowed, with_allowance, with_rests, rests_of}
use Rattle.crash_model.specs.Promises.{places_from}
use Rattle.crash_model.specs.Trace.{Emitted, trace_from, step}
use Rattle.crash_model.specs.Tracing.{Tracing}
use Rattle.crash_model.specs.declared.modules.Module.TheVariants.{Full}
use Rattle.crash_model.specs.declared.names.Path.{Path}
use Rattle.crash_model.specs.declared.operations.Op.{Op}
use Rattle.crash_model.specs.declared.promises.Allowance.{Allowance}
use Rattle.crash_model.specs.declared.refusals.TraceFault.{TraceFault}
use Rattle.crash_model.specs.declared.showing.Shown.{Shown}
use Rattle.crash_model.specs.declared.showing.Shown.TheVariants.{Nothing, Directory, File}
use Rattle.crash_model.specs.declared.showing.ShownSlot.{ShownSlot}
use Rattle.crash_model.specs.declared.showing.ShownSlot.TheVariants.{Hole, Wild, Begins}
use Rattle.crash_model.specs.declared.steps.Act.{Act}
use Rattle.crash_model.specs.declared.steps.Act.TheVariants.{Do}
use Rattle.crash_model.specs.declared.steps.Step.{Step}
use Rattle.full_journal_laws.specs.Full.{ops_at, ops_of, after_ops, commits_from}
use Rattle.promise_laws.specs.Waited.{is_of_groups, HasNoGroups}
use Rattle.promise_laws.proofs.Commits.{some_commit, commits_of, commits_few, commits_from-append}
use Rattle.promise_laws.proofs.Steps.{first_step, IsStep, stepped, walked}

-- ---- the same is shown

same_slot : (x : ShownSlot) → is_same_slot x x ≡ true
same_slot Hole = refl
same_slot Wild = refl
same_slot (Begins bytes) = (bytes_eq-Decides bytes bytes).1 refl

same_slots : (xs : List ShownSlot) → are_same_slots xs xs ≡ true
same_slots [] = refl
same_slots (x ∷ xs) = rw (same_slot x, same_slots xs) refl

pub same_shown : (x : Shown) → is_same_shown x x ≡ true
same_shown Nothing = refl
same_shown Directory = refl
same_shown (File slots) = same_slots slots

pub same_shows : (xs : List Shown) → are_same_shown xs xs ≡ true
same_shows [] = refl
same_shows (x ∷ xs) = rw (same_shown x, same_shows xs) refl

-- ---- what is allowed

module _ (set : ℕ) where
  -- the set is at least what each of them needs
  abbrev pub AreReached : List Allowance → Type 0
  AreReached allowed = list_all (λ a. nat_le a.least set) allowed ≡ true

  one_allowed : (b c : Bool) → b ≡ true → c ≡ true → (b && c) ≡ true
  one_allowed b c p q = rw (p, q) refl

  -- what one of them shows is allowed
  among : (allowed : List Allowance) (shows : List Shown) → AreReached allowed
      → list_any (λ a. are_same_shown a.shows.items shows) allowed ≡ true → is_allowed allowed set shows ≡ true
  among [] shows reached there = there
  among (a ∷ others) shows reached there =
      let parts = and_parts (nat_le a.least set) (list_all (λ x. nat_le x.least set) others) reached in
      by (are_same_shown a.shows.items shows) refl parts.0 (λ there. among others shows parts.1 there) there
    where
      by : (b : Bool) → are_same_shown a.shows.items shows ≡ b → nat_le a.least set ≡ true
          → (list_any (λ x. are_same_shown x.shows.items shows) others ≡ true → is_allowed others set shows ≡ true)
          → (b || list_any (λ x. are_same_shown x.shows.items shows) others) ≡ true
          → is_allowed (a ∷ others) set shows ≡ true
      by true is least rest there = rw (least, is) refl
      by false is least rest there = later (nat_le a.least set && are_same_shown a.shows.items shows)
          (is_allowed others set shows) (rest there)
        where
          later : (b c : Bool) → c ≡ true → (b || c) ≡ true
          later true c e = refl
          later false c e = e

  last_allowed : (allowed : List Allowance) (least : ℕ) (shows : List Shown) → nat_le least set ≡ true
      → is_allowed (allowed ++ allowance least shows ∷ []) set shows ≡ true
  last_allowed allowed least shows enough =
      list_any-append (λ (a : Allowance). nat_le a.least set && are_same_shown a.shows.items shows) allowed
      (allowance least shows ∷ [])
      ∙ last (is_allowed allowed set shows) (nat_le least set && are_same_shown shows shows)
      (one_allowed (nat_le least set) (are_same_shown shows shows) enough (same_shows shows))
    where
      last : (b c : Bool) → c ≡ true → (b || (c || false)) ≡ true
      last true c e = refl
      last false c e = rw e refl

  new_allowed : (allowed : List Allowance) (least : ℕ) (shows : List Shown) → AreReached allowed
      → nat_le least set ≡ true → is_allowed (with_allowance allowed least shows) set shows ≡ true
  new_allowed allowed least shows reached enough =
      by (list_any (λ a. are_same_shown a.shows.items shows) allowed) refl
    where
      by : (b : Bool) → list_any (λ a. are_same_shown a.shows.items shows) allowed ≡ b
          → is_allowed (if b then allowed else allowed ++ allowance least shows ∷ []) set shows ≡ true
      by true is = among allowed shows reached is
      by false is = last_allowed allowed least shows enough

  new_reached : (allowed : List Allowance) (least : ℕ) (shows : List Shown) → AreReached allowed
      → nat_le least set ≡ true → AreReached (with_allowance allowed least shows)
  new_reached allowed least shows reached enough = by (list_any (λ a. are_same_shown a.shows.items shows) allowed)
    where
      by : (b : Bool) → AreReached (if b then allowed else allowed ++ allowance least shows ∷ [])
      by true = reached
      by false = list_all-append (λ (a : Allowance). nat_le a.least set) allowed (allowance least shows ∷ [])
          ∙ both (list_all (λ a. nat_le a.least set) allowed) (nat_le least set) reached enough
        where
          both : (b c : Bool) → b ≡ true → c ≡ true → (b && (c && true)) ≡ true
          both b c p q = rw (p, q) refl

  -- what is allowed stays so
  still_allowed : (allowed : List Allowance) (least : ℕ) (shows other : List Shown)
      → is_allowed allowed set other ≡ true → is_allowed (with_allowance allowed least shows) set other ≡ true
  still_allowed allowed least shows other is = by (list_any (λ a. are_same_shown a.shows.items shows) allowed)
    where
      by : (b : Bool) → is_allowed (if b then allowed else allowed ++ allowance least shows ∷ []) set other ≡ true
      by true = is
      by false =
          list_any-append (λ (a : Allowance). nat_le a.least set && are_same_shown a.shows.items other) allowed
          (allowance least shows ∷ [])
          ∙ rw is refl

  pub stays_allowed : (rests : List Tracing) (allowed : List Allowance) (least : ℕ) (paths : List Path)
      (other : List Shown) → is_allowed allowed set other ≡ true
      → is_allowed (with_rests allowed least paths rests) set other ≡ true
  stays_allowed [] allowed least paths other is = is
  stays_allowed (rest ∷ rests) allowed least paths other is =
      stays_allowed rests (with_allowance allowed least (paths_show rest.disk paths)) (2 ^ length rest.emitted) paths
      other (still_allowed allowed least (paths_show rest.disk paths) other is)

  -- a set that has a patch behind the first n
  enough : (n id : ℕ) → n ≤ id → Has set id → nat_le (2 ^ n) set ≡ true
  enough n id below held = elim (cases_lt set (2 ^ n)) [
    | inl small ↦ absurd (let z : id < n = below_from_small set n id small held in omega arith)
    | inr large ↦ at_least (2 ^ n) set large
  ]
    where
      at_least : (a b : ℕ) → a ≤ b → nat_le a b ≡ true
      at_least a b h = grind (arith, tests)

  -- ---- each place is a rest where no group is open

  places_ok : (s : Tracing) (x : Step) (xs : List Step) (next : Tracing) → step Full s x.line x.act ≡ Ok next
      → places_from Full s (x ∷ xs) ≡ s ∷ places_from Full next xs
  places_ok s x xs next is = ap (λ (r : Result Tracing TraceFault). elim r [
    | Ok after ↦ s ∷ places_from Full after xs
    | Err _ ↦ s ∷ []
  ]) is

  first_place : (s : Tracing) (xs : List Step) → (more : List Tracing) × (places_from Full s xs ≡ s ∷ more)
  first_place s [] = ([], refl)
  first_place s (x ∷ xs) = by (step Full s x.line x.act) refl
    where
      by : (r : Result Tracing TraceFault) → step Full s x.line x.act ≡ r
          → (more : List Tracing) × (places_from Full s (x ∷ xs) ≡ s ∷ more)
      by (Ok next) is = (places_from Full next xs, places_ok s x xs next is)
      by (Err e) is = (
        [],
        ap (λ (r : Result Tracing TraceFault). elim r [
          | Ok after ↦ s ∷ places_from Full after xs
          | Err _ ↦ s ∷ []
        ]) is,
      )

  rests_ok : (s next : Tracing) (xs : List Step) → s.current ≡ None
      → rests_of (s ∷ places_from Full next xs) ≡ s ∷ rests_of (places_from Full next xs)
  rests_ok s next xs none =
      let first = first_place next xs in
      ap (λ (ss : List Tracing). rests_of (s ∷ ss)) first.1
      ∙ (ap (λ (o : Option (List ℕ)).
      if is_some o then rests_of (next ∷ first.0) else s ∷ rests_of (next ∷ first.0)) none
      ∙ ap (λ (ss : List Tracing). s ∷ rests_of ss) (sym first.1))

  pub take_none : (k : ℕ) → ◌≡◌ {A = List Op} (take k []) []
  take_none zero = refl
  take_none (suc k) = refl

  -- ---- what is shown after k of the operations behind a place

  pub at_most_one : (act : Act) → length (ops_at act) ≤ 1
  at_most_one (Do op) = omega arith
  at_most_one act = omega arith

  -- the first of some operations is in the step, or none is
  pub behind : (d e : Disk) (ops rest : List Op) (k : ℕ) → length ops ≤ 1 → e ≡ after_ops d ops → (m : ℕ)
      × (m + length ops ≡ suc k) × (after_ops e (take m rest) ≡ after_ops d (take (suc k) (ops ++ rest)))
  behind d e [] rest k few is = (suc k, omega arith, ap (λ (x : Disk). after_ops x (take (suc k) rest)) is)
  behind d e (op ∷ []) rest k few is = (k, omega arith, ap (λ (x : Disk). after_ops x (take k rest)) is)
  behind d e (op ∷ other ∷ ops) rest k few is = absurd (omega arith)

  module _ (paths : List Path) where
    abbrev IsShownAllowed : List Step → Tracing → Type 0
    IsShownAllowed xs r = (s : Tracing) (allowed : List Allowance) (least k : ℕ)
        → trace_from Full s xs ≡ Ok r → HasNoGroups xs → s.current ≡ None → AreReached allowed
        → nat_le least set ≡ true → k + commits_from 0 s.emitted set ≤ commits_from 0 r.emitted set
        → is_allowed (with_rests allowed least paths (rests_of (places_from Full s xs))) set
        (paths_show (after_ops s.disk (take k (ops_of xs))) paths) ≡ true

    -- a commit behind the patches so far makes the set as large
    as_large : (s r : Tracing) (more : List Emitted) (k : ℕ) → r.emitted ≡ s.emitted ++ more
        → suc k + commits_from 0 s.emitted set ≤ commits_from 0 r.emitted set
        → nat_le (2 ^ length s.emitted) set ≡ true
    as_large s r more k emits few =
        let count : commits_from 0 r.emitted set ≡ commits_from 0 s.emitted set
        + commits_from (0 + length s.emitted) more set =
        ap (λ (es : List Emitted). commits_from 0 es set) emits ∙ commits_from-append 0 s.emitted more set in
        let commit = some_commit (0 + length s.emitted) more set (omega arith) in
        enough (length s.emitted) (0 + length s.emitted + commit.place) (omega arith)
        (from_has set (0 + length s.emitted + commit.place) commit.held)

    -- as many commits as operations, at most
    pub fewer : (s next r : Tracing) (act : Act) (k m : ℕ) (is : IsStep act s next) → m + length (ops_at act) ≡ suc k
        → suc k + commits_from 0 s.emitted set ≤ commits_from 0 r.emitted set
        → m + commits_from 0 next.emitted set ≤ commits_from 0 r.emitted set
    fewer s next r act k m is whole few =
        let count : commits_from 0 next.emitted set ≡ commits_from 0 s.emitted set
        + commits_from (0 + length s.emitted) is.more set =
        ap (λ (es : List Emitted). commits_from 0 es set) is.emits ∙ commits_from-append 0 s.emitted is.more set in
        let most : commits_from (0 + length s.emitted) is.more set ≤ commits_of is.more =
        commits_few (0 + length s.emitted) is.more set in
        let ops : commits_of is.more ≡ length (ops_at act) = is.counted in
        omega arith

    after_step : (x : Step) (xs : List Step) (r s next : Tracing) (allowed : List Allowance) (least k : ℕ)
        → IsShownAllowed xs r → trace_from Full s (x ∷ xs) ≡ Ok r → IsStep x.act s next
        → trace_from Full next xs ≡ Ok r → HasNoGroups (x ∷ xs) → s.current ≡ None → AreReached allowed
        → nat_le least set ≡ true → k + commits_from 0 s.emitted set ≤ commits_from 0 r.emitted set
        → is_allowed (with_rests (with_allowance allowed least (paths_show s.disk paths)) (2 ^ length s.emitted) paths
        (rests_of (places_from Full next xs))) set
        (paths_show (after_ops s.disk (take k (ops_at x.act ++ ops_of xs))) paths) ≡ true
    after_step x xs r s next allowed least zero rest h is after none closed reached from few =
        stays_allowed (rests_of (places_from Full next xs)) (with_allowance allowed least (paths_show s.disk paths))
        (2 ^ length s.emitted) paths (paths_show s.disk paths)
        (new_allowed allowed least (paths_show s.disk paths) reached from)
    after_step x xs r s next allowed least (suc k) rest h is after none closed reached from few =
        let here : List Allowance = with_allowance allowed least (paths_show s.disk paths) in
        let both = or_parts (is_of_groups x.act) (list_any (λ y. is_of_groups y.act) xs) none in
        let more = behind s.disk next.disk (ops_at x.act) (ops_of xs) k (at_most_one x.act) is.disk in
        let whole = walked (x ∷ xs) s r h in
        subst (λ (d : Disk). is_allowed (with_rests here (2 ^ length s.emitted) paths
        (rests_of (places_from Full next xs))) set (paths_show d paths) ≡ true) more.2
        (rest next here (2 ^ length s.emitted) more.0 after both.1 (is.current both.0 ∙ closed)
        (new_reached allowed least (paths_show s.disk paths) reached from) (as_large s r whole.more k whole.emits few)
        (fewer s next r x.act k more.0 is more.1 few))

    pub shown_allowed : (xs : List Step) (r : Tracing) → IsShownAllowed xs r
    shown_allowed [] r s allowed least k h none closed reached from few =
        subst (λ (ops : List Op). is_allowed (with_allowance allowed least (paths_show s.disk paths)) set
        (paths_show (after_ops s.disk ops) paths) ≡ true) (sym (take_none k))
        (new_allowed allowed least (paths_show s.disk paths) reached from)
    shown_allowed (x ∷ xs) r s allowed least k h none closed reached from few =
        let one = first_step s x xs r h in
        let next : Tracing = one.0 in
        subst (λ (ss : List Tracing). is_allowed (with_rests allowed least paths ss) set
        (paths_show (after_ops s.disk (take k (ops_at x.act ++ ops_of xs))) paths) ≡ true)
        (sym (ap rests_of (places_ok s x xs next one.1) ∙ rests_ok s next xs closed))
        (after_step x xs r s next allowed least k (shown_allowed xs r) h (stepped x.line x.act s next one.1) one.2 none
        closed reached from few)
