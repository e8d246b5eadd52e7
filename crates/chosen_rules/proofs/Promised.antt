-- The faults of a set, where of the lines that wait only some do.
use Rattle.std.proofs.Common.{◌≡◌, ℕ, ◌+◌, ◌<◌, List, [], ◌∷◌, ◌++◌, map, Bool, true, false, Option, Some, None, arith}
use Rattle.std.proofs.Common.{refl, sym, ap, subst, ◌∙◌, inl, inr, ◌&&◌, not, length, cond}
use Rattle.std.specs.Prelude.{filter, option_map, ◌==◌, if◌then◌else◌}
use Rattle.std.specs.List.{All, Contains}
use Rattle.std.proofs.lemmas.Bool.{and_parts, or_left, or_right}
use Rattle.std.proofs.lemmas.List.Elements.{All-append, All-contains, All-cons, All-nil}
use Rattle.std.proofs.lemmas.List.Elements.{Contains-append_left, Contains-append_right, Contains-append_cases}
use Rattle.patch_sets.specs.Sets.{has, IsSubset}
use Rattle.patch_sets.proofs.Bits.{subset_from_and, and_from_subset}
use Rattle.patch_sets.proofs.Ids.{true_from_eq, eq_from_true}
use Rattle.patch_sets.proofs.Lists.{front_or_rest, in_front, in_rest, in_none}
use Rattle.crash_model.specs.Atomic.{is_half_done, atomic_faults}
use Rattle.crash_model.specs.ChosenWaits.{forced_before, promise_waiting, demands_waiting}
use Rattle.crash_model.specs.Checker.{Demands, faults_keeping, faults_showing, promised, counted_among, faults_under}
use Rattle.crash_model.specs.Disk.{Disk}
use Rattle.crash_model.specs.FaultKinds.{fault_number}
use Rattle.crash_model.specs.Faults.{faults, each_slot, each_entry, is_dangling, is_twice, is_unwritten, has_low_links}
use Rattle.crash_model.specs.Faults.{is_marked_free, is_wild, entries_to}
use Rattle.crash_model.specs.Layout.{pointer_of, target_of, links_of}
use Rattle.crash_model.specs.Lists.{when}
use Rattle.crash_model.specs.Promises.{Promise, has_all, has_none, is_allowed, is_spared, is_broken, paths_show}
use Rattle.crash_model.specs.Promises.{breaks_line}
use Rattle.crash_model.specs.BrokenLines.{lines_end, broken_lines}
use Rattle.crash_model.specs.Strict.{strict_faults, is_lost, lacks_block}
use Rattle.crash_model.specs.Waiting.{Wait}
use Rattle.crash_model.specs.declared.fault.Fault.{Fault}
use Rattle.crash_model.specs.declared.fault.Fault.TheVariants.{Dangling, Twice, Unwritten, LowLinks, MarkedFree, Wild}
use Rattle.crash_model.specs.declared.fault.Fault.TheVariants.{Lost, NoBlock, HalfDone, BrokenPromise}
use Rattle.fs_check.proofs.BrokenLines.{broken_below}
use Rattle.fs_check.proofs.EachMade.{all-when, all-some_below, all-each_below}
use Rattle.chosen_rules.proofs.Excluded.{or_cases}
use Rattle.chosen_rules.proofs.Lists.{in_some_below, from_some_below}

-- ---- a list without those that do not count

module _ {X : Type 0} (test : X → Bool) where
  in_filter : (xs : List X) (x : X) → test x ≡ true → Contains xs x → Contains (filter test xs) x
  in_filter [] x passes is = absurd (in_none x is)
  in_filter (y ∷ ys) x passes is = elim (front_or_rest y ys x is) [
    | inl here ↦ rw (ap test here ∙ passes)
        (subst (λ (z : X). Contains (z ∷ filter test ys) x) (sym here) (in_front x (filter test ys)))
    | inr there ↦ kept (test y) (in_filter ys x passes there)
  ]
    where
      kept : (b : Bool) → Contains (filter test ys) x → Contains (cond b (y ∷ filter test ys) (filter test ys)) x
      kept true h = in_rest y (filter test ys) x h
      kept false h = h

  from_filter : (xs : List X) (x : X) → Contains (filter test xs) x → (test x ≡ true) × Contains xs x
  from_filter [] x is = absurd (in_none x is)
  from_filter (y ∷ ys) x is = by (test y) refl (from_filter ys x) is
    where
      further : (test x ≡ true) × Contains ys x → (test x ≡ true) × Contains (y ∷ ys) x
      further there = (there.0, in_rest y ys x there.1)

      by : (b : Bool) → test y ≡ b → (Contains (filter test ys) x → (test x ≡ true) × Contains ys x)
          → Contains (cond b (y ∷ filter test ys) (filter test ys)) x → (test x ≡ true) × Contains (y ∷ ys) x
      by true passes rest h = elim (front_or_rest y (filter test ys) x h) [
        | inl here ↦ (ap test (sym here) ∙ passes, subst (Contains (y ∷ ys)) here (in_front y ys))
        | inr there ↦ further (rest there)
      ]
      by false fails rest h = further (rest h)

-- a fault of one of two lists is one of the other two, if it is so for the second
in_other : (counted : Option ℕ) (front old new : List Fault) (f : Fault) → (Contains old f → Contains new f)
    → Contains (counted_among counted (front ++ old)) f → Contains (counted_among counted (front ++ new)) f
in_other counted front old new f to is = by counted is
  where
    both : Contains (front ++ old) f → Contains (front ++ new) f
    both h = elim (Contains-append_cases front old f h) [
      | inl first ↦ Contains-append_left front new f first
      | inr rest ↦ Contains-append_right front new f (to rest)
    ]

    by : (c : Option ℕ) → Contains (counted_among c (front ++ old)) f → Contains (counted_among c (front ++ new)) f
    by None h = both h
    by (Some numbers) h =
        let test : Fault → Bool = λ g. has numbers (fault_number g) in
        let it = from_filter test (front ++ old) f h in
        in_filter test (front ++ new) f it.0 (both it.1)

-- without those that do not count it is there, too
counted_there : (counted : Option ℕ) (found : List Fault) (f : Fault) → Contains (counted_among counted found) f
    → Contains found f
counted_there None found f is = is
counted_there (Some numbers) found f is = (from_filter (λ g. has numbers (fault_number g)) found f is).1

-- ---- the faults of an image are no promises

abbrev IsOfDisk : Fault → Type 0
IsOfDisk f = fault_number f < 10

module _ (d : Disk) where
  none_promised : All IsOfDisk (faults d)
  unfolding faults each_entry each_slot
  none_promised =
      All-append IsOfDisk _ _
      (All-append IsOfDisk _ _
      (All-append IsOfDisk _ _
      (All-append IsOfDisk _ _
      (All-append IsOfDisk _ _
      (all-each_below IsOfDisk 16 _ (λ dir less. all-some_below IsOfDisk 10 _
      (λ k. all-when IsOfDisk (is_dangling d dir k) (Dangling dir k (target_of d dir k)) (omega arith))))
      (all-some_below IsOfDisk d.blocks _ (λ b. all-when IsOfDisk (is_twice d b) (Twice b) (omega arith))))
      (all-each_below IsOfDisk 16 _ (λ i less. all-some_below IsOfDisk 4 _
      (λ k. all-when IsOfDisk (is_unwritten d i k) (Unwritten i k (pointer_of d i k)) (omega arith)))))
      (all-some_below IsOfDisk 16 _ (λ i.
      all-when IsOfDisk (has_low_links d i) (LowLinks i (length (entries_to d i)) (links_of d i)) (omega arith))))
      (all-each_below IsOfDisk 16 _ (λ i less. all-some_below IsOfDisk 4 _
      (λ k. all-when IsOfDisk (is_marked_free d i k) (MarkedFree i k (pointer_of d i k)) (omega arith)))))
      (all-each_below IsOfDisk 16 _ (λ i less. all-some_below IsOfDisk 4 _
      (λ k. all-when IsOfDisk (is_wild d i k) (Wild i k (pointer_of d i k)) (omega arith))))

  none_strict : (kept : ℕ) → All IsOfDisk (strict_faults kept d)
  unfolding strict_faults
  none_strict kept = All-append IsOfDisk _ _
      (all-some_below IsOfDisk 16 _ (λ i. all-when IsOfDisk (is_lost d kept i) (Lost i) (omega arith)))
      (all-some_below IsOfDisk 16 _ (λ i. all-when IsOfDisk (lacks_block d i) (NoBlock i) (omega arith)))

  none_kept : (kept : Option ℕ) → All IsOfDisk (faults_keeping kept d)
  none_kept None = none_promised
  none_kept (Some kept) = All-append IsOfDisk (faults d) (strict_faults kept d) none_promised (none_strict kept)

  half_done : (test : Bool) → All IsOfDisk (if test then HalfDone ∷ [] else [])
  half_done true = All-cons IsOfDisk HalfDone [] (omega arith) (All-nil IsOfDisk)
  half_done false = All-nil IsOfDisk

  none_atomic : (disks : List Disk) → All IsOfDisk (atomic_faults disks d)
  unfolding atomic_faults
  none_atomic disks = half_done (is_half_done disks d)

  none_shown : (disks : Option (List Disk)) (found : List Fault) → All IsOfDisk found
      → All IsOfDisk (faults_showing disks d found)
  none_shown None found are = are
  none_shown (Some disks) found are = All-append IsOfDisk found (atomic_faults disks d) are (none_atomic disks)

-- ---- a promise

with_first : (g n x y : Bool) → (n && x && y) ≡ true → g ≡ true → (g && n && x && y) ≡ true
with_first true n x y is t = is
with_first false n x y is t = absurd (cc)

first_of : (h n x y : Bool) → (h && n && x && y) ≡ true
    → (h ≡ true) × ((g : Bool) → g ≡ true → (g && n && x && y) ≡ true)
first_of true n x y is = (refl, λ g t. with_first g n x y is t)
first_of false n x y is = absurd (cc)

when_parts : {X : Type 0} (test : Bool) (x y : X) → when test x ≡ Some y → (test ≡ true) × (x ≡ y)
when_parts true x y e = (refl, cc)
when_parts false x y e = absurd (cc)

module _ (waits : List Wait) (set : ℕ) (d : Disk) where
  -- the set has all that lines of a set force up to and with a line
  abbrev pub HasForced : ℕ → ℕ → Type 0
  HasForced chosen line = IsSubset (forced_before waits chosen (line + 1)) set

  -- a broken promise is broken, too, if other lines wait and the set has what they force
  module _ (chosen others : ℕ) (p : Promise) where
    parts : is_broken (promise_waiting waits chosen p) set d ≡ true
        → (has_all set (forced_before waits chosen (p.line + 1)) ≡ true)
        × ((g : Bool) → g ≡ true → (g && has_none set p.ends && not (is_allowed p.allowed set (paths_show d p.paths))
        && not (is_spared p.spares d)) ≡ true)
    unfolding is_broken
    parts is = first_of (has_all set (forced_before waits chosen (p.line + 1))) (has_none set p.ends)
        (not (is_allowed p.allowed set (paths_show d p.paths))) (not (is_spared p.spares d)) is

    has_forced : is_broken (promise_waiting waits chosen p) set d ≡ true → HasForced chosen p.line
    has_forced is = subset_from_and (forced_before waits chosen (p.line + 1)) set (eq_from_true _ _ (parts is).0)

    still_broken : is_broken (promise_waiting waits chosen p) set d ≡ true → HasForced others p.line
        → is_broken (promise_waiting waits others p) set d ≡ true
    unfolding is_broken
    still_broken is has = (parts is).1 (has_all set (forced_before waits others (p.line + 1)))
        (true_from_eq _ _ (and_from_subset (forced_before waits others (p.line + 1)) set has))

  -- ---- the promises of a line

  module _ (chosen others line : ℕ) where
    line_has_forced : (ps : List Promise) → breaks_line (map (promise_waiting waits chosen) ps) set d line ≡ true
        → HasForced chosen line
    line_has_forced [] is = absurd (cc)
    line_has_forced (p ∷ ps) is =
        elim (or_cases (p.line == line && is_broken (promise_waiting waits chosen p) set d)
        (breaks_line (map (promise_waiting waits chosen) ps) set d line) is) [
          | inl here ↦
              let it = and_parts (p.line == line) (is_broken (promise_waiting waits chosen p) set d) here in
              subst (HasForced chosen) (eq_from_true p.line line it.0) (has_forced chosen others p it.1)
          | inr there ↦ line_has_forced ps there
        ]

    line_still_broken : (ps : List Promise) → HasForced others line
        → breaks_line (map (promise_waiting waits chosen) ps) set d line ≡ true
        → breaks_line (map (promise_waiting waits others) ps) set d line ≡ true
    line_still_broken [] has is = absurd (cc)
    line_still_broken (p ∷ ps) has is =
        elim (or_cases (p.line == line && is_broken (promise_waiting waits chosen p) set d)
        (breaks_line (map (promise_waiting waits chosen) ps) set d line) is) [
          | inl here ↦
              let it = and_parts (p.line == line) (is_broken (promise_waiting waits chosen p) set d) here in
              let same = eq_from_true p.line line it.0 in
              let still = still_broken chosen others p it.1 (subst (HasForced others) (sym same) has) in
              or_left (p.line == line && is_broken (promise_waiting waits others p) set d) _ (rw (it.0, still) refl)
          | inr there ↦ or_right (p.line == line && is_broken (promise_waiting waits others p) set d) _
              (line_still_broken ps has there)
        ]

  -- ---- the faults of promises

  module _ (chosen others : ℕ) (ps : List Promise) (f : Fault) where
    abbrev broken_among : ℕ → ℕ → Option Fault
    broken_among lines line = when (breaks_line (map (promise_waiting waits lines) ps) set d line) (BrokenPromise line)

    lines_have_forced : (of : ℕ) → f ≡ BrokenPromise of
        → Contains (broken_lines (map (promise_waiting waits chosen) ps) set d) f → HasForced chosen of
    unfolding broken_lines
    lines_have_forced of is found =
        let it = from_some_below (broken_among chosen) (lines_end (map (promise_waiting waits chosen) ps)) f found in
        let both =
        when_parts (breaks_line (map (promise_waiting waits chosen) ps) set d it.0) (BrokenPromise it.0) f it.2
        in
        let same : it.0 ≡ of = cc in
        subst (HasForced chosen) same (line_has_forced chosen others it.0 ps both.0)

    lines_still_broken : ((of : ℕ) → f ≡ BrokenPromise of → HasForced others of)
        → Contains (broken_lines (map (promise_waiting waits chosen) ps) set d) f
        → Contains (broken_lines (map (promise_waiting waits others) ps) set d) f
    unfolding broken_lines
    lines_still_broken has found =
        let it = from_some_below (broken_among chosen) (lines_end (map (promise_waiting waits chosen) ps)) f found in
        let both =
        when_parts (breaks_line (map (promise_waiting waits chosen) ps) set d it.0) (BrokenPromise it.0) f it.2
        in
        let breaks = line_still_broken chosen others it.0 ps (has it.0 (sym both.1)) both.0 in
        in_some_below (broken_among others) (lines_end (map (promise_waiting waits others) ps)) it.0 f
        (broken_below set d (map (promise_waiting waits others) ps) it.0 breaks) (rw breaks (ap Some both.1))

  -- ---- all faults

  promises_of : (chosen : ℕ) (o : Option (List Promise))
      → promised (option_map (map (promise_waiting waits chosen)) o) ≡ map (promise_waiting waits chosen) (promised o)
  promises_of chosen None = refl
  promises_of chosen (Some ps) = refl

  module _ (demands : Demands) (chosen others : ℕ) (f : Fault) where
    image : List Fault
    image = faults_showing demands.disks d (faults_keeping demands.kept d)

    abbrev broken : ℕ → List Fault
    broken lines = broken_lines (map (promise_waiting waits lines) (promised demands.promises)) set d

    abbrev all : ℕ → List Fault
    all lines = counted_among demands.counted (image ++ broken lines)

    same_faults : (lines : ℕ) → faults_under (demands_waiting waits lines demands) set d ≡ all lines
    unfolding image
    same_faults lines = ap (λ (ps : List Promise). counted_among demands.counted (image ++ broken_lines ps set d))
        (promises_of lines demands.promises)

    -- a broken promise that a set has: the set has what is forced up to and with its line
    pub fault_has_forced : (of : ℕ) → f ≡ BrokenPromise of
        → Contains (faults_under (demands_waiting waits chosen demands) set d) f → HasForced chosen of
    unfolding image
    fault_has_forced of is found =
        let there = counted_there demands.counted (image ++ broken chosen) f
        (subst (λ (fs : List Fault). Contains fs f) (same_faults chosen) found) in
        elim (Contains-append_cases image (broken chosen) f there) [
          | inl first ↦
              let small : fault_number f < 10 = All-contains IsOfDisk image f
              (none_shown d demands.disks (faults_keeping demands.kept d) (none_kept d demands.kept)) first in
              let ten : fault_number f ≡ 10 = ap fault_number is in absurd (omega (arith, small, ten))
          | inr rest ↦ lines_have_forced chosen others (promised demands.promises) f of is rest
        ]

    -- a set has the fault, too, if other lines wait and a broken promise's line has what they force
    pub fault_still_found : ((of : ℕ) → f ≡ BrokenPromise of → HasForced others of)
        → Contains (faults_under (demands_waiting waits chosen demands) set d) f
        → Contains (faults_under (demands_waiting waits others demands) set d) f
    fault_still_found has found = subst (λ (fs : List Fault). Contains fs f) (sym (same_faults others))
        (in_other demands.counted image (broken chosen) (broken others) f
        (lines_still_broken chosen others (promised demands.promises) f has)
        (subst (λ (fs : List Fault). Contains fs f) (same_faults chosen) found))
