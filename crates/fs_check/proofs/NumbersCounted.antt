-- Faults of one number count all, or none.
use Rattle.std.proofs.Common.{◌≡◌, ℕ, List, [], ◌∷◌, ◌++◌, length, Bool, true, false, Option, Some}
use Rattle.std.proofs.Common.{None}
use Rattle.std.proofs.Common.{inl, inr, refl, sym, ap, ◌∙◌}
use Rattle.std.specs.Prelude.{◌↔◌, filter, if◌then◌else◌}
use Rattle.std.specs.List.{All}
use Rattle.std.proofs.lemmas.Bool.{cases_Bool}
use Rattle.std.proofs.lemmas.List.Elements.{All-nil, All-head, All-tail, filter-append}
use Rattle.patch_sets.specs.Sets.{Has, has}
use Rattle.patch_sets.proofs.Ids.{has_true, from_has}
use Rattle.crash_model.specs.Disk.{Disk}
use Rattle.crash_model.specs.Lists.{some_below, when}
use Rattle.crash_model.specs.Layout.{pointer_of, target_of, links_of}
use Rattle.crash_model.specs.Faults.{faults, each_slot, is_dangling, is_twice, has_low_links, is_unwritten}
use Rattle.crash_model.specs.Faults.{is_marked_free}
use Rattle.crash_model.specs.Faults.{is_wild, entries_to, each_entry}
use Rattle.crash_model.specs.Strict.{strict_faults, is_lost, lacks_block}
use Rattle.crash_model.specs.Atomic.{ShowsSome, atomic_faults, is_half_done}
use Rattle.crash_model.specs.Promises.{breaks_line}
use Rattle.crash_model.specs.BrokenLines.{broken_lines, lines_end}
use Rattle.crash_model.specs.Checker.{Demands, IsCleanUnder, faults_keeping, faults_showing, promised, counted_among}
use Rattle.crash_model.specs.FaultKinds.{fault_number}
use Rattle.crash_model.specs.declared.fault.Fault.{Fault}
use Rattle.crash_model.specs.declared.fault.Fault.TheVariants.{Dangling, Twice, Unwritten, LowLinks, MarkedFree, Wild}
use Rattle.crash_model.specs.declared.fault.Fault.TheVariants.{Lost, NoBlock, HalfDone, BrokenPromise}
use Rattle.crash_model.proofs.Clean.{nil_left, nil_right, nil_both, some_none, none_some}
use Rattle.crash_model.proofs.Demanded.{atomic_none, none_atomic}
use Rattle.fs_check.specs.Counted.{HasNoEntryFault, HasNoPointerFault, HasNoLoss, HasNoLossOf, HasNoFault}
use Rattle.fs_check.proofs.EachMade.{all-when, all-some_below, all-each_below}
use Rattle.crash_model.proofs.Clean.{slots_none, none_slots, entries_none, none_entries}

-- each fault has the number
abbrev Is : ℕ → Fault → Type 0
Is number f = fault_number f ≡ number

abbrev Are : ℕ → List Fault → Type 0
Are number found = All (Is number) found

-- ---- the numbers of the lists

module _ (d : Disk) where
  are_dangling : Are 1 (each_entry (λ dir k. when (is_dangling d dir k) (Dangling dir k (target_of d dir k))))
  unfolding each_entry
  are_dangling = all-each_below (Is 1) 16 _ (λ dir a. all-some_below (Is 1) 10 _
      (λ k. all-when (Is 1) (is_dangling d dir k) (Dangling dir k (target_of d dir k)) refl))

  are_twice : Are 2 (some_below d.blocks (λ block. when (is_twice d block) (Twice block)))
  are_twice = all-some_below (Is 2) d.blocks _ (λ block. all-when (Is 2) (is_twice d block) (Twice block) refl)

  are_unwritten : Are 3 (each_slot (λ i s. when (is_unwritten d i s) (Unwritten i s (pointer_of d i s))))
  unfolding each_slot
  are_unwritten = all-each_below (Is 3) 16 _ (λ i a. all-some_below (Is 3) 4 _
      (λ s. all-when (Is 3) (is_unwritten d i s) (Unwritten i s (pointer_of d i s)) refl))

  are_low_links : Are 4 (some_below 16 (λ i.
      when (has_low_links d i) (LowLinks i (length (entries_to d i)) (links_of d i))))
  are_low_links = all-some_below (Is 4) 16 _
      (λ i. all-when (Is 4) (has_low_links d i) (LowLinks i (length (entries_to d i)) (links_of d i)) refl)

  are_marked_free : Are 5 (each_slot (λ i s. when (is_marked_free d i s) (MarkedFree i s (pointer_of d i s))))
  unfolding each_slot
  are_marked_free = all-each_below (Is 5) 16 _ (λ i a. all-some_below (Is 5) 4 _
      (λ s. all-when (Is 5) (is_marked_free d i s) (MarkedFree i s (pointer_of d i s)) refl))

  are_wild : Are 6 (each_slot (λ i s. when (is_wild d i s) (Wild i s (pointer_of d i s))))
  unfolding each_slot
  are_wild = all-each_below (Is 6) 16 _ (λ i a. all-some_below (Is 6) 4 _
      (λ s. all-when (Is 6) (is_wild d i s) (Wild i s (pointer_of d i s)) refl))

  are_lost : (kept : ℕ) → Are 7 (some_below 16 (λ i. when (is_lost d kept i) (Lost i)))
  are_lost kept = all-some_below (Is 7) 16 _ (λ i. all-when (Is 7) (is_lost d kept i) (Lost i) refl)

  are_bare : Are 8 (some_below 16 (λ i. when (lacks_block d i) (NoBlock i)))
  are_bare = all-some_below (Is 8) 16 _ (λ i. all-when (Is 8) (lacks_block d i) (NoBlock i) refl)

-- ---- one list

module _ (counted : ℕ) where
  abbrev pub among : List Fault → List Fault
  among found = filter (λ f. has counted (fault_number f)) found

  all_stay : (number : ℕ) (found : List Fault) → Are number found → has counted number ≡ true → among found ≡ []
      → found ≡ []
  all_stay number [] are counts none = refl
  all_stay number (f ∷ found) are counts none =
      let here = ap (has counted) (All-head (Is number) f found are) ∙ counts in
      let some = rw here at none in cc

  all_go : (number : ℕ) (found : List Fault) → Are number found → has counted number ≡ false → among found ≡ []
  all_go number [] are not = refl
  all_go number (f ∷ found) are not =
      rw (ap (has counted) (All-head (Is number) f found are) ∙ not)
      (all_go number found (All-tail (Is number) f found are) not)

  none_of : (number : ℕ) (found : List Fault) → Are number found
      → (among found ≡ [] ↔ (Has counted number → found ≡ []))
  none_of number found are = (
    λ none counts. all_stay number found are (has_true counted number counts) none,
    λ none. elim (cases_Bool (has counted number)) [
      | inl counts ↦ ap among (none (from_has counted number counts))
      | inr not ↦ all_go number found are not
    ],
  )

  none_in : (xs ys : List Fault) → (among (xs ++ ys) ≡ [] ↔ ((among xs ≡ []) × (among ys ≡ [])))
  none_in xs ys =
      let same = filter-append (λ f. has counted (fault_number f)) xs ys in (
        λ none. (nil_left (among xs) (among ys) (sym same ∙ none), nil_right (among xs) (among ys) (sym same ∙ none)),
        λ both. same ∙ nil_both (among xs) (among ys) both.0 both.1,
      )

  -- ---- the six

  module _ (d : Disk) where
    -- the six lists, as tests and what they make
    abbrev dangling : ℕ → ℕ → Fault
    dangling dir k = Dangling dir k (target_of d dir k)

    abbrev low_links : ℕ → Fault
    low_links i = LowLinks i (length (entries_to d i)) (links_of d i)

    abbrev unwritten : ℕ → ℕ → Fault
    unwritten i s = Unwritten i s (pointer_of d i s)

    abbrev marked_free : ℕ → ℕ → Fault
    marked_free i s = MarkedFree i s (pointer_of d i s)

    abbrev wild : ℕ → ℕ → Fault
    wild i s = Wild i s (pointer_of d i s)

    a : List Fault
    a = each_entry (λ dir k. when (is_dangling d dir k) (dangling dir k))

    b : List Fault
    b = some_below d.blocks (λ block. when (is_twice d block) (Twice block))

    c : List Fault
    c = each_slot (λ i s. when (is_unwritten d i s) (unwritten i s))

    e : List Fault
    e = some_below 16 (λ i. when (has_low_links d i) (low_links i))

    f : List Fault
    f = each_slot (λ i s. when (is_marked_free d i s) (marked_free i s))

    g : List Fault
    g = each_slot (λ i s. when (is_wild d i s) (wild i s))

    six : faults d ≡ a ++ b ++ c ++ e ++ f ++ g
    unfolding faults a b c e f g
    six = refl

    -- the parts of an empty list of faults that count
    pub six_none : among (faults d) ≡ [] → HasNoEntryFault counted d × HasNoPointerFault counted d
    unfolding a b c e f g
    six_none none =
        let s5 = (none_in (a ++ b ++ c ++ e ++ f) g).0 (ap among (sym six) ∙ none) in
        let s4 = (none_in (a ++ b ++ c ++ e) f).0 s5.0 in
        let s3 = (none_in (a ++ b ++ c) e).0 s4.0 in
        let s2 = (none_in (a ++ b) c).0 s3.0 in
        let s1 = (none_in a b).0 s2.0 in (
          record {
            dangling = λ counts. entries_none (is_dangling d) dangling ((none_of 1 a (are_dangling d)).0 s1.0 counts);
            low_links =
                λ counts. some_none (has_low_links d) low_links 16 ((none_of 4 e (are_low_links d)).0 s3.1 counts);
          },
          record {
            twice = λ counts. some_none (is_twice d) Twice d.blocks ((none_of 2 b (are_twice d)).0 s1.1 counts);
            right = record {
              unwritten =
                  λ counts. slots_none (is_unwritten d) unwritten ((none_of 3 c (are_unwritten d)).0 s2.1 counts);
              marked_free = λ counts. slots_none (is_marked_free d) marked_free
                  ((none_of 5 f (are_marked_free d)).0 s4.1 counts);
              wild = λ counts. slots_none (is_wild d) wild ((none_of 6 g (are_wild d)).0 s5.1 counts);
            };
          },
        )

    pub none_six : HasNoEntryFault counted d → HasNoPointerFault counted d → among (faults d) ≡ []
    unfolding a b c e f g
    none_six entries pointers =
        let s1 = (none_in a b).1 (
          (none_of 1 a (are_dangling d)).1 (λ counts. none_entries (is_dangling d) dangling (entries.dangling counts)),
          (none_of 2 b (are_twice d)).1 (λ counts. none_some (is_twice d) Twice d.blocks (pointers.twice counts)),
        ) in
        let s2 = (none_in (a ++ b) c).1 (
          s1,
          (none_of 3 c (are_unwritten d)).1
              (λ counts. none_slots (is_unwritten d) unwritten (pointers.right.unwritten counts)),
        ) in
        let s3 = (none_in (a ++ b ++ c) e).1 (
          s2,
          (none_of 4 e (are_low_links d)).1
              (λ counts. none_some (has_low_links d) low_links 16 (entries.low_links counts)),
        ) in
        let s4 = (none_in (a ++ b ++ c ++ e) f).1 (
          s3,
          (none_of 5 f (are_marked_free d)).1
              (λ counts. none_slots (is_marked_free d) marked_free (pointers.right.marked_free counts)),
        ) in
        ap among six ∙ (none_in (a ++ b ++ c ++ e ++ f) g).1 (
          s4,
          (none_of 6 g (are_wild d)).1
              (λ counts. none_slots (is_wild d) wild (pointers.right.wild counts)),
        )

    -- ---- the two of the tree

    lost : ℕ → List Fault
    lost kept = some_below 16 (λ i. when (is_lost d kept i) (Lost i))

    bare : List Fault
    bare = some_below 16 (λ i. when (lacks_block d i) (NoBlock i))

    tree_none : (kept : ℕ) → among (strict_faults kept d) ≡ [] → HasNoLoss counted kept d
    unfolding strict_faults lost bare
    tree_none kept none =
        let parts = (none_in (lost kept) bare).0 none in
        record {
          lost = λ counts. some_none (is_lost d kept) Lost 16
              ((none_of 7 (lost kept) (are_lost d kept)).0 parts.0 counts);
          bare = λ counts. some_none (lacks_block d) NoBlock 16 ((none_of 8 bare (are_bare d)).0 parts.1 counts);
        }

    none_tree : (kept : ℕ) → HasNoLoss counted kept d → among (strict_faults kept d) ≡ []
    unfolding strict_faults lost bare
    none_tree kept loses = (none_in (lost kept) bare).1 (
      (none_of 7 (lost kept) (are_lost d kept)).1 (λ counts. none_some (is_lost d kept) Lost 16 (loses.lost counts)),
      (none_of 8 bare (are_bare d)).1 (λ counts. none_some (lacks_block d) NoBlock 16 (loses.bare counts)),
    )

    keeping_none : (kept : Option ℕ) → among (faults_keeping kept d) ≡ []
        → (HasNoEntryFault counted d × HasNoPointerFault counted d) × HasNoLossOf counted kept d
    keeping_none None none = (six_none none, tt)
    keeping_none (Some kept) none =
        let parts = (none_in (faults d) (strict_faults kept d)).0 none in (six_none parts.0, tree_none kept parts.1)

    none_keeping : (kept : Option ℕ) → HasNoEntryFault counted d → HasNoPointerFault counted d
        → HasNoLossOf counted kept d → among (faults_keeping kept d) ≡ []
    none_keeping None entries pointers tree = none_six entries pointers
    none_keeping (Some kept) entries pointers tree = (none_in (faults d) (strict_faults kept d)).1
        (none_six entries pointers, none_tree kept tree)

    -- ---- whole operations

    are_half_done : (disks : List Disk) → Are 9 (atomic_faults disks d)
    unfolding atomic_faults
    are_half_done disks = listed (is_half_done disks d)
      where
        listed : (test : Bool) → Are 9 (if test then HalfDone ∷ [] else [])
        listed true = all-when (Is 9) true HalfDone refl
        listed false = All-nil (Is 9)

    showing_none : (disks : Option (List Disk)) (found : List Fault) → among (faults_showing disks d found) ≡ []
        → (among found ≡ []) × (Has counted 9 → ShowsSome disks d)
    showing_none None found none = (none, λ _. tt)
    showing_none (Some disks) found none =
        let parts = (none_in found (atomic_faults disks d)).0 none in
        (parts.0, λ counts. atomic_none disks d ((none_of 9 _ (are_half_done disks)).0 parts.1 counts))

    none_showing : (disks : Option (List Disk)) (found : List Fault) → among found ≡ []
        → (Has counted 9 → ShowsSome disks d) → among (faults_showing disks d found) ≡ []
    none_showing None found none shows = none
    none_showing (Some disks) found none shows = (none_in found (atomic_faults disks d)).1
        (none, (none_of 9 _ (are_half_done disks)).1 (λ counts. none_atomic disks d (shows counts)))

    -- ---- all that a set may have

    module _ (demands : Demands) (set : ℕ) (is : demands.counted ≡ Some counted) where
      broken : List Fault
      broken = broken_lines (promised demands.promises) set d

      others : List Fault
      others = faults_showing demands.disks d (faults_keeping demands.kept d)

      are_broken : Are 10 broken
      unfolding broken broken_lines
      are_broken = all-some_below (Is 10) (lines_end (promised demands.promises)) _
          (λ line. all-when (Is 10) (breaks_line (promised demands.promises) set d line) (BrokenPromise line) refl)

      pub no_fault_from_clean : IsCleanUnder demands set d → HasNoFault counted demands set d
      unfolding broken others
      no_fault_from_clean clean =
          let none : among (others ++ broken) ≡ [] =
          ap (λ (o : Option ℕ). counted_among o (others ++ broken)) (sym is) ∙ clean.faultless in
          let parts = (none_in others broken).0 none in
          let shown = showing_none demands.disks (faults_keeping demands.kept d) parts.0 in
          let kept = keeping_none demands.kept shown.0 in
          record {
            disk = record { entries = kept.0.0; pointers = kept.0.1; tree = kept.1; whole = shown.1 };
            kept = (none_of 10 broken are_broken).0 parts.1;
          }

      pub clean_from_no_fault : HasNoFault counted demands set d → IsCleanUnder demands set d
      unfolding broken others
      clean_from_no_fault none = record {
        faultless = ap (λ (o : Option ℕ). counted_among o (others ++ broken)) is ∙ (none_in others broken).1 (
          none_showing demands.disks (faults_keeping demands.kept d)
              (none_keeping demands.kept none.disk.entries none.disk.pointers none.disk.tree) none.disk.whole,
          (none_of 10 broken are_broken).1 none.kept,
        );
      }
