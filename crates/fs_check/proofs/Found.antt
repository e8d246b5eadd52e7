-- The lists of wrong pointers and of faults: one element more, and what tests make of them.
use Rattle.std.proofs.Common.{◌≡◌, ◌≢◌, ℕ, zero, suc, ◌+◌, ◌<◌, List, [], ◌∷◌, ◌++◌, length, Bool, true, false, ◌&&◌}
use Rattle.std.proofs.Common.{◌==◌, not, take, get_or, Option, Some, None, arith, refl, ap, ◌∙◌, append_assoc, ◌-◌}
use Rattle.std.proofs.lemmas.Bool.{eq-eqb, ne_eqb, and_right}
use Rattle.std.proofs.lemmas.List.{append-nil, take_more}
use Rattle.std.proofs.lemmas.List.Elements.{All-nil, All-cons, All-append, filter_map-append}
use Rattle.std.specs.Prelude.{option_to_list}
use Rattle.std.specs.List.{All, cons_option, filter_map}
use Rattle.crash_model.specs.Lists.{each_below, some_below, when}
use Rattle.crash_model.proofs.EachBelow.{each_below-step, some_below-step, some_below-none}
use Rattle.crash_model.specs.Disk.{Disk}
use Rattle.crash_model.specs.Layout.{map_of, pointer_of, counts, entry_of, is_live, is_data, is_entry, is_pointer}
use Rattle.crash_model.specs.Faults.{each_slot, is_unwritten, is_marked_free, is_wild, faults}
use Rattle.crash_model.specs.declared.fault.Fault.{Fault}
use Rattle.crash_model.specs.declared.fault.Fault.TheVariants.{Dangling, Unwritten, MarkedFree, Wild}
use Rattle.fs_check.specs.Passed.{is_marked, is_right_block}
use Rattle.fs_check.specs.References.{pointer, wrong_at, wrong_pointers, dangling_at, dangling_entries, fault_of}
use Rattle.fs_check.specs.References.{twice_at, low_links_at}
use Rattle.fs_check.specs.declared.references.Pointer.{Pointer}
use Rattle.fs_check.specs.declared.list.Test.TheVariants.{IsUnwritten, IsMarkedFree, IsWild}

-- ---- lists made element by element

module _ {X : Type 0} where
  -- one element more
  pub pushed : (at : ℕ → Option X) (n : ℕ) (x : X) (old before now : List X) → at n ≡ Some x → now ≡ before ++ x ∷ []
      → before ≡ old ++ some_below n at → now ≡ old ++ some_below (n + 1) at
  pushed at n x old before now is push e =
      push ∙ rw (e, some_below-step n at, is) (append_assoc old (some_below n at) (x ∷ []))

  -- none more
  pub passed_over : (at : ℕ → Option X) (n : ℕ) (old before : List X) → at n ≡ None → before ≡ old ++ some_below n at
      → before ≡ old ++ some_below (n + 1) at
  passed_over at n old before none e = e ∙ rw (some_below-step n at, none, append-nil (some_below n at)) refl

  -- one row more
  pub row_pushed : (list : ℕ → List X) (n : ℕ) (old before now : List X) → now ≡ before ++ list n
      → before ≡ old ++ each_below n list → now ≡ old ++ each_below (n + 1) list
  row_pushed list n old before now push e = push ∙ rw (e, each_below-step n list)
      (append_assoc old (each_below n list) (list n))

  -- an empty row
  pub row_passed : (list : ℕ → List X) (n : ℕ) (old before : List X) → list n ≡ [] → before ≡ old ++ each_below n list
      → before ≡ old ++ each_below (n + 1) list
  row_passed list n old before none e = e ∙ rw (each_below-step n list, none, append-nil (each_below n list)) refl

-- what a test finds of one pointer more
pub found_more : (f : Pointer → Option Fault) (ps : List Pointer) (i : ℕ) (p : Pointer) (old before now : List Fault)
    (o : Option Fault) → i < length ps
    → o ≡ f (get_or ps i p) → now ≡ before ++ option_to_list o → before ≡ old ++ filter_map f (take i ps)
    → now ≡ old ++ filter_map f (take (i + 1) ps)
found_more f ps i p old before now o below is push e =
    push ∙ rw (e, take_more ps i p below, filter_map-append f (take i ps) (get_or ps i p ∷ []), is)
    (append_assoc old (filter_map f (take i ps)) (option_to_list (f (get_or ps i p)))
    ∙ ap (λ (ys : List Fault). old ++ (filter_map f (take i ps) ++ ys)) (single (f (get_or ps i p))))
  where
    single : (o : Option Fault) → option_to_list o ≡ cons_option o []
    single None = refl
    single (Some y) = refl

-- ---- the wrong pointers, and the entries as faults

module _ (d : Disk) (inode slot : ℕ) where
  pub wrong-here : (block : ℕ) → is_live d inode ≡ true → pointer_of d inode slot ≡ block → block ≢ 0
      → is_right_block d inode block ≡ false
      → wrong_at d inode slot ≡ Some (pointer inode slot block)
  wrong-here block live points some wrong = rw (live, points, ne_eqb block 0 some, wrong) refl

  pub wrong-right : (block : ℕ) → pointer_of d inode slot ≡ block → is_right_block d inode block ≡ true
      → wrong_at d inode slot ≡ None
  wrong-right block points right = rw (
    ap (is_right_block d inode) points ∙ right,
    and_right (is_pointer d inode slot) false refl,
  ) refl

  pub wrong-none : pointer_of d inode slot ≡ 0 → wrong_at d inode slot ≡ None
  wrong-none points = rw (eq-eqb (pointer_of d inode slot) 0 points, and_right (is_live d inode) false refl) refl

pub wrong-dead : (d : Disk) (inode : ℕ) → is_live d inode ≡ false → some_below 4 (wrong_at d inode) ≡ []
wrong-dead d inode dead = some_below-none 4 (wrong_at d inode) (λ s b. rw dead refl)

module _ (d : Disk) (dir k : ℕ) where
  pub dangling-here : (entry : ℕ) → counts d dir ≡ true → entry_of d dir k ≡ entry → entry ≢ 0
      → is_live d (entry - 1) ≡ false
      → dangling_at d dir k ≡ Some (Dangling dir k (entry - 1))
  dangling-here entry counted is some dead = rw (counted, is, ne_eqb entry 0 some, dead) refl

  pub dangling-entry_counts : (entry : ℕ) → entry_of d dir k ≡ entry → is_live d (entry - 1) ≡ true
      → dangling_at d dir k ≡ None
  dangling-entry_counts entry is live =
      rw (ap (λ (e : ℕ). is_live d (e - 1)) is ∙ live, and_right (is_entry d dir k) false refl)
      refl

  pub dangling-none : entry_of d dir k ≡ 0 → dangling_at d dir k ≡ None
  dangling-none is = rw (eq-eqb (entry_of d dir k) 0 is, and_right (counts d dir) false refl) refl

pub dangling-uncounted : (d : Disk) (dir : ℕ) → counts d dir ≡ false → some_below 10 (dangling_at d dir) ≡ []
dangling-uncounted d dir uncounted = some_below-none 10 (dangling_at d dir) (λ k b. rw uncounted refl)

-- ---- the inodes of wrong pointers

all-when : (b : Bool) (p : Pointer) → p.inode < 16 → All (λ (q : Pointer). q.inode < 16) (option_to_list (when b p))
all-when true p less = All-cons (λ (q : Pointer). q.inode < 16) p [] less (All-nil (λ (q : Pointer). q.inode < 16))
all-when false p less = All-nil (λ (q : Pointer). q.inode < 16)

module _ (P : Pointer → Type 0) where
  all-some_below : (n : ℕ) (at : ℕ → Option Pointer) → ((k : ℕ) → All P (option_to_list (at k)))
      → All P (some_below n at)
  unfolding some_below
  all-some_below zero at each = All-nil P
  all-some_below (suc n) at each = All-append P (some_below n at) (option_to_list (at n)) (all-some_below n at each)
      (each n)

  all-each_below : (n : ℕ) (list : ℕ → List Pointer) → ((k : ℕ) → k < n → All P (list k)) → All P (each_below n list)
  unfolding each_below
  all-each_below zero list each = All-nil P
  all-each_below (suc n) list each = All-append P (each_below n list) (list n)
      (all-each_below n list (λ k less. each k (omega arith))) (each n (omega arith))

pub wrong-held : (d : Disk) → All (λ (p : Pointer). p.inode < 16) (wrong_pointers d)
unfolding each_slot
wrong-held d = all-each_below (λ (p : Pointer). p.inode < 16) 16
    _ (λ i a. all-some_below (λ (p : Pointer). p.inode < 16) 4 _
    (λ s. all-when (is_pointer d i s && not (is_right_block d i (pointer_of d i s))) (pointer i s (pointer_of d i s))
    a))

-- ---- a test of each wrong pointer

module _ (f : Pointer → Option Fault) where
  map-some_below : (n : ℕ) (at : ℕ → Option Pointer) (h : ℕ → Option Fault)
      → ((k : ℕ) → filter_map f (option_to_list (at k)) ≡ option_to_list (h k))
      → filter_map f (some_below n at) ≡ some_below n h
  unfolding some_below
  map-some_below zero at h same = refl
  map-some_below (suc n) at h same =
      filter_map-append f (some_below n at) (option_to_list (at n)) ∙ rw (map-some_below n at h same, same n) refl

  map-each_below : (n : ℕ) (list : ℕ → List Pointer) (lists : ℕ → List Fault)
      → ((k : ℕ) → filter_map f (list k) ≡ lists k)
      → filter_map f (each_below n list) ≡ each_below n lists
  unfolding each_below
  map-each_below zero list lists same = refl
  map-each_below (suc n) list lists same =
      filter_map-append f (each_below n list) (list n) ∙ rw (map-each_below n list lists same, same n) refl

  map-slots : (at : ℕ → ℕ → Option Pointer) (h : ℕ → ℕ → Option Fault)
      → ((i s : ℕ) → filter_map f (option_to_list (at i s)) ≡ option_to_list (h i s))
      → filter_map f (each_slot at) ≡ each_slot h
  unfolding each_slot
  map-slots at h same = map-each_below 16 (λ i. some_below 4 (at i)) (λ i. some_below 4 (h i))
      (λ i. map-some_below 4 (at i) (h i) (same i))

-- a test of what there is where another holds
both-tests : (a b c : Bool) (p : Pointer) (f : Pointer → Option Fault) (y : Fault) → f p ≡ when b y → (a && b) ≡ c
    → filter_map f (option_to_list (when a p)) ≡ option_to_list (when c y)
both-tests true true c p f y e same = rw (e, ← same) refl
both-tests true false c p f y e same = rw (e, ← same) refl
both-tests false b c p f y e same = rw (← same) refl

-- where a test of a pointer finds a fault the block is wrong
wrong-unwritten : (pointer area free marked : Bool) → ((pointer && not (area && not free && marked))
    && (area && not marked)) ≡ (pointer && area && not marked)
wrong-unwritten false area free marked = refl
wrong-unwritten true false free marked = refl
wrong-unwritten true true true marked = refl
wrong-unwritten true true false true = refl
wrong-unwritten true true false false = refl

wrong-free : (pointer area free marked : Bool) → ((pointer && not (area && not free && marked)) && (area && free))
    ≡ (pointer && area && free)
wrong-free false area free marked = refl
wrong-free true false free marked = refl
wrong-free true true true marked = refl
wrong-free true true false true = refl
wrong-free true true false false = refl

wrong-wild : (pointer area free marked : Bool) → ((pointer && not (area && not free && marked)) && not area)
    ≡ (pointer && not area)
wrong-wild false area free marked = refl
wrong-wild true false free marked = refl
wrong-wild true true true marked = refl
wrong-wild true true false true = refl
wrong-wild true true false false = refl

module _ (d : Disk) where
  wrong : ℕ → ℕ → Bool
  wrong i s = is_pointer d i s && not (is_right_block d i (pointer_of d i s))

  at : ℕ → ℕ → Pointer
  at i s = pointer i s (pointer_of d i s)

  pub found-unwritten : filter_map (fault_of d IsUnwritten) (wrong_pointers d)
      ≡ each_slot (λ i s. when (is_unwritten d i s) (Unwritten i s (pointer_of d i s)))
  unfolding wrong at
  found-unwritten = map-slots (fault_of d IsUnwritten) (wrong_at d) _ (λ i s.
      let block : ℕ = pointer_of d i s in
      both-tests (wrong i s) (is_data d block && not (is_marked d i block)) (is_unwritten d i s) (at i s)
      (fault_of d IsUnwritten) (Unwritten i s block) refl
      (wrong-unwritten (is_pointer d i s) (is_data d block) (map_of d block == 0) (is_marked d i block)))

  pub found-marked_free : filter_map (fault_of d IsMarkedFree) (wrong_pointers d)
      ≡ each_slot (λ i s. when (is_marked_free d i s) (MarkedFree i s (pointer_of d i s)))
  unfolding wrong at
  found-marked_free = map-slots (fault_of d IsMarkedFree) (wrong_at d) _ (λ i s.
      let block : ℕ = pointer_of d i s in
      both-tests (wrong i s) (is_data d block && map_of d block == 0) (is_marked_free d i s) (at i s)
      (fault_of d IsMarkedFree) (MarkedFree i s block) refl
      (wrong-free (is_pointer d i s) (is_data d block) (map_of d block == 0) (is_marked d i block)))

  pub found-wild : filter_map (fault_of d IsWild) (wrong_pointers d)
      ≡ each_slot (λ i s. when (is_wild d i s) (Wild i s (pointer_of d i s)))
  unfolding wrong at
  found-wild = map-slots (fault_of d IsWild) (wrong_at d) _ (λ i s.
      let block : ℕ = pointer_of d i s in
      both-tests (wrong i s) (not (is_data d block)) (is_wild d i s) (at i s) (fault_of d IsWild) (Wild i s block) refl
      (wrong-wild (is_pointer d i s) (is_data d block) (map_of d block == 0) (is_marked d i block)))

-- all six lists, one after another
pub six_lists : (d : Disk) (none dangling twice unwritten low_links marked_free wild : List Fault) → none ≡ []
    → dangling ≡ none ++ dangling_entries d
    → twice ≡ dangling ++ some_below d.blocks (twice_at d)
    → unwritten ≡ twice ++ filter_map (fault_of d IsUnwritten) (wrong_pointers d)
    → low_links ≡ unwritten ++ some_below 16 (low_links_at d)
    → marked_free ≡ low_links ++ filter_map (fault_of d IsMarkedFree) (wrong_pointers d)
    → wild ≡ marked_free ++ filter_map (fault_of d IsWild) (wrong_pointers d)
    → wild ≡ faults d
unfolding faults
six_lists d none dangling twice unwritten low_links marked_free wild n e1 e2 e3 e4 e5 e6 =
    rw (e6, e5, e4, e3, e2, e1, n, found-unwritten d, found-marked_free d, found-wild d) refl

-- what a test finds in a slice that is equal to a list
pub in_slice : (f : Pointer → Option Fault) (slice ps qs : List Pointer) (before now : List Fault) → slice ≡ ps
    → ps ≡ qs
    → now ≡ before ++ filter_map f slice → now ≡ before ++ filter_map f qs
in_slice f slice ps qs before now same is e = e ∙ ap (λ (l : List Pointer). before ++ filter_map f l) (same ∙ is)
