-- The list of a disk's faults has exactly those that the disk has.
use Rattle.std.proofs.Common.{◌≡◌, ℕ, zero, suc, ◌+◌, ◌<◌, ◌⊎◌, inl, inr, List, [], ◌∷◌, ◌++◌, length, Bool}
use Rattle.std.proofs.Common.{true, false, ◌&&◌, Option, Some, None, arith, tests, refl, sym, ap, subst, ◌∙◌, ◌*◌}
use Rattle.std.specs.Prelude.{◌==◌, nat_lt, option_to_list, if◌then◌else◌}
use Rattle.std.specs.List.{Contains}
use Rattle.std.proofs.lemmas.Bool.{cases_eq}
use Rattle.std.proofs.lemmas.List.Elements.{Contains-append_left, Contains-append_right, Contains-append_cases}
use Rattle.std.proofs.lemmas.List.Elements.{Contains-push, Contains-push_cases}
use Rattle.patch_sets.proofs.Ids.{true_from_eq, eq_from_true}
use Rattle.journal_replay.proofs.Targets.{bool_is}
use Rattle.crash_model.specs.Disk.{Disk}
use Rattle.crash_model.specs.Layout.{target_of, links_of, pointer_of, is_data}
use Rattle.crash_model.specs.Lists.{each_below, some_below, when}
use Rattle.crash_model.specs.Faults.{each_slot, each_entry, is_dangling, is_twice, is_unwritten, has_low_links, faults}
use Rattle.crash_model.specs.Faults.{entries_to, is_marked_free, is_wild, namers, names_block}
use Rattle.crash_model.specs.Atomic.{is_half_done, atomic_faults}
use Rattle.crash_model.specs.Checker.{Demands, faults_keeping, faults_showing}
use Rattle.crash_model.specs.Strict.{is_lost, lacks_block, strict_faults}
use Rattle.crash_model.proofs.EachBelow.{some_below-none, each_below-none}
use Rattle.crash_model.specs.declared.fault.Fault.{Fault}
use Rattle.crash_model.specs.declared.fault.Fault.TheVariants.{Dangling, Twice, Unwritten, LowLinks, MarkedFree, Wild}
use Rattle.crash_model.specs.declared.fault.Fault.TheVariants.{Lost, NoBlock, HalfDone, BrokenPromise}
use Rattle.known_bytes.specs.Texts.{half_done_there, has_fault, HasBytes}
use Rattle.known_bytes.proofs.FaultTests.{no_names}

-- ---- demands

abbrev demands_of : Option ℕ → Option (List Disk) → Demands
demands_of kept disks = record { kept = kept; disks = disks; promises = None; counted = None }

-- no disk need be shown
abbrev keeping : Option ℕ → Demands
keeping kept = demands_of kept None

-- ---- lists made number by number

in_option : {X : Type 0} (o : Option X) (x : X) → Contains (option_to_list o) x → o ≡ Some x
in_option (Some y) x h = elim (Contains-push_cases [] y x h) [
  | inl none ↦ absurd (let less = none.1 in omega arith)
  | inr e ↦ ap (λ z. Some z) e
]
in_option None x none = absurd (let less = none.1 in omega arith)

pub from_some : {X : Type 0} (n : ℕ) (at : ℕ → Option X) (x : X) → Contains (some_below n at) x
    → (k : ℕ) × (k < n) × (at k ≡ Some x)
unfolding some_below
from_some zero at x h = absurd (let less = h.1 in omega arith)
from_some (suc n) at x h = elim (Contains-append_cases (some_below n at) (option_to_list (at n)) x h) [
  | inl before ↦ let r = from_some n at x before in (r.0, omega (arith, r.1), r.2)
  | inr here ↦ (n, omega arith, in_option (at n) x here)
]

pub to_some : {X : Type 0} (n k : ℕ) (at : ℕ → Option X) (x : X) → k < n → at k ≡ Some x → Contains (some_below n at) x
unfolding some_below
to_some zero k at x less is = absurd (omega arith)
to_some (suc n) k at x less is = elim (cases_eq k n) [
  | inl same ↦ Contains-append_right (some_below n at) (option_to_list (at n)) x
      (subst (λ (o : Option _). Contains (option_to_list o) x) (sym (ap at (sym same) ∙ is)) (Contains-push [] x))
  | inr other ↦ Contains-append_left (some_below n at) (option_to_list (at n)) x
      (to_some n k at x (omega arith) is)
]

from_each : {X : Type 0} (n : ℕ) (list : ℕ → List X) (x : X) → Contains (each_below n list) x
    → (k : ℕ) × (k < n) × Contains (list k) x
unfolding each_below
from_each zero list x h = absurd (let less = h.1 in omega arith)
from_each (suc n) list x h = elim (Contains-append_cases (each_below n list) (list n) x h) [
  | inl before ↦ let r = from_each n list x before in (r.0, omega (arith, r.1), r.2)
  | inr here ↦ (n, omega arith, here)
]

to_each : {X : Type 0} (n k : ℕ) (list : ℕ → List X) (x : X) → k < n → Contains (list k) x
    → Contains (each_below n list) x
unfolding each_below
to_each zero k list x less is = absurd (omega arith)
to_each (suc n) k list x less is = elim (cases_eq k n) [
  | inl same ↦ Contains-append_right (each_below n list) (list n) x (subst (λ (j : ℕ). Contains (list j) x) same is)
  | inr other ↦ Contains-append_left (each_below n list) (list n) x (to_each n k list x (omega arith) is)
]

-- a place of a list by inode and slot, or by directory and entry
pub record At (X : Type 0) (rows columns : ℕ) (at : ℕ → ℕ → Option X) (x : X) : Type 0 where
  pub row : ℕ
  pub column : ℕ
  pub few : row < rows
  pub less : column < columns
  pub is : at row column ≡ Some x

from_slots : {X : Type 0} (at : ℕ → ℕ → Option X) (x : X) → Contains (each_slot at) x → At X 16 4 at x
unfolding each_slot
from_slots at x h =
    let row = from_each 16 (λ inode. some_below 4 (at inode)) x h in
    let column = from_some 4 (at row.0) x row.2 in
    record { row = row.0; column = column.0; few = row.1; less = column.1; is = column.2 }

from_entries : {X : Type 0} (at : ℕ → ℕ → Option X) (x : X) → Contains (each_entry at) x → At X 16 10 at x
unfolding each_entry
from_entries at x h =
    let row = from_each 16 (λ dir. some_below 10 (at dir)) x h in
    let column = from_some 10 (at row.0) x row.2 in
    record { row = row.0; column = column.0; few = row.1; less = column.1; is = column.2 }

to_slots : {X : Type 0} (at : ℕ → ℕ → Option X) (x : X) (inode slot : ℕ) → inode < 16 → slot < 4
    → at inode slot ≡ Some x → Contains (each_slot at) x
unfolding each_slot
to_slots at x inode slot few less is =
    to_each 16 inode (λ inode. some_below 4 (at inode)) x few (to_some 4 slot (at inode) x less is)

to_entries : {X : Type 0} (at : ℕ → ℕ → Option X) (x : X) (dir k : ℕ) → dir < 16 → k < 10
    → at dir k ≡ Some x → Contains (each_entry at) x
unfolding each_entry
to_entries at x dir k few less is =
    to_each 16 dir (λ dir. some_below 10 (at dir)) x few (to_some 10 k (at dir) x less is)

-- ---- tests

pub when_true : {X : Type 0} (b : Bool) (x y : X) → when b x ≡ Some y → b ≡ true
when_true true x y e = refl
when_true false x y e = absurd (cc)

pub when_value : {X : Type 0} (b : Bool) (x y : X) → when b x ≡ Some y → x ≡ y
when_value true x y e = cc
when_value false x y e = absurd (cc)

when_is : {X : Type 0} (b : Bool) (x y : X) → b ≡ true → x ≡ y → when b x ≡ Some y
when_is true x y h e = ap (λ z. Some z) e
when_is false x y h e = absurd (cc)

below : (a b : ℕ) → a < b → nat_lt a b ≡ true
below a b less = grind (arith, tests)

from_below : (a b : ℕ) → nat_lt a b ≡ true → a < b
from_below a b h = grind (arith, tests)

pub left_of : (a b : Bool) → (a && b) ≡ true → a ≡ true
left_of true b h = refl
left_of false b h = absurd (cc)

pub right_of : (a b : Bool) → (a && b) ≡ true → b ≡ true
right_of true b h = h
right_of false b h = absurd (cc)

pub both : (a b : Bool) → a ≡ true → b ≡ true → (a && b) ≡ true
both true b h e = e
both false b h e = absurd (cc)

no_namers : (d : Disk) (block : ℕ) → is_data d block ≡ false → namers d block ≡ []
unfolding namers each_slot
no_namers d block not_data = each_below-none 16
    (λ inode. some_below 4 (λ slot. when (names_block d inode slot block) (inode, slot)))
    (λ inode less. some_below-none 4 (λ slot. when (names_block d inode slot block) (inode, slot))
    (λ slot few. ap (λ (b : Bool). when b (inode, slot)) (no_names d inode slot block not_data)))

-- a block that two slots name is one of the data area
pub twice_data : (d : Disk) (block : ℕ) → is_twice d block ≡ true → is_data d block ≡ true
twice_data d block twice = elim (bool_is (is_data d block)) [
  | inl is ↦ is
  | inr not_data ↦
      let none : namers d block ≡ [] = no_namers d block not_data in
      let never : true ≡ nat_lt 1 0 = sym twice ∙ ap (λ (xs : List (ℕ × ℕ)). nat_lt 1 (length xs)) none in
      absurd (let e : true ≡ false = never in cc)
]

twice_below : (d : Disk) (block : ℕ) → is_twice d block ≡ true → block < d.blocks
twice_below d block twice = inside (twice_data d block twice)
  where
    inside : is_data d block ≡ true → block < d.blocks
    inside h = grind (arith, tests)

-- an entry that dangles names an inode that a byte can name
abbrev pub HasSmallTargets : Disk → Type 0
HasSmallTargets d = (dir k : ℕ) → dir < 16 → k < 10 → is_dangling d dir k ≡ true → target_of d dir k < 255

pub small_targets : (d : Disk) → HasBytes d → HasSmallTargets d
small_targets d bytes dir k few less is = omega (arith, bytes.small (128 * pointer_of d dir 0 + (8 + 12 * k)))

-- ---- the lists

module _ (d : Disk) where
  abbrev dangling : List Fault
  dangling = each_entry (λ dir k. when (is_dangling d dir k) (Dangling dir k (target_of d dir k)))

  abbrev twice : List Fault
  twice = some_below d.blocks (λ block. when (is_twice d block) (Twice block))

  abbrev unwritten : List Fault
  unwritten = each_slot (λ inode slot. when (is_unwritten d inode slot)
      (Unwritten inode slot (pointer_of d inode slot)))

  abbrev low : List Fault
  low = some_below 16 (λ inode.
      when (has_low_links d inode) (LowLinks inode (length (entries_to d inode)) (links_of d inode)))

  abbrev marked_free : List Fault
  marked_free = each_slot (λ inode slot.
      when (is_marked_free d inode slot) (MarkedFree inode slot (pointer_of d inode slot)))

  abbrev wild : List Fault
  wild = each_slot (λ inode slot. when (is_wild d inode slot) (Wild inode slot (pointer_of d inode slot)))

  abbrev first : List Fault
  first = dangling ++ twice

  abbrev second : List Fault
  second = first ++ unwritten

  abbrev third : List Fault
  third = second ++ low

  abbrev fourth : List Fault
  fourth = third ++ marked_free

  parts_are : faults d ≡ fourth ++ wild
  unfolding faults
  parts_are = refl

  -- one of the lists has the fault
  record Parts (f : Fault) : Type 0 where
    pub one : Contains dangling f ⊎ (Contains twice f ⊎ (Contains unwritten f ⊎ (Contains low f
        ⊎ (Contains marked_free f ⊎ Contains wild f))))

  parts_of : (f : Fault) → Contains (faults d) f → Parts f
  parts_of f h =
      let all = subst (λ (xs : List Fault). Contains xs f) parts_are h in
      record {
        one = elim (Contains-append_cases fourth wild f all) [
          | inr a ↦ inr (inr (inr (inr (inr a))))
          | inl r ↦ elim (Contains-append_cases third marked_free f r) [
            | inr a ↦ inr (inr (inr (inr (inl a))))
            | inl r ↦ elim (Contains-append_cases second low f r) [
              | inr a ↦ inr (inr (inr (inl a)))
              | inl r ↦ elim (Contains-append_cases first unwritten f r) [
                | inr a ↦ inr (inr (inl a))
                | inl r ↦ elim (Contains-append_cases dangling twice f r) [
                  | inl a ↦ inl a
                  | inr a ↦ inr (inl a)
                ]
              ]
            ]
          ]
        ];
      }

  of_first : (f : Fault) → Contains first f → Contains (faults d) f
  of_first f h = subst (λ (xs : List Fault). Contains xs f) (sym parts_are)
      (Contains-append_left fourth wild f (Contains-append_left third marked_free f (Contains-append_left second low f
      (Contains-append_left first unwritten f h))))

  of_parts : (f : Fault) → Parts f → Contains (faults d) f
  of_parts f p = elim p.one [
    | inl a ↦ of_first f (Contains-append_left dangling twice f a)
    | inr r ↦ elim r [
      | inl a ↦ of_first f (Contains-append_right dangling twice f a)
      | inr r ↦ elim r [
        | inl a ↦ subst (λ (xs : List Fault). Contains xs f) (sym parts_are) (Contains-append_left fourth wild f
            (Contains-append_left third marked_free f (Contains-append_left second low f
            (Contains-append_right first unwritten f a))))
        | inr r ↦ elim r [
          | inl a ↦ subst (λ (xs : List Fault). Contains xs f) (sym parts_are) (Contains-append_left fourth wild f
              (Contains-append_left third marked_free f (Contains-append_right second low f a)))
          | inr r ↦ elim r [
            | inl a ↦ subst (λ (xs : List Fault). Contains xs f) (sym parts_are) (Contains-append_left fourth wild f
                (Contains-append_right third marked_free f a))
            | inr a ↦ subst (λ (xs : List Fault). Contains xs f) (sym parts_are)
                (Contains-append_right fourth wild f a)
          ]
        ]
      ]
    ]
  ]

  -- the list of a kind has each fault of the kind that the disk has
  six_listed : (f : Fault) → has_fault (keeping None) d f ≡ true → Contains (faults d) f
  six_listed (Dangling dir k inode) h =
      let place = left_of (nat_lt dir 16 && nat_lt k 10 && nat_lt inode 255) _ h in
      let is = right_of (nat_lt dir 16 && nat_lt k 10 && nat_lt inode 255) _ h in
      let t = three (nat_lt dir 16) (nat_lt k 10) (nat_lt inode 255) place in
      of_parts (Dangling dir k inode) record {
        one = inl (to_entries
            (λ dir k. when (is_dangling d dir k) (Dangling dir k (target_of d dir k))) (Dangling dir k inode) dir k
            (from_below dir 16 t.0) (from_below k 10 t.1)
            (when_is (is_dangling d dir k) (Dangling dir k (target_of d dir k)) (Dangling dir k inode)
            (left_of (is_dangling d dir k) _ is)
            (ap (λ (n : ℕ). Dangling dir k n) (eq_from_true (target_of d dir k) inode
            (right_of (is_dangling d dir k) _ is)))));
      }
    where
      three : (a b c : Bool) → (a && b && c) ≡ true → (a ≡ true) × (b ≡ true)
      three a b c h = (grind (arith, tests), grind (arith, tests))
  six_listed (Twice block) h =
      of_parts (Twice block) record {
        one = inr (inl (to_some d.blocks block
            (λ block. when (is_twice d block) (Twice block)) (Twice block) (twice_below d block h)
            (when_is (is_twice d block) (Twice block) (Twice block) h refl)));
      }
  six_listed (Unwritten inode slot block) h =
      let place = left_of (nat_lt inode 16 && nat_lt slot 4) _ h in
      let is = right_of (nat_lt inode 16 && nat_lt slot 4) _ h in
      of_parts (Unwritten inode slot block) record {
        one = inr (inr (inl (to_slots
            (λ inode slot. when (is_unwritten d inode slot) (Unwritten inode slot (pointer_of d inode slot)))
            (Unwritten inode slot block) inode slot (from_below inode 16 (left_of (nat_lt inode 16) _ place))
            (from_below slot 4 (right_of (nat_lt inode 16) _ place))
            (when_is (is_unwritten d inode slot) _ _ (left_of (is_unwritten d inode slot) _ is)
            (ap (λ (n : ℕ). Unwritten inode slot n) (eq_from_true (pointer_of d inode slot) block
            (right_of (is_unwritten d inode slot) _ is)))))));
      }
  six_listed (LowLinks inode entries links) h =
      let is = right_of (nat_lt inode 16) _ h in
      let numbers = right_of (has_low_links d inode) _ is in
      let same_entries = eq_from_true (length (entries_to d inode)) entries
      (left_of (length (entries_to d inode) == entries) _ numbers) in
      let same_links = eq_from_true (links_of d inode) links
      (right_of (length (entries_to d inode) == entries) _ numbers) in
      of_parts (LowLinks inode entries links) record {
        one = inr (inr (inr (inl (to_some 16 inode
            (λ inode. when (has_low_links d inode) (LowLinks inode (length (entries_to d inode)) (links_of d inode)))
            (LowLinks inode entries links) (from_below inode 16 (left_of (nat_lt inode 16) _ h))
            (when_is (has_low_links d inode) _ _ (left_of (has_low_links d inode) _ is)
            (ap (λ (n : ℕ). LowLinks inode n (links_of d inode)) same_entries
            ∙ ap (λ (n : ℕ). LowLinks inode entries n) same_links))))));
      }
  six_listed (MarkedFree inode slot block) h =
      let place = left_of (nat_lt inode 16 && nat_lt slot 4) _ h in
      let is = right_of (nat_lt inode 16 && nat_lt slot 4) _ h in
      of_parts (MarkedFree inode slot block) record {
        one = inr (inr (inr (inr (inl (to_slots
            (λ inode slot. when (is_marked_free d inode slot) (MarkedFree inode slot (pointer_of d inode slot)))
            (MarkedFree inode slot block) inode slot (from_below inode 16 (left_of (nat_lt inode 16) _ place))
            (from_below slot 4 (right_of (nat_lt inode 16) _ place))
            (when_is (is_marked_free d inode slot) _ _ (left_of (is_marked_free d inode slot) _ is)
            (ap (λ (n : ℕ). MarkedFree inode slot n) (eq_from_true (pointer_of d inode slot) block
            (right_of (is_marked_free d inode slot) _ is)))))))));
      }
  six_listed (Wild inode slot block) h =
      let place = left_of (nat_lt inode 16 && nat_lt slot 4) _ h in
      let is = right_of (nat_lt inode 16 && nat_lt slot 4) _ h in
      of_parts (Wild inode slot block) record {
        one = inr (inr (inr (inr (inr (to_slots
            (λ inode slot. when (is_wild d inode slot) (Wild inode slot (pointer_of d inode slot)))
            (Wild inode slot block) inode slot (from_below inode 16 (left_of (nat_lt inode 16) _ place))
            (from_below slot 4 (right_of (nat_lt inode 16) _ place))
            (when_is (is_wild d inode slot) _ _ (left_of (is_wild d inode slot) _ is)
            (ap (λ (n : ℕ). Wild inode slot n) (eq_from_true (pointer_of d inode slot) block
            (right_of (is_wild d inode slot) _ is)))))))));
      }
  six_listed (Lost inode) h = absurd (cc)
  six_listed (NoBlock inode) h = absurd (cc)
  six_listed HalfDone h = absurd (cc)
  six_listed (BrokenPromise line) h = absurd (cc)

  -- and no other
  six_all : (f : Fault) → HasSmallTargets d → Contains (faults d) f → has_fault (keeping None) d f ≡ true
  six_all f targets h = elim (parts_of f h).one [
    | inl a ↦
        let p = from_entries (λ dir k. when (is_dangling d dir k) (Dangling dir k (target_of d dir k))) f a in
        let is = when_true (is_dangling d p.row p.column) _ f p.is in
        let small : target_of d p.row p.column < 255 = targets p.row p.column p.few p.less is in
        subst (λ (f : Fault). has_fault (keeping None) d f ≡ true) (when_value (is_dangling d p.row p.column) _ f p.is)
        (both (nat_lt p.row 16 && nat_lt p.column 10 && nat_lt (target_of d p.row p.column) 255) _
        (three p.row p.column (target_of d p.row p.column) p.few p.less small)
        (both (is_dangling d p.row p.column) _ is (true_from_eq _ _ refl)))
    | inr r ↦ elim r [
      | inl a ↦
          let p = from_some d.blocks (λ block. when (is_twice d block) (Twice block)) f a in
          subst (λ (f : Fault). has_fault (keeping None) d f ≡ true) (when_value (is_twice d p.0) (Twice p.0) f p.2)
          (when_true (is_twice d p.0) (Twice p.0) f p.2)
      | inr r ↦ elim r [
        | inl a ↦
            let p = from_slots (λ inode slot.
            when (is_unwritten d inode slot) (Unwritten inode slot (pointer_of d inode slot))) f a in
            subst (λ (f : Fault). has_fault (keeping None) d f ≡ true)
            (when_value (is_unwritten d p.row p.column) _ f p.is)
            (both (nat_lt p.row 16 && nat_lt p.column 4) _
            (both (nat_lt p.row 16) _ (below p.row 16 p.few) (below p.column 4 p.less))
            (both (is_unwritten d p.row p.column) _ (when_true (is_unwritten d p.row p.column) _ f p.is)
            (true_from_eq _ _ refl)))
        | inr r ↦ elim r [
          | inl a ↦
              let p = from_some 16 (λ inode.
              when (has_low_links d inode) (LowLinks inode (length (entries_to d inode)) (links_of d inode))) f a in
              subst (λ (f : Fault). has_fault (keeping None) d f ≡ true) (when_value (has_low_links d p.0) _ f p.2)
              (both (nat_lt p.0 16) _ (below p.0 16 p.1)
              (both (has_low_links d p.0) _ (when_true (has_low_links d p.0) _ f p.2)
              (both (length (entries_to d p.0) == length (entries_to d p.0)) _ (true_from_eq _ _ refl)
              (true_from_eq _ _ refl))))
          | inr r ↦ elim r [
            | inl a ↦
                let p = from_slots (λ inode slot.
                when (is_marked_free d inode slot) (MarkedFree inode slot (pointer_of d inode slot))) f a in
                subst (λ (f : Fault). has_fault (keeping None) d f ≡ true)
                (when_value (is_marked_free d p.row p.column) _ f p.is)
                (both (nat_lt p.row 16 && nat_lt p.column 4) _
                (both (nat_lt p.row 16) _ (below p.row 16 p.few) (below p.column 4 p.less))
                (both (is_marked_free d p.row p.column) _ (when_true (is_marked_free d p.row p.column) _ f p.is)
                (true_from_eq _ _ refl)))
            | inr a ↦
                let p = from_slots (λ inode slot.
                when (is_wild d inode slot) (Wild inode slot (pointer_of d inode slot))) f a in
                subst (λ (f : Fault). has_fault (keeping None) d f ≡ true)
                (when_value (is_wild d p.row p.column) _ f p.is)
                (both (nat_lt p.row 16 && nat_lt p.column 4) _
                (both (nat_lt p.row 16) _ (below p.row 16 p.few) (below p.column 4 p.less))
                (both (is_wild d p.row p.column) _ (when_true (is_wild d p.row p.column) _ f p.is)
                (true_from_eq _ _ refl)))
          ]
        ]
      ]
    ]
  ]
    where
      three : (a b c : ℕ) → a < 16 → b < 10 → c < 255 → (nat_lt a 16 && nat_lt b 10 && nat_lt c 255) ≡ true
      three a b c h k l = grind (arith, tests)

-- ---- with those that a strict checker finds

strict_listed : (kept : ℕ) (d : Disk) (f : Fault) → Contains (strict_faults kept d) f
    → (((i : ℕ) × (i < 16) × (when (is_lost d kept i) (Lost i) ≡ Some f))
    ⊎ ((i : ℕ) × (i < 16) × (when (lacks_block d i) (NoBlock i) ≡ Some f)))
unfolding strict_faults
strict_listed kept d f h =
    elim (Contains-append_cases (some_below 16 (λ inode. when (is_lost d kept inode) (Lost inode)))
    (some_below 16 (λ inode. when (lacks_block d inode) (NoBlock inode))) f h) [
      | inl a ↦ inl (from_some 16 (λ inode. when (is_lost d kept inode) (Lost inode)) f a)
      | inr b ↦ inr (from_some 16 (λ inode. when (lacks_block d inode) (NoBlock inode)) f b)
    ]

lost_listed : (kept : ℕ) (d : Disk) (i : ℕ) → i < 16 → is_lost d kept i ≡ true
    → Contains (strict_faults kept d) (Lost i)
unfolding strict_faults
lost_listed kept d i less is = Contains-append_left (some_below 16 (λ inode. when (is_lost d kept inode) (Lost inode)))
    (some_below 16 (λ inode. when (lacks_block d inode) (NoBlock inode))) (Lost i)
    (to_some 16 i (λ inode. when (is_lost d kept inode) (Lost inode)) (Lost i) less
    (when_is (is_lost d kept i) (Lost i) (Lost i) is refl))

bare_listed : (kept : ℕ) (d : Disk) (i : ℕ) → i < 16 → lacks_block d i ≡ true
    → Contains (strict_faults kept d) (NoBlock i)
unfolding strict_faults
bare_listed kept d i less is = Contains-append_right (some_below 16 (λ inode. when (is_lost d kept inode) (Lost inode)))
    (some_below 16 (λ inode. when (lacks_block d inode) (NoBlock inode))) (NoBlock i)
    (to_some 16 i (λ inode. when (lacks_block d inode) (NoBlock inode)) (NoBlock i) less
    (when_is (lacks_block d i) (NoBlock i) (NoBlock i) is refl))

keeping_listed : (kept : Option ℕ) (d : Disk) (f : Fault) → has_fault (keeping kept) d f ≡ true
    → Contains (faults_keeping kept d) f
keeping_listed None d f h = six_listed d f h
keeping_listed (Some kept) d (Dangling dir k inode) h = Contains-append_left (faults d) (strict_faults kept d) _
    (six_listed d (Dangling dir k inode) h)
keeping_listed (Some kept) d (Twice block) h = Contains-append_left (faults d) (strict_faults kept d) _
    (six_listed d (Twice block) h)
keeping_listed (Some kept) d (Unwritten inode slot block) h = Contains-append_left (faults d) (strict_faults kept d) _
    (six_listed d (Unwritten inode slot block) h)
keeping_listed (Some kept) d (LowLinks inode entries links) h = Contains-append_left (faults d) (strict_faults kept d) _
    (six_listed d (LowLinks inode entries links) h)
keeping_listed (Some kept) d (MarkedFree inode slot block) h = Contains-append_left (faults d) (strict_faults kept d) _
    (six_listed d (MarkedFree inode slot block) h)
keeping_listed (Some kept) d (Wild inode slot block) h = Contains-append_left (faults d) (strict_faults kept d) _
    (six_listed d (Wild inode slot block) h)
keeping_listed (Some kept) d (Lost inode) h = Contains-append_right (faults d) (strict_faults kept d) (Lost inode)
    (lost_listed kept d inode (from_below inode 16 (left_of (nat_lt inode 16) _ h)) (right_of (nat_lt inode 16) _ h))
keeping_listed (Some kept) d (NoBlock inode) h = Contains-append_right (faults d) (strict_faults kept d) (NoBlock inode)
    (bare_listed kept d inode (from_below inode 16 (left_of (nat_lt inode 16) _ h)) (right_of (nat_lt inode 16) _ h))
keeping_listed (Some kept) d HalfDone h = absurd (cc)
keeping_listed (Some kept) d (BrokenPromise line) h = absurd (cc)

with_strict : (kept : ℕ) (d : Disk) (f : Fault) → has_fault (keeping None) d f ≡ true
    → has_fault (keeping (Some kept)) d f ≡ true
with_strict kept d (Dangling dir k inode) h = h
with_strict kept d (Twice block) h = h
with_strict kept d (Unwritten inode slot block) h = h
with_strict kept d (LowLinks inode entries links) h = h
with_strict kept d (MarkedFree inode slot block) h = h
with_strict kept d (Wild inode slot block) h = h
with_strict kept d (Lost inode) h = absurd (cc)
with_strict kept d (NoBlock inode) h = absurd (cc)
with_strict kept d HalfDone h = absurd (cc)
with_strict kept d (BrokenPromise line) h = absurd (cc)

keeping_there : (kept : Option ℕ) (d : Disk) (f : Fault) → HasSmallTargets d → Contains (faults_keeping kept d) f
    → has_fault (keeping kept) d f ≡ true
keeping_there None d f targets h = six_all d f targets h
keeping_there (Some kept) d f targets h = elim (Contains-append_cases (faults d) (strict_faults kept d) f h) [
  | inl a ↦ with_strict kept d f (six_all d f targets a)
  | inr b ↦ elim (strict_listed kept d f b) [
    | inl p ↦ subst (λ (f : Fault). has_fault (keeping (Some kept)) d f ≡ true)
        (when_value (is_lost d kept p.0) (Lost p.0) f p.2)
        (both (nat_lt p.0 16) _ (below p.0 16 p.1) (when_true (is_lost d kept p.0) (Lost p.0) f p.2))
    | inr p ↦ subst (λ (f : Fault). has_fault (keeping (Some kept)) d f ≡ true)
        (when_value (lacks_block d p.0) (NoBlock p.0) f p.2)
        (both (nat_lt p.0 16) _ (below p.0 16 p.1) (when_true (lacks_block d p.0) (NoBlock p.0) f p.2))
  ]
]

-- ---- with that of whole operations

half_listed : (disks : List Disk) (d : Disk) → is_half_done disks d ≡ true → Contains (atomic_faults disks d) HalfDone
unfolding atomic_faults
half_listed disks d is = rw is (Contains-push [] HalfDone)

half_only : (disks : List Disk) (d : Disk) (f : Fault) → Contains (atomic_faults disks d) f
    → (HalfDone ≡ f) × (is_half_done disks d ≡ true)
unfolding atomic_faults
half_only disks d f h = of_test (is_half_done disks d) h
  where
    of_test : (test : Bool) → Contains (if test then HalfDone ∷ [] else []) f → (HalfDone ≡ f) × (test ≡ true)
    of_test true h = elim (Contains-push_cases [] HalfDone f h) [
      | inl none ↦ absurd (let less = none.1 in omega arith)
      | inr same ↦ (same, refl)
    ]
    of_test false none = absurd (let less = none.1 in omega arith)

module _ (kept : Option ℕ) (disks : Option (List Disk)) (d : Disk) where
  -- a fault that is there is one that would be listed with no disk to show, or the one of whole operations
  without_disks : (f : Fault) → has_fault (demands_of kept disks) d f ≡ true
      → (has_fault (keeping kept) d f ≡ true) ⊎ ((HalfDone ≡ f) × (half_done_there disks d ≡ true))
  without_disks (Dangling dir k inode) h = inl h
  without_disks (Twice block) h = inl h
  without_disks (Unwritten inode slot block) h = inl h
  without_disks (LowLinks inode entries links) h = inl h
  without_disks (MarkedFree inode slot block) h = inl h
  without_disks (Wild inode slot block) h = inl h
  without_disks (Lost inode) h = inl h
  without_disks (NoBlock inode) h = inl h
  without_disks HalfDone h = inr (refl, h)
  without_disks (BrokenPromise line) h = absurd (cc)

  with_disks : (f : Fault) → has_fault (keeping kept) d f ≡ true → has_fault (demands_of kept disks) d f ≡ true
  with_disks (Dangling dir k inode) h = h
  with_disks (Twice block) h = h
  with_disks (Unwritten inode slot block) h = h
  with_disks (LowLinks inode entries links) h = h
  with_disks (MarkedFree inode slot block) h = h
  with_disks (Wild inode slot block) h = h
  with_disks (Lost inode) h = h
  with_disks (NoBlock inode) h = h
  with_disks HalfDone h = absurd (cc)
  with_disks (BrokenPromise line) h = absurd (cc)

showing_listed : (kept : Option ℕ) (disks : Option (List Disk)) (d : Disk) (f : Fault)
    → has_fault (demands_of kept disks) d f ≡ true → Contains (faults_showing disks d (faults_keeping kept d)) f
showing_listed kept None d f h = elim (without_disks kept None d f h) [
  | inl other ↦ keeping_listed kept d f other
  | inr half ↦ absurd (let no = half.1 in cc)
]
showing_listed kept (Some disks) d f h = elim (without_disks kept (Some disks) d f h) [
  | inl other ↦ Contains-append_left (faults_keeping kept d) (atomic_faults disks d) f (keeping_listed kept d f other)
  | inr half ↦ Contains-append_right (faults_keeping kept d) (atomic_faults disks d) f
      (subst (λ (g : Fault). Contains (atomic_faults disks d) g) half.0 (half_listed disks d half.1))
]

showing_there : (kept : Option ℕ) (disks : Option (List Disk)) (d : Disk) (f : Fault) → HasSmallTargets d
    → Contains (faults_showing disks d (faults_keeping kept d)) f → has_fault (demands_of kept disks) d f ≡ true
showing_there kept None d f targets h = with_disks kept None d f (keeping_there kept d f targets h)
showing_there kept (Some disks) d f targets h =
    elim (Contains-append_cases (faults_keeping kept d) (atomic_faults disks d) f h) [
      | inl other ↦ with_disks kept (Some disks) d f (keeping_there kept d f targets other)
      | inr half ↦
          let is = half_only disks d f half in
          subst (λ (g : Fault). has_fault (demands_of kept (Some disks)) d g ≡ true) is.0 is.1
    ]

-- ---- all

-- all faults of a disk, and none of a set
abbrev pub disk_faults : Demands → Disk → List Fault
disk_faults demands d = faults_showing demands.disks d (faults_keeping demands.kept d)

-- the test of a fault asks for what is kept and for the disks alone
same_test : (demands : Demands) (d : Disk) (f : Fault)
    → has_fault demands d f ≡ has_fault (demands_of demands.kept demands.disks) d f
same_test demands d (Dangling dir k inode) = refl
same_test demands d (Twice block) = refl
same_test demands d (Unwritten inode slot block) = refl
same_test demands d (LowLinks inode entries links) = refl
same_test demands d (MarkedFree inode slot block) = refl
same_test demands d (Wild inode slot block) = refl
same_test demands d (Lost inode) = refl
same_test demands d (NoBlock inode) = refl
same_test demands d HalfDone = refl
same_test demands d (BrokenPromise line) = refl

module _ (demands : Demands) (d : Disk) (f : Fault) where
  pub disk_listed : has_fault demands d f ≡ true → Contains (disk_faults demands d) f
  disk_listed h = showing_listed demands.kept demands.disks d f (sym (same_test demands d f) ∙ h)

  pub disk_there : HasSmallTargets d → Contains (disk_faults demands d) f → has_fault demands d f ≡ true
  disk_there targets h = same_test demands d f ∙ showing_there demands.kept demands.disks d f targets h
