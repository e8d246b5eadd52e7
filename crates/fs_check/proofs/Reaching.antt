-- The inodes that the checker finds reached.
use Rattle.std.proofs.Common.{◌≡◌, ◌≢◌, ℕ, ◌+◌, ◌-◌, ◌<◌, ◌≤◌, inl, inr, List, [], ◌∷◌, ◌++◌, length, get_or, set}
use Rattle.std.proofs.Common.{replicate, Bool, true, false, ◌&&◌, ◌||◌, ◌==◌, not, map, arith, refl, sym, subst, ap}
use Rattle.std.proofs.Common.{◌∙◌, append_assoc}
use Rattle.std.specs.Prelude.{◌^◌, ◌↔◌, bit_and, bit_or}
use Rattle.std.specs.List.{list_any, range_with_len}
use Rattle.std.proofs.lemmas.Bool.{false≢true, cases_eq, cases_lt, cases_Bool, eq-eqb, ne_eqb, and_parts, and_right}
use Rattle.std.proofs.lemmas.List.{get_or-set_same, get_or-set_other, length-set, get_or-replicate, length-replicate}
use Rattle.std.proofs.lemmas.List.{get_or_past}
use Rattle.std.proofs.lemmas.List.Folds.{list_any-append}
use Rattle.std.proofs.lemmas.List.FromFn.{map-range_with_len_more}
use Rattle.std.proofs.lemmas.Nat.Bits.{bit_at_and, bit_at_ones, bit_at-lt}
use Rattle.patch_sets.specs.Sets.{Has, has, with_id, IsSubset}
use Rattle.patch_sets.specs.Ends.{IsWithout}
use Rattle.patch_sets.proofs.Bits.{none_in_empty, in_with_same, in_with_cases, in_with_old, in_or_cases, in_or_left}
use Rattle.patch_sets.proofs.Bits.{in_or_right, below_from_small}
use Rattle.patch_sets.proofs.Ids.{has_true, has_false, from_has}
use Rattle.crash_model.specs.Disk.{Disk}
use Rattle.crash_model.specs.Layout.{kind_of, pointer_of, is_live, counts, entry_of}
use Rattle.crash_model.specs.Lists.{some_below}
use Rattle.crash_model.specs.Faults.{leads_to}
use Rattle.crash_model.specs.declared.fault.Fault.{Fault}
use Rattle.crash_model.specs.Strict.{has_entry_to, is_reached, is_lost, LosesNothing, strict_faults}
use Rattle.crash_model.proofs.Reached.{reached-root, reached-step, reached-least}
use Rattle.fs_check.specs.Strict.{lost_at, bare_at, IsReachOf, IsNamedBy}
use Rattle.fs_check.proofs.Entries.{live-below}

-- ---- tests

pub same_test : (a b : Bool) → (a ≡ true → b ≡ true) → (b ≡ true → a ≡ true) → a ≡ b
same_test true b to from = sym (to refl)
same_test false true to from = from refl
same_test false false to from = refl

or_true : (a b : Bool) → b ≡ true → (a || b) ≡ true
or_true true b e = refl
or_true false b e = e

or_false : (a b : Bool) → b ≡ false → (a || b) ≡ a
or_false true b e = refl
or_false false b e = e

pub both_true : (a b : Bool) → a ≡ true → b ≡ true → (a && b) ≡ true
both_true a b e f = rw (e, f) refl

both_parts : (a b c : Bool) → ((a && b) || (a && c)) ≡ (a && (b || c))
both_parts true b c = refl
both_parts false b c = refl

not_true : (b : Bool) → (b ≡ true → ⊥) → b ≡ false
not_true true never = absurd (never refl)
not_true false never = refl

-- ---- sets

has-with_same : (set id : ℕ) → has (with_id set id) id ≡ true
has-with_same set id = has_true (with_id set id) id (in_with_same set id)

has-with_other : (set id other : ℕ) → other ≢ id → has (with_id set id) other ≡ has set other
has-with_other set id other differ = same_test (has (with_id set id) other) (has set other)
    (λ t. elim (in_with_cases set id other (from_has (with_id set id) other t)) [
      | inl e ↦ absurd (differ e)
      | inr old ↦ has_true set other old
    ])
    (λ t. has_true (with_id set id) other (in_with_old set id other (from_has set other t)))

in_and : (a b id : ℕ) → Has a id → Has b id → Has (bit_and a b) id
in_and a b id here there = omega (arith, bit_at_and a b id, here, there)

pub and_in : (a b id : ℕ) → Has (bit_and a b) id → Has a id × Has b id
and_in a b id is = (
  omega (arith, bit_at_and a b id, is, bit_at-lt a id, bit_at-lt b id),
  omega (arith, bit_at_and a b id, is, bit_at-lt a id, bit_at-lt b id),
)

-- ---- the inodes that the first entries of a directory name

map_same : (xs : List ℕ) → map (λ k. k) xs ≡ xs
map_same [] = refl
map_same (x ∷ xs) = ap (λ ys. x ∷ ys) (map_same xs)

range-more : (n : ℕ) → range_with_len 0 (n + 1) ≡ range_with_len 0 n ++ n ∷ []
range-more n = sym (map_same (range_with_len 0 (n + 1)))
    ∙ (map-range_with_len_more (λ (k : ℕ). k) 0 n n (omega arith)
    ∙ ap (λ xs. xs ++ n ∷ []) (map_same (range_with_len 0 n)))

any-more : (p : ℕ → Bool) (n : ℕ) → list_any p (range_with_len 0 (n + 1)) ≡ (list_any p (range_with_len 0 n) || p n)
any-more p n = ap (list_any p) (range-more n) ∙ (list_any-append p (range_with_len 0 n) (n ∷ [])
    ∙ ap (λ (b : Bool). list_any p (range_with_len 0 n) || b) (or_false (p n) false refl))

module _ (d : Disk) (dir : ℕ) where
  abbrev pub AreNamed : ℕ → ℕ → Type 0
  AreNamed n named = (inode : ℕ) → has named inode ≡ (is_live d inode
      && list_any (λ k. leads_to d dir k inode) (range_with_len 0 n))

  pub named-start : AreNamed 0 0
  named-start inode = has_false 0 inode (none_in_empty inode) ∙ sym (and_right (is_live d inode) false refl)

  -- an entry adds the live inode to which it leads
  abbrev pub Adds : ℕ → ℕ → ℕ → Type 0
  Adds k named more = (inode : ℕ) → has more inode ≡ (has named inode || (is_live d inode && leads_to d dir k inode))

  pub named-step : (k named more : ℕ) → Adds k named more → AreNamed k named → AreNamed (k + 1) more
  named-step k named more adds old inode =
      adds inode
      ∙ (ap (λ (b : Bool). b || (is_live d inode && leads_to d dir k inode)) (old inode)
      ∙ (both_parts (is_live d inode) (list_any (λ j. leads_to d dir j inode) (range_with_len 0 k))
      (leads_to d dir k inode)
      ∙ ap (λ (b : Bool). is_live d inode && b) (sym (any-more (λ j. leads_to d dir j inode) k))))

  leads-here : (k entry : ℕ) → counts d dir ≡ true → entry_of d dir k ≡ entry → entry ≢ 0
      → leads_to d dir k (entry - 1) ≡ true
  leads-here k entry counted is some = rw (counted, is, ne_eqb entry 0 some) (eq-eqb (entry - 1) (entry - 1) refl)

  leads-other : (k entry inode : ℕ) → entry_of d dir k ≡ entry → inode ≢ entry - 1 → leads_to d dir k inode ≡ false
  leads-other k entry inode is differ = rw (is, ne_eqb (entry - 1) inode (λ e. differ (sym e)))
      (and_right (counts d dir && not (entry == 0)) false refl)

  leads-none : (k inode : ℕ) → entry_of d dir k ≡ 0 → leads_to d dir k inode ≡ false
  leads-none k inode is = rw (eq-eqb (entry_of d dir k) 0 is, and_right (counts d dir) false refl) refl

  pub adds-live : (k entry named : ℕ) → counts d dir ≡ true → entry_of d dir k ≡ entry → entry ≢ 0
      → is_live d (entry - 1) ≡ true
      → Adds k named (with_id named (entry - 1))
  adds-live k entry named counted is some live inode = elim (cases_eq inode (entry - 1)) [
    | inl same ↦ subst (λ (i : ℕ). has (with_id named (entry - 1)) i
        ≡ (has named i || (is_live d i && leads_to d dir k i))) (sym same)
        (has-with_same named (entry - 1)
        ∙ sym (or_true (has named (entry - 1)) _ (both_true (is_live d (entry - 1)) _ live
        (leads-here k entry counted is some))))
    | inr other ↦ has-with_other named (entry - 1) inode other
        ∙ sym (or_false (has named inode) _ (and_right (is_live d inode) _ (leads-other k entry inode is other)))
  ]

  pub adds-free : (k named : ℕ) → entry_of d dir k ≡ 0 → Adds k named named
  adds-free k named is inode = sym (or_false (has named inode)
      _ (and_right (is_live d inode) _ (leads-none k inode is)))

  pub adds-dead : (k entry named : ℕ) → entry_of d dir k ≡ entry → is_live d (entry - 1) ≡ false → Adds k named named
  adds-dead k entry named is dead inode = sym (or_false (has named inode) _ (elim (cases_eq inode (entry - 1)) [
    | inl same ↦ subst (λ (i : ℕ). (is_live d i && leads_to d dir k i) ≡ false) (sym same) (rw dead refl)
    | inr other ↦ and_right (is_live d inode) _ (leads-other k entry inode is other)
  ]))

  -- an inode that does not count names none
  uncounted : counts d dir ≡ false → (ks : List ℕ) (inode : ℕ) → list_any (λ k. leads_to d dir k inode) ks ≡ false
  uncounted not_so [] inode = refl
  uncounted not_so (k ∷ ks) inode = rw (not_so, uncounted not_so ks inode) refl

  pub named-uncounted : counts d dir ≡ false → (inode : ℕ) → has 0 inode ≡ (is_live d inode && has_entry_to d dir inode)
  named-uncounted not_so inode = has_false 0 inode (none_in_empty inode)
      ∙ sym (and_right (is_live d inode) _ (uncounted not_so (range_with_len 0 10) inode))

-- ---- what is reached so far, and which inodes' entries have not been read

pub record Reaching (d : Disk) (reached unread : ℕ) : Type 0 where
  pub sound : (i : ℕ) → has reached i ≡ true → is_reached d i ≡ true
  pub root : kind_of d 0 ≡ 2 → has reached 0 ≡ true
  pub read : (e i : ℕ) → e < 16 → has unread e ≡ false → has_entry_to d e i ≡ true → is_live d i ≡ true
      → has reached i ≡ true
  pub few : (i : ℕ) → has unread i ≡ true → i < 16

all_unread : (i : ℕ) → i < 16 → has 0xFFFF i ≡ true
all_unread i below = has_true 0xFFFF i (bit_at_ones 16 i below)

few_unread : (i : ℕ) → has 0xFFFF i ≡ true → i < 16
few_unread i is = below_from_small 0xFFFF 16 i (omega arith) (from_has 0xFFFF i is)

all_read : (reached unread : ℕ) → bit_and reached unread ≡ 0 → (e : ℕ) → has reached e ≡ true → has unread e ≡ false
all_read reached unread none e is = has_false unread e
    (λ there. none_in_empty e (subst (λ (s : ℕ). Has s e) none (in_and reached unread e (from_has reached e is) there)))

module _ (d : Disk) where
  pub reaching-root : kind_of d 0 ≡ 2 → Reaching d 1 0xFFFF
  reaching-root is = record {
    sound = λ i there.
        let below : i < 1 = below_from_small 1 1 i (omega arith) (from_has 1 i there) in
        let same : 0 ≡ i = omega arith in
        subst (λ (j : ℕ). is_reached d j ≡ true) same (reached-root d is);
    root = λ e. has_true 1 0 refl;
    read = λ e i below gone names live. absurd (false≢true (sym gone ∙ all_unread e below));
    few = few_unread;
  }

  pub reaching-none : kind_of d 0 ≢ 2 → Reaching d 0 0xFFFF
  reaching-none is_not = record {
    sound = λ i there. absurd (none_in_empty i (from_has 0 i there));
    root = λ e. absurd (is_not e);
    read = λ e i below gone names live. absurd (false≢true (sym gone ∙ all_unread e below));
    few = few_unread;
  }

  -- the entries of one inode more
  pub reaching-step : (reached unread dir rest named : ℕ) → has reached dir ≡ true → IsWithout unread dir rest
      → IsNamedBy d dir named → Reaching d reached unread → Reaching d (bit_or reached named) rest
  reaching-step reached unread dir rest named there without by old = record {
    sound = λ i t. elim (in_or_cases reached named i (from_has (bit_or reached named) i t)) [
      | inl before ↦ old.sound i (has_true reached i before)
      | inr more ↦
          let parts = and_parts (is_live d i) (has_entry_to d dir i) (sym (by i) ∙ has_true named i more) in
          reached-step d dir i (old.sound dir there) parts.1 parts.0
    ];
    root = λ e. has_true (bit_or reached named) 0 (in_or_left reached named 0 (from_has reached 0 (old.root e)));
    read = λ e i below gone names live. elim (cases_eq e dir) [
      | inl same ↦ has_true (bit_or reached named) i (in_or_right reached named i (from_has named i
          (by i ∙ both_true (is_live d i) (has_entry_to d dir i) live
          (subst (λ (x : ℕ). has_entry_to d x i ≡ true) same names))))
      | inr other ↦
          let before : has unread e ≡ false = has_false unread e
          (λ is. false≢true (sym gone ∙ has_true rest e ((without.others e other).1 is))) in
          has_true (bit_or reached named) i (in_or_left reached named i
          (from_has reached i (old.read e i below before names live)))
    ];
    few = λ i t. elim (cases_eq i dir) [
      | inl same ↦ absurd (without.gone (subst (Has rest) same (from_has rest i t)))
      | inr other ↦ old.few i (has_true unread i ((without.others i other).0 (from_has rest i t)))
    ];
  }

  pub reached-below : (i : ℕ) → is_reached d i ≡ true → i < 16
  reached-below i is = reached-least d (λ (j : ℕ). j < 16) (λ e. omega arith)
      (λ dir j below names live. live-below d j live) i is

  -- nothing that is reached is unread
  pub reached-all : (reached unread : ℕ) → bit_and reached unread ≡ 0 → Reaching d reached unread → IsReachOf d reached
  reached-all reached unread none all i = same_test (has reached i) (is_reached d i) (all.sound i)
      (reached-least d (λ (j : ℕ). has reached j ≡ true) all.root
      (λ e j is names live. all.read e j (reached-below e (all.sound e is)) (all_read reached unread none e is) names
      live) i)

-- ---- the directories that have been passed

-- a directory without a block
abbrev pub is_bare : Disk → ℕ → Bool
is_bare d inode = kind_of d inode == 2 && pointer_of d inode 0 == 0

module _ (d : Disk) where
  -- the directories below a number
  abbrev pub AreDirectoriesBelow : ℕ → ℕ → Type 0
  AreDirectoriesBelow n inodes = (i : ℕ) → (Has inodes i ↔ ((i < n) × (kind_of d i ≡ 2)))

  pub directories-start : AreDirectoriesBelow 0 0
  directories-start i = (λ is. absurd (none_in_empty i is), λ both. absurd (omega (arith, both.0)))

  pub directories-one : (n inodes : ℕ) → kind_of d n ≡ 2 → AreDirectoriesBelow n inodes
      → AreDirectoriesBelow (n + 1) (with_id inodes n)
  directories-one n inodes is old i = (
    λ there. elim (in_with_cases inodes n i there) [
      | inl same ↦ (omega (arith, same), subst (λ (j : ℕ). kind_of d j ≡ 2) (sym same) is)
      | inr before ↦ let both = (old i).0 before in (omega (arith, both.0), both.1)
    ],
    λ both. elim (cases_eq i n) [
      | inl same ↦ subst (λ (j : ℕ). Has (with_id inodes n) j) (sym same) (in_with_same inodes n)
      | inr other ↦ in_with_old inodes n i ((old i).1 (omega (arith, both.0), both.1))
    ],
  )

  pub directories-none : (n inodes : ℕ) → kind_of d n ≢ 2 → AreDirectoriesBelow n inodes
      → AreDirectoriesBelow (n + 1) inodes
  directories-none n inodes is_not old i = (
    λ there. let both = (old i).0 there in (omega (arith, both.0), both.1),
    λ both. elim (cases_eq i n) [
      | inl same ↦ absurd (is_not (subst (λ (j : ℕ). kind_of d j ≡ 2) same both.1))
      | inr other ↦ (old i).1 (omega (arith, both.0), both.1)
    ],
  )

  -- the sets that the inodes below a number name, and zeros after them
  pub record AreNamedBelow (n : ℕ) (named : List ℕ) : Type 0 where
    pub size : length named ≡ 16
    pub before : (e : ℕ) → e < n → IsNamedBy d e (get_or named e 0)
    pub behind : (e : ℕ) → n ≤ e → get_or named e 0 ≡ 0

  pub sets-start : AreNamedBelow 0 (replicate 16 0)
  sets-start = record {
    size = length-replicate {A = ℕ} 16 0;
    before = λ e below. absurd (omega arith);
    behind = λ e above. zeros e;
  }
    where
      zeros : (e : ℕ) → get_or {A = ℕ} (replicate {A = ℕ} 16 0) e 0 ≡ 0
      zeros e = elim (cases_lt e 16) [
        | inl below ↦ get_or-replicate {A = ℕ} 16 e 0 0 below
        | inr above ↦ get_or_past (replicate 16 0) e 0 (omega (arith, length-replicate {A = ℕ} 16 0))
      ]

  pub sets-one : (n set_of : ℕ) (named : List ℕ) → n < 16 → IsNamedBy d n set_of → AreNamedBelow n named
      → AreNamedBelow (n + 1) (set named n set_of)
  sets-one n set_of named below is old = record {
    size = length-set named n set_of ∙ old.size;
    before = λ e less. elim (cases_eq e n) [
      | inl same ↦ subst (λ (j : ℕ). IsNamedBy d j (get_or (set named n set_of) j 0)) (sym same)
          (subst (λ (s : ℕ). IsNamedBy d n s) (sym (get_or-set_same named n set_of 0 (omega (arith, old.size)))) is)
      | inr other ↦ subst (λ (s : ℕ). IsNamedBy d e s) (sym (get_or-set_other named n e set_of 0 other))
          (old.before e (omega arith))
    ];
    behind = λ e above. get_or-set_other named n e set_of 0 (λ same. omega (arith, same)) ∙ old.behind e (omega arith);
  }

  pub sets-none : (n : ℕ) (named : List ℕ) → counts d n ≡ false → AreNamedBelow n named → AreNamedBelow (n + 1) named
  sets-none n named not_so old = record {
    size = old.size;
    before = λ e less. elim (cases_eq e n) [
      | inl same ↦ subst (λ (j : ℕ). IsNamedBy d j (get_or named j 0)) (sym same)
          (subst (λ (s : ℕ). IsNamedBy d n s) (sym (old.behind n (omega arith))) (named-uncounted d n not_so))
      | inr other ↦ old.before e (omega arith)
    ];
    behind = λ e above. old.behind e (omega arith);
  }

-- ---- nothing is lost

module _ (d : Disk) (kept reached : ℕ) (few : kept < 2 ^ 16) (by : IsReachOf d reached) where
  not_lost : (i : ℕ) → IsSubset kept reached → is_lost d kept i ≡ false
  not_lost i within = elim (cases_Bool (has kept i)) [
    | inl is ↦ rw (is, sym (by i) ∙ has_true reached i (within i (from_has kept i is))) refl
    | inr is_not ↦ rw is_not refl
  ]

  three : (a b c : Bool) → (a ≡ true → (b && c) ≡ false) → ((a && b) && c) ≡ false
  three true b c e = e refl
  three false b c e = refl

  loses_nothing_from : IsSubset kept reached → ((i : ℕ) → has reached i ≡ true → is_bare d i ≡ false)
      → LosesNothing kept d
  loses_nothing_from within blocks = record {
    no_lost = λ i below. not_lost i within;
    no_bare = λ i below. three (is_reached d i) (kind_of d i == 2) (pointer_of d i 0 == 0) (λ is. blocks i (by i ∙ is));
  }

  subset_from : LosesNothing kept d → IsSubset kept reached
  subset_from loses i is = from_has reached i (by i ∙ elim (cases_Bool (is_reached d i)) [
    | inl there ↦ there
    | inr gone ↦ absurd (false≢true (sym (loses.no_lost i (below_from_small kept 16 i few is))
        ∙ rw (has_true kept i is, gone) refl))
  ])

-- ---- the directories that are reached and have a block

pub record Walking (d : Disk) (reached unread : ℕ) : Type 0 where
  pub reaching : Reaching d reached unread
  pub directories : (i : ℕ) → has unread i ≡ true → kind_of d i ≡ 2
  pub well : (i : ℕ) → i < 16 → has unread i ≡ false → is_bare d i ≡ false

module _ (d : Disk) where
  pub counts-directory : (e : ℕ) → kind_of d e ≢ 2 → counts d e ≡ false
  counts-directory e is_not = rw (ne_eqb (kind_of d e) 2 is_not) refl

  names_none : (e i : ℕ) → kind_of d e ≢ 2 → has_entry_to d e i ≡ false
  names_none e i is_not = uncounted d e (counts-directory e is_not) (range_with_len 0 10) i

  -- what is no directory has no entries to be read
  pub walking-start : (reached inodes : ℕ) → AreDirectoriesBelow d 16 inodes → Reaching d reached 0xFFFF
      → Walking d reached inodes
  walking-start reached inodes are old = record {
    reaching = record {
      sound = old.sound;
      root = old.root;
      read = λ e i below gone names live. absurd (false≢true
          (sym (names_none e i (no_directory e below gone)) ∙ names));
      few = λ i is. ((are i).0 (from_has inodes i is)).0;
    };
    directories = λ i is. ((are i).0 (from_has inodes i is)).1;
    well = λ i below gone. rw (ne_eqb (kind_of d i) 2 (no_directory i below gone)) refl;
  }
    where
      no_directory : (e : ℕ) → e < 16 → has inodes e ≡ false → kind_of d e ≢ 2
      no_directory e below gone is = false≢true (sym gone ∙ has_true inodes e ((are e).1 (below, is)))

  pub walking-below : (reached unread dir : ℕ) → Has (bit_and reached unread) dir → Walking d reached unread → dir < 16
  walking-below reached unread dir there all = all.reaching.few dir
      (has_true unread dir (and_in reached unread dir there).1)

  -- a directory more
  pub walking-step : (reached unread dir rest named : ℕ) → Has (bit_and reached unread) dir → IsWithout unread dir rest
      → pointer_of d dir 0 ≢ 0
      → IsNamedBy d dir named → Walking d reached unread → Walking d (bit_or reached named) rest
  walking-step reached unread dir rest named there without some by old = record {
    reaching = reaching-step d reached unread dir rest named (has_true reached dir (and_in reached unread dir there).0)
        without by old.reaching;
    directories = λ i is. elim (cases_eq i dir) [
      | inl same ↦ absurd (without.gone (subst (Has rest) same (from_has rest i is)))
      | inr other ↦ old.directories i (has_true unread i ((without.others i other).0 (from_has rest i is)))
    ];
    well = λ i below gone. elim (cases_eq i dir) [
      | inl same ↦ subst (λ (j : ℕ). is_bare d j ≡ false) (sym same)
          (rw (ne_eqb (pointer_of d dir 0) 0 some) (and_right (kind_of d dir == 2) false refl))
      | inr other ↦ old.well i below (has_false unread i (λ is.
          false≢true (sym gone ∙ has_true rest i ((without.others i other).1 is))))
    ];
  }

  pub walked : (kept reached unread : ℕ) → kept < 2 ^ 16 → bit_and reached unread ≡ 0 → Walking d reached unread
      → (IsSubset kept reached ↔ LosesNothing kept d)
  walked kept reached unread few none all = (
    λ within. loses_nothing_from d kept reached few by within
        (λ i is. all.well i (reached-below d i (all.reaching.sound i is)) (all_read reached unread none i is)),
    subset_from d kept reached few by,
  )
    where
      by : IsReachOf d reached
      by = reached-all d reached unread none all.reaching

  -- a directory without one
  pub bare_found : (kept reached unread dir : ℕ) → Has (bit_and reached unread) dir → pointer_of d dir 0 ≡ 0
      → Walking d reached unread → LosesNothing kept d → ⊥
  bare_found kept reached unread dir there none all loses =
      let both = and_in reached unread dir there in
      let is = all.reaching.sound dir (has_true reached dir both.0) in
      let kind = all.directories dir (has_true unread dir both.1) in
      false≢true (sym (loses.no_bare dir (reached-below d dir is))
      ∙ rw (is, eq-eqb (kind_of d dir) 2 kind, eq-eqb (pointer_of d dir 0) 0 none) refl)

-- ---- with the six faults

pub strict_two : (d : Disk) (kept : ℕ) (old lost now : List Fault) → lost ≡ old ++ some_below 16 (lost_at kept d)
    → now ≡ lost ++ some_below 16 (bare_at d) → now ≡ old ++ strict_faults kept d
unfolding strict_faults
strict_two d kept old lost now first second =
    second ∙ (ap (λ (xs : List Fault). xs ++ some_below 16 (bare_at d)) first
    ∙ append_assoc old (some_below 16 (lost_at kept d)) (some_below 16 (bare_at d)))
