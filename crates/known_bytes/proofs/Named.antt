-- The inodes that are reached, on all disks of a family.
use Rattle.std.proofs.Common.{◌≡◌, ℕ, ◌+◌, ◌<◌, ◌⊎◌, inl, inr, List, [], ◌∷◌, ◌++◌, map, zero, suc, Bool, true, false}
use Rattle.std.proofs.Common.{◌&&◌, ◌||◌}
use Rattle.std.proofs.Common.{arith, tests, refl, sym, ◌∙◌, ap, subst, length, get_or, set}
use Rattle.std.specs.Prelude.{◌==◌, nat_le, bit_and, Result, Ok, Err, IfErr}
use Rattle.std.specs.List.{list_any, range_with_len}
use Rattle.std.specs.Prelude.{option_to_list}
use Rattle.std.proofs.lemmas.List.Folds.{list_any-append}
use Rattle.std.proofs.lemmas.List.FromFn.{map-range_with_len_more}
use Rattle.crash_model.specs.Lists.{when}
use Rattle.crash_model.specs.Faults.{leads_to}
use Rattle.known_bytes.specs.Counts.{entries_in, entry_at}
use Rattle.known_bytes.proofs.Counted.{count_none, count_more}
use Rattle.std.proofs.lemmas.Bool.{cases_eq, false≢true, and_parts, eq-eqb}
use Rattle.std.proofs.lemmas.List.{get_or-set_same, get_or-set_other}
use Rattle.std.proofs.lemmas.Nat.Bits.{bit_at_ones}
use Rattle.patch_sets.specs.Sets.{Has, has, with_id}
use Rattle.patch_sets.specs.Ends.{IsWithout}
use Rattle.patch_sets.proofs.Bits.{none_in_empty, in_with_same, in_with_cases, in_with_old, below_from_small}
use Rattle.patch_sets.proofs.Ids.{has_true, from_has}
use Rattle.journal_replay.proofs.Targets.{bool_is}
use Rattle.crash_model.specs.Disk.{Disk}
use Rattle.crash_model.specs.Patches.{image_of}
use Rattle.crash_model.specs.Layout.{kind_of, is_live}
use Rattle.crash_model.specs.Strict.{has_entry_to, is_reached}
use Rattle.crash_model.proofs.Reached.{reached-root, reached-step, reached-least}
use Rattle.fs_check.proofs.Entries.{live-below}
use Rattle.known_bytes.specs.Family.{IsUndecided}
use Rattle.known_bytes.proofs.Undecided.{and_both}
use Rattle.known_bytes.specs.Reading.{Reading, InEachDisk, IsKnown, disk_of}
use Rattle.known_bytes.specs.Reached.{names_live, IsReach, ReachesNoOther, NamesNoOther}

module _ (r : Reading) where
  abbrev the_disk : ℕ → Disk
  the_disk set = disk_of r (image_of r.family.base r.family.patches set)

  -- ---- what is reached so far

  pub reach_starts : InEachDisk r (λ d. kind_of d 0 ≡ 2) → (asks : List ℕ) → IsReach r 1 1 asks
  reach_starts root asks = record {
    sound = λ inode there set m. subst (λ (i : ℕ). is_reached (the_disk set) i ≡ true) (sym (only inode there))
        (reached-root (the_disk set) (root set m));
    within = λ inode there. there;
    few = λ inode there. let is = only inode there in omega arith;
    asked = λ inode there not_sure. absurd (not_sure there);
  }
    where
      only : (inode : ℕ) → Has 1 inode → inode ≡ 0
      only inode there = let below : inode < 1 = below_from_small 1 1 inode (omega arith) there in omega arith

  module _ (sure may inode : ℕ) (asks : List ℕ) (low : inode < 16) (old : IsReach r sure may asks) where
    pub reach_surely : InEachDisk r (λ d. is_reached d inode ≡ true)
        → IsReach r (with_id sure inode) (with_id may inode) asks
    reach_surely reached = record {
      sound = λ i there. elim (in_with_cases sure inode i there) [
        | inl same ↦ subst (λ (j : ℕ). InEachDisk r (λ d. is_reached d j ≡ true)) (sym same) reached
        | inr before ↦ old.sound i before
      ];
      within = λ i there. elim (in_with_cases sure inode i there) [
        | inl same ↦ subst (λ (j : ℕ). Has (with_id may inode) j) (sym same) (in_with_same may inode)
        | inr before ↦ in_with_old may inode i (old.within i before)
      ];
      few = λ i there. elim (in_with_cases may inode i there) [
        | inl same ↦ omega arith
        | inr before ↦ old.few i before
      ];
      asked = λ i there not_sure. elim (in_with_cases may inode i there) [
        | inl same ↦ absurd (not_sure (subst (λ (j : ℕ). Has (with_id sure inode) j) (sym same)
            (in_with_same sure inode)))
        | inr before ↦ old.asked i before (λ is. not_sure (in_with_old sure inode i is))
      ];
    }

    pub reach_openly : (ask : ℕ) → length asks ≡ 16 → ¬ (Has may inode) → IsUndecided r.family ask
        → IsReach r sure (with_id may inode) (set asks inode ask)
    reach_openly ask long new_one undecided = record {
      sound = old.sound;
      within = λ i there. in_with_old may inode i (old.within i there);
      few = λ i there. elim (in_with_cases may inode i there) [
        | inl same ↦ omega arith
        | inr before ↦ old.few i before
      ];
      asked = λ i there not_sure. elim (cases_eq i inode) [
        | inl same ↦ subst (λ (a : ℕ). IsUndecided r.family a)
            (sym (ap (λ (j : ℕ). get_or (set asks inode ask) j 0) same
            ∙ get_or-set_same asks inode ask 0 (omega (arith, long)))) undecided
        | inr other ↦ elim (in_with_cases may inode i there) [
          | inl same ↦ absurd (other same)
          | inr before ↦ subst (λ (a : ℕ). IsUndecided r.family a)
              (sym (get_or-set_other asks inode i ask 0 other)) (old.asked i before not_sure)
        ]
      ];
    }

    -- an entry of a directory that each disk reaches
    pub reached_by : (dir : ℕ) → Has sure dir → InEachDisk r (λ d. names_live dir inode d ≡ true)
        → InEachDisk r (λ d. is_reached d inode ≡ true)
    reached_by dir there named set m =
        let d : Disk = the_disk set in
        let parts = and_parts (is_live d inode) (has_entry_to d dir inode) (named set m) in
        reached-step d dir inode (old.sound dir there set m) parts.1 parts.0

  -- ---- the entries of one directory

  -- of the first n inodes, those that its entries lead to are in the set, which has only grown
  pub record IsReading (dir n before sure may : ℕ) (asks : List ℕ) : Type 0 where
    pub reach : IsReach r sure may asks
    pub grown : (id : ℕ) → Has before id → Has may id
    pub read : (i : ℕ) → i < n → ¬ (Has may i) → InEachDisk r (λ d. names_live dir i d ≡ false)

  module _ (dir n before sure may : ℕ) (asks : List ℕ) (old : IsReading dir n before sure may asks) where
    pub reading_on : Has may n → IsReading dir (n + 1) before sure may asks
    reading_on there = record {
      reach = old.reach;
      grown = old.grown;
      read = λ i less outside. elim (cases_eq i n) [
        | inl same ↦ absurd (outside (subst (λ (k : ℕ). Has may k) (sym same) there))
        | inr other ↦ old.read i (omega arith) outside
      ];
    }

    pub reading_add : (surely more : ℕ) (asked : List ℕ) (named : Result Bool ℕ) → IsReach r surely more asked
        → ((id : ℕ) → Has may id → Has more id) → ((named ≡ Ok false) ⊎ Has more n) → IsKnown r (names_live dir n) named
        → IsReading dir (n + 1) before surely more asked
    reading_add surely more asked named reach grown added known = record {
      reach = reach;
      grown = λ id there. grown id (old.grown id there);
      read = λ i less outside. elim (cases_eq i n) [
        | inl same ↦ elim added [
          | inl none ↦ subst (λ (k : ℕ). InEachDisk r (λ d. names_live dir k d ≡ false)) (sym same)
              (subst (λ (a : Result Bool ℕ). IsKnown r (names_live dir n) a) none known)
          | inr there ↦ absurd (outside (subst (λ (k : ℕ). Has more k) (sym same) there))
        ]
        | inr other ↦ old.read i (omega arith) (λ there. outside (grown i there))
      ];
    }

  -- ---- whose entries have been read

  -- no entry of a directory that was read leads outside the set
  pub record HasRead (may unread : ℕ) : Type 0 where
    pub root : Has may 0
    pub left : (inode : ℕ) → Has unread inode → inode < 16
    pub read : (dir : ℕ) → dir < 16 → ¬ (Has unread dir) → NamesNoOther r dir may

  all_unread : (i : ℕ) → i < 16 → Has 0xFFFF i
  all_unread i less = from_has 0xFFFF i (sixteen i less)
    where
      sixteen : (i : ℕ) → i < 16 → has 0xFFFF i ≡ true
      sixteen i less = has_true 0xFFFF i (bit_at_ones 16 i less)

  pub read_starts : HasRead 1 0xFFFF
  read_starts = record {
    root = from_has 1 0 refl;
    left = λ i is. below_from_small 0xFFFF 16 i (omega arith) is;
    read = λ dir less gone. absurd (gone (all_unread dir less));
  }

  pub read_more : (may more unread rest dir : ℕ) → IsWithout unread dir rest
      → ((i : ℕ) → Has may i → Has more i) → NamesNoOther r dir more → HasRead may unread → HasRead more rest
  read_more may more unread rest dir without grown new old = record {
    root = grown 0 old.root;
    left = λ i is. elim (cases_eq i dir) [
      | inl same ↦ absurd (without.gone (subst (λ (j : ℕ). Has rest j) same is))
      | inr other ↦ old.left i ((without.others i other).0 is)
    ];
    read = λ e less gone. elim (cases_eq e dir) [
      | inl same ↦ subst (λ (j : ℕ). NamesNoOther r j more) (sym same) new
      | inr other ↦ λ inode outside. old.read e less (λ is. gone ((without.others e other).1 is)) inode
          (λ is. outside (grown inode is))
    ];
  }

  pub reached_all : (may unread : ℕ) → bit_and may unread ≡ 0 → ((i : ℕ) → Has may i → i < 16) → HasRead may unread
      → ReachesNoOther r may
  reached_all may unread none few all inode outside set m =
      let d : Disk = the_disk set in
      elim (bool_is (is_reached d inode)) [
        | inl is ↦ absurd (outside (from_has may inode (reached-least d (λ (j : ℕ). has may j ≡ true)
            (λ e. has_true may 0 all.root)
            (λ e j there names live. elim (bool_is (has may j)) [
              | inl inside ↦ inside
              | inr gone ↦
                  let e_in : Has may e = from_has may e there in
                  let j_out : (Has may j → ⊥) = λ h. false≢true (sym gone ∙ has_true may j h) in
                  let no = all.read e (few e e_in) (not_left e e_in) j j_out set m in
                  absurd (false≢true (sym no ∙ both_true (is_live d j) (has_entry_to d e j) live names))
            ]) inode is)))
        | inr never ↦ never
      ]
    where
      both_true : (a b : Bool) → a ≡ true → b ≡ true → (a && b) ≡ true
      both_true a b e f = rw (e, f) refl

      not_left : (e : ℕ) → Has may e → Has unread e → ⊥
      not_left e there is = none_in_empty e (subst (λ (s : ℕ). Has s e) none ((and_both may unread e).1 (there, is)))

  -- nothing is reached where the root is no directory
  pub reached_none : (inode : ℕ) → InEachDisk r (λ d. (kind_of d 0 == 2) ≡ false)
      → InEachDisk r (λ d. is_reached d inode ≡ false)
  reached_none inode root set m =
      let d : Disk = the_disk set in
      elim (bool_is (is_reached d inode)) [
        | inl is ↦ absurd (reached-least d (λ (j : ℕ). ⊥)
            (λ e. false≢true (sym (root set m) ∙ eq-eqb (kind_of d 0) 2 e)) (λ e j there. absurd there) inode is)
        | inr never ↦ never
      ]

-- ---- entries of one directory

range_more : (n : ℕ) → range_with_len 0 (n + 1) ≡ range_with_len 0 n ++ n ∷ []
range_more n = sym (map_same (range_with_len 0 (n + 1)))
    ∙ (map-range_with_len_more (λ (k : ℕ). k) 0 n n (omega arith)
    ∙ ap (λ (xs : List ℕ). xs ++ n ∷ []) (map_same (range_with_len 0 n)))
  where
    map_same : (xs : List ℕ) → map (λ k. k) xs ≡ xs
    map_same [] = refl
    map_same (x ∷ xs) = ap (λ (ys : List ℕ). x ∷ ys) (map_same xs)

or_false : (a b : Bool) → b ≡ false → (a || b) ≡ a
or_false true b e = refl
or_false false b e = e

any_more : (p : ℕ → Bool) (n : ℕ) → list_any p (range_with_len 0 (n + 1)) ≡ (list_any p (range_with_len 0 n) || p n)
any_more p n = ap (list_any p) (range_more n) ∙ (list_any-append p (range_with_len 0 n) (n ∷ [])
    ∙ ap (λ (b : Bool). list_any p (range_with_len 0 n) || b) (or_false (p n) false refl))

-- there is an entry where there is at least one
some_more : (before after : ℕ) → after ≡ before + 1 → nat_le 1 after ≡ (nat_le 1 before || true)
some_more before after is = grind (arith, tests)

none_more : (before after : ℕ) → after ≡ before + 0 → nat_le 1 after ≡ (nat_le 1 before || false)
none_more before after is = grind (arith, tests)

one_more : (b : Bool) (x : ℕ × ℕ) (before after : ℕ) → after ≡ before + length (option_to_list (when b x))
    → nat_le 1 after ≡ (nat_le 1 before || b)
one_more true x before after is = some_more before after is
one_more false x before after is = none_more before after is

module _ (d : Disk) (dir inode : ℕ) where
  there_next : (n : ℕ) → nat_le 1 (entries_in n d inode dir) ≡ list_any (λ k. leads_to d dir k inode)
      (range_with_len 0 n)
      → nat_le 1 (entries_in (n + 1) d inode dir) ≡ list_any (λ k. leads_to d dir k inode) (range_with_len 0 (n + 1))
  there_next n before =
      one_more (leads_to d dir n inode) (dir, n) (entries_in n d inode dir) (entries_in (n + 1) d inode dir)
      (count_more n (entry_at d inode dir))
      ∙ (ap (λ (b : Bool). b || leads_to d dir n inode) before ∙ sym (any_more (λ k. leads_to d dir k inode) n))

  there_below : (n : ℕ) → nat_le 1 (entries_in n d inode dir) ≡ list_any (λ k. leads_to d dir k inode)
      (range_with_len 0 n)
  there_below zero = ap (λ (c : ℕ). nat_le 1 c) (count_none (entry_at d inode dir))
  there_below (suc n) =
      let next : n + 1 ≡ suc n = omega arith in
      subst (λ (m : ℕ). nat_le 1 (entries_in m d inode dir) ≡ list_any (λ k. leads_to d dir k inode)
      (range_with_len 0 m))
      next (there_next n (there_below n))

pub entry_there : (d : Disk) (dir inode : ℕ) → nat_le 1 (entries_in 10 d inode dir) ≡ has_entry_to d dir inode
entry_there d dir inode = there_below d dir inode 10

-- no entry leads to an inode past the sixteenth
pub few_live : (r : Reading) (dir inode : ℕ) → ¬ (inode < 16) → InEachDisk r (λ d. names_live dir inode d ≡ false)
few_live r dir inode high set m =
    let d : Disk = disk_of r (image_of r.family.base r.family.patches set) in
    elim (bool_is (names_live dir inode d)) [
      | inl is ↦ absurd (high (live-below d inode (and_parts (is_live d inode) (has_entry_to d dir inode) is).0))
      | inr never ↦ never
    ]

-- an undecided patch has a small number
pub known_few : (r : Reading) (P : Disk → Bool) (answer : Result Bool ℕ) → length r.family.patches < 128
    → IsKnown r P answer → IfErr answer (λ id. id < 128)
known_few r P (Ok b) few known = record {}
known_few r P (Err id) few known = let less = known.known in omega arith
