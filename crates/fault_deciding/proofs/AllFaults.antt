-- The lists of the kinds hold all faults.
use Rattle.std.proofs.Common.{◌≡◌, ℕ, ◌<◌, ◌≤◌, List, length, Bool, true, false, ◌&&◌, not, Option, Some, None}
use Rattle.std.proofs.Common.{arith, tests, refl, sym, ap, subst, ◌∙◌, ◌⊎◌, inl, inr, ◌||◌, [], ◌∷◌}
use Rattle.std.specs.Prelude.{◌==◌, nat_lt, slice_index}
use Rattle.std.specs.List.{Contains}
use Rattle.std.proofs.lemmas.List.Elements.{Contains-append_cases, All-head, All-tail}
use Rattle.patch_sets.specs.Sets.{has}
use Rattle.patch_sets.proofs.Ids.{eq_from_true, from_has}
use Rattle.crash_model.specs.Disk.{Disk}
use Rattle.crash_model.specs.Layout.{target_of, links_of, pointer_of, is_data, is_live}
use Rattle.crash_model.specs.Faults.{entries_to}
use Rattle.crash_model.specs.Checker.{Demands, promised, all_faults, faults_under, counted_among}
use Rattle.crash_model.specs.Promises.{Promise, breaks_line, is_broken}
use Rattle.crash_model.specs.BrokenLines.{broken_lines}
use Rattle.crash_model.specs.Faults.{is_dangling, has_low_links}
use Rattle.crash_model.specs.declared.fault.Fault.{Fault}
use Rattle.crash_model.specs.declared.fault.Fault.TheVariants.{Dangling, Twice, Unwritten, LowLinks, MarkedFree, Wild}
use Rattle.crash_model.specs.declared.fault.Fault.TheVariants.{Lost, NoBlock, HalfDone, BrokenPromise}
use Rattle.known_bytes.specs.Texts.{lost_there, bare_there, half_done_there, has_fault}
use Rattle.known_bytes.specs.SetFaults.{set_has_fault}
use Rattle.known_bytes.proofs.ListedFaults.{HasSmallTargets, disk_faults, disk_there, twice_data}
use Rattle.known_bytes.proofs.ListedSets.{all_there_of, from_broken, in_counted, from_counted}
use Rattle.fault_deciding.specs.Listed.{IsWithin, HasDangling, AreMost, HasFaultsOf, HasSlot, HasTwice, HasLow}
use Rattle.fault_deciding.specs.Listed.{HasStrictUnder, HasHalfDone, HasPromised}
use Rattle.fault_deciding.proofs.Pushed.{then_within, dangling_more, twice_more, slots_more, low_more}
use Rattle.fault_deciding.proofs.Tests.{below_is, left_of, right_of, not_of, some_of}

-- ---- the faults of one disk

-- the list has the faults of each kind
pub record IsListed (demands : Demands) (faults : List Fault) (named : List ℕ) (d : Disk) : Type 0 where
  pub dangling : (dir k : ℕ) → dir < 16 → k < 10 → HasDangling faults dir k d
  pub most : AreMost named d
  pub twice : HasTwice faults d
  pub slots : (inode slot : ℕ) → inode < 16 → slot < 4 → HasFaultsOf faults inode slot d
  pub low : (inode : ℕ) → inode < 16 → HasLow faults inode (slice_index named inode) d
  pub strict : HasStrictUnder demands.kept faults
  pub half_done : HasHalfDone demands.disks faults
  pub promises : HasPromised (promised demands.promises) faults

-- what a list has of the two faults of a strict checker a longer one has
strict_more : (kept : Option ℕ) (g h : List Fault) → IsWithin g h → HasStrictUnder kept g → HasStrictUnder kept h
strict_more None g h within strict = tt
strict_more (Some kept) g h within strict = λ inode few. record {
  lost = λ is. within (Lost inode) ((strict inode few).lost is);
  bare = within (NoBlock inode) (strict inode few).bare;
}

-- what a list has of whole operations a longer one has
half_done_more : (disks : Option (List Disk)) (h j : List Fault) → IsWithin h j → HasHalfDone disks h
    → HasHalfDone disks j
half_done_more None h j within half_done = tt
half_done_more (Some disks) h j within half_done = within HalfDone half_done

-- lists, each within the next, that have the faults of a kind more
pub listed_by_parts : (demands : Demands) (most : List ℕ) (d : Disk) (a b c e g h j : List Fault)
    → ((dir k : ℕ) → dir < 16 → k < 10 → HasDangling a dir k d) → AreMost most d
    → IsWithin a b → HasTwice b d
    → IsWithin b c → ((inode slot : ℕ) → inode < 16 → slot < 4 → HasFaultsOf c inode slot d)
    → IsWithin c e → ((inode : ℕ) → inode < 16 → HasLow e inode (slice_index most inode) d)
    → IsWithin e g → HasStrictUnder demands.kept g
    → IsWithin g h → HasHalfDone demands.disks h
    → IsWithin h j → HasPromised (promised demands.promises) j
    → IsListed demands j most d
listed_by_parts demands most d a b c e g h j dangling count ab twice bc slots ce low eg strict gh half_done hj promises
    =
    let gj : IsWithin g j = then_within g h j hj gh in
    let ej : IsWithin e j = then_within e g j gj eg in
    let cj : IsWithin c j = then_within c e j ej ce in
    let bj : IsWithin b j = then_within b c j cj bc in
    let aj : IsWithin a j = then_within a b j bj ab in
    record {
      dangling = λ dir k few less. dangling_more a j aj dir k d (dangling dir k few less);
      most = count;
      twice = twice_more b j bj d twice;
      slots = λ inode slot few less. slots_more c j cj inode slot d (slots inode slot few less);
      low = λ inode few. low_more e j ej inode (slice_index most inode) d (low inode few);
      strict = strict_more demands.kept g j gj strict;
      half_done = half_done_more demands.disks h j hj half_done;
      promises = promises;
    }

-- where the entries that dangle are listed each fault of a set is found by its text
pub found_by_text : (demands : Demands) (faults : List Fault) (set : ℕ) (d : Disk)
    → ((dir k : ℕ) → dir < 16 → k < 10 → HasDangling faults dir k d)
    → (fault : Fault) → Contains (faults_under demands set d) fault → set_has_fault demands set d fault ≡ true
found_by_text demands faults set d dangling fault h =
    let small : HasSmallTargets d = λ dir k few less is. (dangling dir k few less is).0 in
    all_there_of demands set d fault small h

-- ---- faults that are demanded not to hold

lost_in : (kept : Option ℕ) (faults : List Fault) (d : Disk) (inode : ℕ) → HasStrictUnder kept faults
    → lost_there kept d inode ≡ true → Contains faults (Lost inode)
lost_in None faults d inode strict h = absurd (cc)
lost_in (Some kept) faults d inode strict h =
    (strict inode (below_is inode 16 (left_of (nat_lt inode 16) _ h))).lost
    (from_has kept inode (left_of (has kept inode) _ (right_of (nat_lt inode 16) _ h)))

bare_in : (kept : Option ℕ) (faults : List Fault) (d : Disk) (inode : ℕ) → HasStrictUnder kept faults
    → bare_there kept d inode ≡ true → Contains faults (NoBlock inode)
bare_in None faults d inode strict h = absurd (cc)
bare_in (Some kept) faults d inode strict h = (strict inode (below_is inode 16 (left_of (nat_lt inode 16) _ h))).bare

half_done_in : (disks : Option (List Disk)) (faults : List Fault) (d : Disk) → HasHalfDone disks faults
    → half_done_there disks d ≡ true → Contains faults HalfDone
half_done_in None faults d listed h = absurd (cc)
half_done_in (Some disks) faults d listed h = listed

-- ---- all

module _ (demands : Demands) (faults : List Fault) (most : List ℕ) (d : Disk) (l : IsListed demands faults most d)
  where
    -- the slot of a pointer
    slot_of : (inode slot block : ℕ) → (nat_lt inode 16 && nat_lt slot 4) ≡ true
        → not (pointer_of d inode slot == 0) ≡ true
        → (pointer_of d inode slot == block) ≡ true → HasSlot faults inode slot block d
    slot_of inode slot block place some same =
        subst (λ (b : ℕ). HasSlot faults inode slot b d) (eq_from_true (pointer_of d inode slot) block same)
        (l.slots inode slot (below_is inode 16 (left_of (nat_lt inode 16) (nat_lt slot 4) place))
        (below_is slot 4 (right_of (nat_lt inode 16) (nat_lt slot 4) place)) (some_of (pointer_of d inode slot) some))

    has_dangling : (dir k inode : ℕ) → has_fault demands d (Dangling dir k inode) ≡ true
        → Contains faults (Dangling dir k inode)
    has_dangling dir k inode h =
        let place = left_of (nat_lt dir 16 && nat_lt k 10 && nat_lt inode 255) _ h in
        let is = right_of (nat_lt dir 16 && nat_lt k 10 && nat_lt inode 255) _ h in
        let p = two (nat_lt dir 16) (nat_lt k 10) (nat_lt inode 255) place in
        subst (λ (n : ℕ). Contains faults (Dangling dir k n))
        (eq_from_true (target_of d dir k) inode (right_of (is_dangling d dir k) _ is))
        (l.dangling dir k (below_is dir 16 p.0) (below_is k 10 p.1) (left_of (is_dangling d dir k) _ is)).1
      where
        two : (a b c : Bool) → (a && b && c) ≡ true → (a ≡ true) × (b ≡ true)
        two a b c h = (grind (arith, tests), grind (arith, tests))

    -- of a test of a pointer to the data area
    tame_at : (inode slot block : ℕ) (live more : Bool)
        → ((nat_lt inode 16 && nat_lt slot 4)
        && ((((live && not (pointer_of d inode slot == 0)) && is_data d (pointer_of d inode slot)) && more)
        && (pointer_of d inode slot == block))) ≡ true
        → (HasSlot faults inode slot block d) × (is_data d block ≡ true)
    tame_at inode slot block live more h =
        let place = left_of (nat_lt inode 16 && nat_lt slot 4) _ h in
        let rest = right_of (nat_lt inode 16 && nat_lt slot 4) _ h in
        let points = right_of (((live && not (pointer_of d inode slot == 0)) && is_data d (pointer_of d inode slot))
        && more)
        _ rest in
        let tame = left_of ((live && not (pointer_of d inode slot == 0)) && is_data d (pointer_of d inode slot)) more
        (left_of (((live && not (pointer_of d inode slot == 0)) && is_data d (pointer_of d inode slot)) && more) _
        rest) in
        let inside = right_of (live && not (pointer_of d inode slot == 0)) _ tame in
        let some = right_of live (not (pointer_of d inode slot == 0))
        (left_of (live && not (pointer_of d inode slot == 0)) _ tame) in (
          slot_of inode slot block place some points,
          ap (λ (b : ℕ). is_data d b) (sym (eq_from_true (pointer_of d inode slot) block points)) ∙ inside,
        )

    wild_at : (inode slot block : ℕ) (live : Bool)
        → ((nat_lt inode 16 && nat_lt slot 4)
        && (((live && not (pointer_of d inode slot == 0)) && not (is_data d (pointer_of d inode slot)))
        && (pointer_of d inode slot == block))) ≡ true
        → (HasSlot faults inode slot block d) × (is_data d block ≡ false)
    wild_at inode slot block live h =
        let place = left_of (nat_lt inode 16 && nat_lt slot 4) _ h in
        let rest = right_of (nat_lt inode 16 && nat_lt slot 4) _ h in
        let points = right_of ((live && not (pointer_of d inode slot == 0)) && not
        (is_data d (pointer_of d inode slot)))
        _ rest in
        let wild = left_of ((live && not (pointer_of d inode slot == 0)) && not (is_data d (pointer_of d inode slot)))
        _ rest in
        let other = right_of (live && not (pointer_of d inode slot == 0)) _ wild in
        let some = right_of live (not (pointer_of d inode slot == 0))
        (left_of (live && not (pointer_of d inode slot == 0)) _ wild) in (
          slot_of inode slot block place some points,
          ap (λ (b : ℕ). is_data d b) (sym (eq_from_true (pointer_of d inode slot) block points))
              ∙ not_of (is_data d (pointer_of d inode slot)) other,
        )

    has_low : (inode entries links : ℕ) → has_fault demands d (LowLinks inode entries links) ≡ true
        → Contains faults (LowLinks inode entries links)
    has_low inode entries links h =
        let few : inode < 16 = below_is inode 16 (left_of (nat_lt inode 16) _ h) in
        let is = right_of (nat_lt inode 16) _ h in
        let low = left_of (has_low_links d inode) _ is in
        let numbers = right_of (has_low_links d inode) _ is in
        let are : length (entries_to d inode) ≡ entries = eq_from_true (length (entries_to d inode)) entries
        (left_of (length (entries_to d inode) == entries) _ numbers) in
        let same : links_of d inode ≡ links = eq_from_true (links_of d inode) links
        (right_of (length (entries_to d inode) == entries) _ numbers) in
        let less : links_of d inode < length (entries_to d inode) =
        below_is (links_of d inode) (length (entries_to d inode))
        (right_of (is_live d inode) (nat_lt (links_of d inode) (length (entries_to d inode))) low) in
        let bound : length (entries_to d inode) ≤ slice_index most inode = l.most inode few in
        subst (λ (n : ℕ). Contains faults (LowLinks inode entries n)) same
        (l.low inode few entries (subst (λ (n : ℕ). links_of d inode < n) are less)
        (subst (λ (n : ℕ). n ≤ slice_index most inode) are bound))

    by_text : (fault : Fault) → has_fault demands d fault ≡ true → Contains faults fault
    by_text (Dangling dir k inode) h = has_dangling dir k inode h
    by_text (Twice block) h = l.twice block (twice_data d block h)
    by_text (Unwritten inode slot block) h = let t = tame_at inode slot block _ _ h in (t.0.tame t.1).unwritten
    by_text (LowLinks inode entries links) h = has_low inode entries links h
    by_text (MarkedFree inode slot block) h = let t = tame_at inode slot block _ _ h in (t.0.tame t.1).marked_free
    by_text (Wild inode slot block) h = let t = wild_at inode slot block _ h in t.0.wild t.1
    by_text (Lost inode) h = lost_in demands.kept faults d inode l.strict h
    by_text (NoBlock inode) h = bare_in demands.kept faults d inode l.strict h
    by_text HalfDone h = half_done_in demands.disks faults d l.half_done h
    by_text (BrokenPromise line) h = absurd (cc)

    -- a line of which a promise is broken is one of a promise
    promised_in : (set : ℕ) (promises : List Promise) (line : ℕ) → breaks_line promises set d line ≡ true
        → HasPromised promises faults → Contains faults (BrokenPromise line)
    promised_in set [] line is all = absurd (cc)
    promised_in set (p ∷ ps) line is all = elim (or_cases (p.line == line && is_broken p set d) _ is) [
      | inl here ↦ subst (λ (n : ℕ). Contains faults (BrokenPromise n))
          (eq_from_true p.line line (left_of (p.line == line) _ here))
          (All-head (λ (q : Promise). Contains faults (BrokenPromise q.line)) p ps all)
      | inr there ↦ promised_in set ps line there
          (All-tail (λ (q : Promise). Contains faults (BrokenPromise q.line)) p ps all)
    ]
      where
        or_cases : (a b : Bool) → (a || b) ≡ true → (a ≡ true) ⊎ (b ≡ true)
        or_cases true b h = inl refl
        or_cases false b h = inr h

    pub all_listed : (set : ℕ) (fault : Fault) → Contains (all_faults demands set d) fault → Contains faults fault
    all_listed set fault h =
        elim (Contains-append_cases (disk_faults demands d) (broken_lines (promised demands.promises) set d) fault h) [
          | inl disk ↦ by_text fault
              (disk_there demands d fault (λ dir k few less is. (l.dangling dir k few less is).0) disk)
          | inr promise ↦
              let it = from_broken (promised demands.promises) set d fault promise in
              subst (Contains faults) it.same (promised_in set (promised demands.promises) it.line it.breaks l.promises)
        ]

-- ---- those that count

pub counted_listed : (demands : Demands) (faults kept : List Fault) (set : ℕ) (d : Disk)
    → kept ≡ counted_among demands.counted faults
    → ((fault : Fault) → Contains (all_faults demands set d) fault → Contains faults fault)
    → (fault : Fault) → Contains (faults_under demands set d) fault → Contains kept fault
counted_listed demands faults kept set d is all fault h =
    let parts = from_counted fault (all_faults demands set d) demands.counted h in
    subst (λ (fs : List Fault). Contains fs fault) (sym is)
    (in_counted fault faults demands.counted parts.0 (all fault parts.1))
