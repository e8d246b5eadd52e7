-- The faults listed so far of slots, links and blocks.
use Rattle.std.proofs.Common.{◌≡◌, ℕ, ◌+◌, ◌<◌, ◌≤◌, inl, inr, List, [], ◌∷◌, ◌++◌, true, ◌&&◌}
use Rattle.std.proofs.Common.{arith, tests, sym, ap, subst, ◌∙◌}
use Rattle.std.specs.Prelude.{nat_le, nat_lt, slice_index}
use Rattle.std.specs.List.{Contains}
use Rattle.std.proofs.lemmas.Bool.{cases_eq}
use Rattle.crash_model.specs.Disk.{Disk}
use Rattle.crash_model.specs.Layout.{pointer_of, links_of, is_data}
use Rattle.crash_model.specs.Patches.{image_of}
use Rattle.crash_model.specs.Replay.{image_after_replay}
use Rattle.crash_model.specs.declared.fault.Fault.{Fault}
use Rattle.crash_model.specs.declared.fault.Fault.TheVariants.{LowLinks, Twice}
use Rattle.known_bytes.specs.Family.{Family, InEach, IsLike, HasValue}
use Rattle.fault_deciding.specs.Listed.{InEachReplayed, IsWithin, HasSlot, HasFaultsOf, HasTwice, HasLow, HasStrict}
use Rattle.fault_deciding.proofs.Pushed.{slot_more, slots_more, then_within, low_more, strict_more, pushed_has}
use Rattle.fault_deciding.proofs.Pushed.{pushed_keeps}

-- each disk has the data area of the base
pub same_area : (f : Family) → InEach f (IsLike f.base) → (block : ℕ)
    → InEachReplayed f (λ d. is_data d block ≡ is_data f.base block)
same_area f like block set m =
    let d : Disk = image_of f.base f.patches set in
    let alike = like set m in
    ap (λ (n : ℕ). nat_le (4 + n) block && nat_lt block d.blocks) alike.journal
    ∙ ap (λ (n : ℕ). nat_le (4 + f.base.journal) block && nat_lt block n) alike.blocks

-- ---- one fault for each number

-- the faults of the numbers below one are listed that have a property
pub record AreBelow (P : ℕ → Type 0) (fault : ℕ → Fault) (n : ℕ) (old new : List Fault) : Type 0 where
  pub kept : IsWithin old new
  pub each : (i : ℕ) → i < n → P i → Contains new (fault i)

pub below_same : (P : ℕ → Type 0) (fault : ℕ → Fault) (n : ℕ) (old new : List Fault) → (P n → ⊥)
    → AreBelow P fault n old new → AreBelow P fault (n + 1) old new
below_same P fault n old new never was = record {
  kept = was.kept;
  each = λ i less is. elim (cases_eq i n) [
    | inl same ↦ absurd (never (subst P same is))
    | inr other ↦ was.each i (omega arith) is
  ];
}

pub below_next : (P : ℕ → Type 0) (fault : ℕ → Fault) (n : ℕ) (old new more : List Fault) → more ≡ new ++ fault n ∷ []
    → AreBelow P fault n old new → AreBelow P fault (n + 1) old more
below_next P fault n old new more is was =
    let kept : IsWithin new more = pushed_keeps new more (fault n) is in
    record {
      kept = then_within old new more kept was.kept;
      each = λ i less has. elim (cases_eq i n) [
        | inl same ↦ subst (λ (b : ℕ). Contains more (fault b)) (sym same) (pushed_has new more (fault n) is)
        | inr other ↦ kept _ (was.each i (omega arith) has)
      ];
    }

-- ---- one slot

-- the blocks from 1 up to a number are listed
pub record AreBlocks (base : Disk) (low high inode slot n : ℕ) (old new : List Fault) : Type 0 where
  pub kept : IsWithin old new
  pub each : (block : ℕ) → 0 < block → block ≤ n → HasValue low high block → HasSlot new inode slot block base

pub blocks_start : (base : Disk) (low high inode slot : ℕ) (old : List Fault)
    → AreBlocks base low high inode slot 0 old old
blocks_start base low high inode slot old = record {
  kept = λ fault h. h;
  each = λ block some few is. absurd (omega arith);
}

pub blocks_same : (base : Disk) (low high inode slot n : ℕ) (old new : List Fault) → (HasValue low high (n + 1) → ⊥)
    → AreBlocks base low high inode slot n old new → AreBlocks base low high inode slot (n + 1) old new
blocks_same base low high inode slot n old new never was = record {
  kept = was.kept;
  each = λ block some few is. elim (cases_eq block (n + 1)) [
    | inl same ↦ absurd (never (subst (λ (b : ℕ). HasValue low high b) same is))
    | inr other ↦ was.each block some (omega arith) is
  ];
}

pub blocks_more : (base : Disk) (low high inode slot n : ℕ) (old new more : List Fault) → IsWithin new more
    → HasSlot more inode slot (n + 1) base
    → AreBlocks base low high inode slot n old new → AreBlocks base low high inode slot (n + 1) old more
blocks_more base low high inode slot n old new more kept here was = record {
  kept = then_within old new more kept was.kept;
  each = λ block some few is. elim (cases_eq block (n + 1)) [
    | inl same ↦ subst (λ (b : ℕ). HasSlot more inode slot b base) (sym same) here
    | inr other ↦ slot_more new more kept inode slot block base (was.each block some (omega arith) is)
  ];
}

pub slot_listed : (f : Family) (low high inode slot n : ℕ) (old new : List Fault) → InEach f (IsLike f.base)
    → ((value : ℕ) → HasValue low high value → value ≤ n)
    → InEach f (λ d. HasValue low high (pointer_of (image_after_replay d) inode slot))
    → AreBlocks f.base low high inode slot n old new → InEachReplayed f (HasFaultsOf new inode slot)
slot_listed f low high inode slot n old new like most values all set m some =
    let d : Disk = image_after_replay (image_of f.base f.patches set) in
    let block : ℕ = pointer_of d inode slot in
    let here = values set m in
    let has = all.each block (omega arith) (most block here) here in
    let area : is_data d block ≡ is_data f.base block = same_area f like block set m in
    record { tame = λ is. has.tame (sym area ∙ is); wild = λ is. has.wild (sym area ∙ is) }

-- ---- the slots of an inode, and of all

pub record AreSlots (f : Family) (inode n : ℕ) (old new : List Fault) : Type 0 where
  pub kept : IsWithin old new
  pub each : InEachReplayed f (λ d. (slot : ℕ) → slot < n → HasFaultsOf new inode slot d)

pub slots_next : (f : Family) (inode n : ℕ) (old new more : List Fault) → IsWithin new more
    → InEachReplayed f (HasFaultsOf more inode n) → AreSlots f inode n old new → AreSlots f inode (n + 1) old more
slots_next f inode n old new more kept here was = record {
  kept = then_within old new more kept was.kept;
  each = λ set m slot less.
      let d : Disk = image_after_replay (image_of f.base f.patches set) in
      elim (cases_eq slot n) [
        | inl same ↦ subst (λ (s : ℕ). HasFaultsOf more inode s d) (sym same) (here set m)
        | inr other ↦ slots_more new more kept inode slot d (was.each set m slot (omega arith))
      ];
}

pub record AreInodes (f : Family) (n : ℕ) (old new : List Fault) : Type 0 where
  pub kept : IsWithin old new
  pub each : InEachReplayed f (λ d. (inode slot : ℕ) → inode < n → slot < 4 → HasFaultsOf new inode slot d)

pub inodes_next : (f : Family) (n : ℕ) (old new more : List Fault) → IsWithin new more
    → InEachReplayed f (λ d. (slot : ℕ) → slot < 4 → HasFaultsOf more n slot d) → AreInodes f n old new
    → AreInodes f (n + 1) old more
inodes_next f n old new more kept here was = record {
  kept = then_within old new more kept was.kept;
  each = λ set m inode slot less few.
      let d : Disk = image_after_replay (image_of f.base f.patches set) in
      elim (cases_eq inode n) [
        | inl same ↦ subst (λ (i : ℕ). HasFaultsOf more i slot d) (sym same) (here set m slot few)
        | inr other ↦ slots_more new more kept inode slot d (was.each set m inode slot (omega arith) few)
      ];
}

-- ---- blocks

pub twice_listed : (f : Family) (n : ℕ) (old new : List Fault) → InEach f (IsLike f.base) → f.base.blocks ≤ n
    → AreBelow (λ b. is_data f.base b ≡ true) (λ b. Twice b) n old new → InEachReplayed f (HasTwice new)
twice_listed f n old new like long all set m block is =
    let here : is_data f.base block ≡ true = sym (same_area f like block set m) ∙ is in
    let less : block < f.base.blocks = below (4 + f.base.journal) block f.base.blocks here in
    all.each block (omega arith) here
  where
    below : (a b c : ℕ) → (nat_le a b && nat_lt b c) ≡ true → b < c
    below a b c h = grind (arith, tests)

-- ---- links

pub record AreLow (low high inode most n : ℕ) (old new : List Fault) : Type 0 where
  pub kept : IsWithin old new
  pub each : (links entries : ℕ) → links < n → HasValue low high links → links < entries → entries ≤ most
      → Contains new (LowLinks inode entries links)

pub low_same : (low high inode most n : ℕ) (old new : List Fault) → (HasValue low high n → ⊥)
    → AreLow low high inode most n old new → AreLow low high inode most (n + 1) old new
low_same low high inode most n old new never was = record {
  kept = was.kept;
  each = λ links entries less is above few. elim (cases_eq links n) [
    | inl same ↦ absurd (never (subst (λ (b : ℕ). HasValue low high b) same is))
    | inr other ↦ was.each links entries (omega arith) is above few
  ];
}

pub low_next : (low high inode most n : ℕ) (old new more : List Fault) → IsWithin new more
    → ((entries : ℕ) → n < entries → entries ≤ most → Contains more (LowLinks inode entries n))
    → AreLow low high inode most n old new → AreLow low high inode most (n + 1) old more
low_next low high inode most n old new more kept here was = record {
  kept = then_within old new more kept was.kept;
  each = λ links entries less is above few. elim (cases_eq links n) [
    | inl same ↦ subst (λ (b : ℕ). Contains more (LowLinks inode entries b)) (sym same)
        (here entries (omega arith) few)
    | inr other ↦ kept _ (was.each links entries (omega arith) is above few)
  ];
}

pub low_listed : (f : Family) (low high inode most n : ℕ) (old new : List Fault) → most ≤ n
    → InEach f (λ d. HasValue low high (links_of (image_after_replay d) inode))
    → AreLow low high inode most n old new → InEachReplayed f (HasLow new inode most)
low_listed f low high inode most n old new long values all set m entries less few =
    let d : Disk = image_after_replay (image_of f.base f.patches set) in
    all.each (links_of d inode) entries (omega arith) (values set m) less few

pub record AreLowBefore (f : Family) (most : List ℕ) (n : ℕ) (old new : List Fault) : Type 0 where
  pub kept : IsWithin old new
  pub each : InEachReplayed f (λ d. (inode : ℕ) → inode < n → HasLow new inode (slice_index most inode) d)

pub lows_next : (f : Family) (most : List ℕ) (n : ℕ) (old new more : List Fault) → IsWithin new more
    → InEachReplayed f (HasLow more n (slice_index most n)) → AreLowBefore f most n old new
    → AreLowBefore f most (n + 1) old more
lows_next f most n old new more kept here was = record {
  kept = then_within old new more kept was.kept;
  each = λ set m inode less.
      let d : Disk = image_after_replay (image_of f.base f.patches set) in
      elim (cases_eq inode n) [
        | inl same ↦ subst (λ (i : ℕ). HasLow more i (slice_index most i) d) (sym same) (here set m)
        | inr other ↦ low_more new more kept inode (slice_index most inode) d (was.each set m inode (omega arith))
      ];
}

-- ---- inodes that a strict checker finds

pub record AreStrict (kept n : ℕ) (old new : List Fault) : Type 0 where
  pub within : IsWithin old new
  pub each : (inode : ℕ) → inode < n → HasStrict new kept inode

pub strict_next : (kept n : ℕ) (old new more : List Fault) → IsWithin new more → HasStrict more kept n
    → AreStrict kept n old new → AreStrict kept (n + 1) old more
strict_next kept n old new more within here was = record {
  within = then_within old new more within was.within;
  each = λ inode less. elim (cases_eq inode n) [
    | inl same ↦ subst (λ (i : ℕ). HasStrict more kept i) (sym same) here
    | inr other ↦ strict_more new more within kept inode (was.each inode (omega arith))
  ];
}
