-- What holds at each block where a block may be read.
use Rattle.std.proofs.Common.{◌≡◌, ℕ, ◌<◌, ◌⊎◌, inl, inr, List, arith, refl, sym, subst}
use Rattle.std.specs.Prelude.{slice_index, Result, Ok, Err, Bool, true, false, if◌then◌else◌}
use Rattle.std.proofs.lemmas.Bool.{cases_eq}
use Rattle.patch_sets.specs.Sets.{Has}
use Rattle.patch_sets.specs.Ends.{IsWithout}
use Rattle.patch_sets.proofs.Bits.{none_in_empty}
use Rattle.crash_model.specs.Disk.{Disk, IsDisk, byte}
use Rattle.crash_model.specs.Patches.{image_of}
use Rattle.crash_model.specs.Replay.{image_after_replay}
use Rattle.journal_replay.proofs.Walk.{disk-replayed}
use Rattle.known_bytes.specs.Family.{Family, InEach, IsLike, IsUndecided}
use Rattle.known_bytes.specs.Reading.{Reading, AreHomes, InEachDisk, IsKnown, left}

-- ---- the size of the disks

like_after : (replayed : Bool) (base d : Disk) → IsLike base d
    → IsLike base (if replayed then image_after_replay d else d)
like_after true base d like = record {
  disk = disk-replayed d like.disk;
  blocks = like.blocks;
  journal = like.journal;
  generations = like.generations;
}
like_after false base d like = like

-- each disk that is read is of the size of the base
pub like_read : (r : Reading) → InEach r.family (IsLike r.family.base) → InEachDisk r (IsLike r.family.base)
like_read r like set m = like_after r.replayed r.family.base (image_of r.family.base r.family.patches set) (like set m)

-- ---- a walk over the other homes

-- each of them is left, or it holds there
pub record AreSeen (P : ℕ → Type 0) (others rest : ℕ) : Type 0 where
  pub inside : (home : ℕ) → Has rest home → Has others home
  pub seen : (home : ℕ) → Has others home → Has rest home ⊎ P home

pub seen_none : (P : ℕ → Type 0) (others : ℕ) → AreSeen P others others
seen_none P others = record { inside = λ home is. is; seen = λ home is. inl is }

pub seen_more : (P Q : ℕ → Type 0) (others rest less home : ℕ) → ((other : ℕ) → P other → Q other)
    → IsWithout rest home less → Q home → AreSeen P others rest → AreSeen Q others less
seen_more P Q others rest less home weaker without here s = record {
  inside = λ other is. elim (cases_eq other home) [
    | inl same ↦ absurd (without.gone (subst (λ (k : ℕ). Has less k) same is))
    | inr apart ↦ s.inside other ((without.others other apart).0 is)
  ];
  seen = λ other is. elim (cases_eq other home) [
    | inl same ↦ inr (subst Q (sym same) here)
    | inr apart ↦ elim (s.seen other is) [
      | inl still ↦ inl ((without.others other apart).1 still)
      | inr done ↦ inr (weaker other done)
    ]
  ];
}

pub seen_all : (P : ℕ → Type 0) (others rest : ℕ) → rest ≡ 0 → AreSeen P others rest → (home : ℕ) → Has others home
    → P home
seen_all P others rest none s home is = elim (s.seen home is) [
  | inl still ↦ absurd (none_in_empty home (subst (λ (x : ℕ). Has x home) none still))
  | inr done ↦ done
]

-- ---- the byte of a disk

module _ (r : Reading) (homes others asks : List ℕ) (are : AreHomes r homes others asks)
    (like : InEach r.family (IsLike r.family.base)) (block offset : ℕ) (below : block < r.family.base.blocks)
    (within : offset < 128) where
  -- what holds of the byte at each home holds of it
  pub so_at_homes : (P : ℕ → Type 0) → InEach r.family (λ d. P (byte d (slice_index homes block) offset))
      → ((home : ℕ) → Has (slice_index others block) home → InEach r.family (λ d. P (byte d home offset)))
      → InEachDisk r (λ d. P (byte d block offset))
  so_at_homes P first rest set m =
      let d : Disk = image_of r.family.base r.family.patches set in
      let at = are.among set m block (omega (arith, (like set m).blocks)) in
      subst P (sym (at.2 offset within)) (elim at.1 [
        | inl same ↦ subst (λ (k : ℕ). P (byte d k offset)) (sym same) (first set m)
        | inr other ↦ rest at.0 other set m
      ])

  pub known_at_homes : {X : Type 0} (T : ℕ → X) (answer : Result X ℕ)
      → IsKnown (left r.family) (λ d. T (byte d (slice_index homes block) offset)) answer
      → ((home : ℕ) → Has (slice_index others block) home
      → IsKnown (left r.family) (λ d. T (byte d home offset)) answer)
      → IsKnown r (λ d. T (byte d block offset)) answer
  known_at_homes T (Ok value) first rest = so_at_homes (λ x. T x ≡ value) first rest
  known_at_homes T (Err id) first rest = first

-- the patch of a block with another home
pub asked_of : (r : Reading) (homes others asks : List ℕ) → AreHomes r homes others asks → (block home : ℕ)
    → block < 128 → Has (slice_index others block) home → IsUndecided r.family (slice_index asks block)
asked_of r homes others asks are block home small is =
    are.asked block small (λ none. none_in_empty home (subst (λ (x : ℕ). Has x home) none is))

-- as a crash leaves the disks each block is read where it is
pub own_homes : (f : Family) (homes others asks : List ℕ) → IsDisk f.base → InEach f (IsLike f.base)
    → ((b : ℕ) → b < 128 → slice_index homes b ≡ b) → ((b : ℕ) → slice_index others b ≡ 0)
    → AreHomes (left f) homes others asks
own_homes f homes others asks disk like own none = record {
  within = λ b home less is. elim is [
    | inl same ↦ omega (arith, disk.most, own b (omega (arith, disk.most)), same)
    | inr other ↦ absurd (none_in_empty home (subst (λ (s : ℕ). Has s home) (none b) other))
  ];
  among = λ set m b below. (b, inl (sym (own b (omega (arith, (like set m).disk.most)))), λ offset inside. refl);
  asked = λ b less some. absurd (some (none b));
}
