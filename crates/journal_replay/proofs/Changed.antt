-- Which blocks replay changes.
use Rattle.std.proofs.Common.{◌≡◌, ◌≢◌, ℕ, suc, ◌+◌, ◌<◌, List, [], ◌∷◌, length, get_or, arith, refl, sym, ◌∙◌, ap}
use Rattle.std.proofs.Common.{subst, below_more}
use Rattle.std.specs.List.{All}
use Rattle.patch_sets.specs.Sets.{Has, IsSubset, with_id}
use Rattle.patch_sets.proofs.Bits.{in_with_same, in_with_old}
use Rattle.crash_model.specs.Disk.{Disk, IsDisk, block_of}
use Rattle.journal_replay.specs.Changed.{DifferAtMost}
use Rattle.journal_replay.specs.Header.{Head, IsHeaderAt}
use Rattle.journal_replay.specs.Walk.{with_copies}
use Rattle.journal_replay.proofs.Targets.{Apart, AreTargets}
use Rattle.journal_replay.proofs.Walk.{IsWalking, shaped-disk, copied_none, header_targets, header_inside}

-- ---- sets with more blocks

-- the set has the first i of the blocks
pub record HasFirst (set i : ℕ) (blocks : List ℕ) : Type 0 where
  pub each : (k : ℕ) → k < i → Has set (get_or blocks k 0)

pub first_none : (set : ℕ) (blocks : List ℕ) → HasFirst set 0 blocks
first_none set blocks = record { each = λ k below. absurd (omega arith) }

pub first_more : (set next b i : ℕ) (blocks : List ℕ) → next ≡ with_id set b → b ≡ get_or blocks i 0
    → HasFirst set i blocks → HasFirst next (i + 1) blocks
first_more set next b i blocks is here first = record {
  each = below_more (λ k. Has next (get_or blocks k 0)) i
      (λ k below. subst (λ (s : ℕ). Has s (get_or blocks k 0)) (sym is)
      (in_with_old set b (get_or blocks k 0) (first.each k below)))
      (subst (λ (s : ℕ). Has s (get_or blocks i 0)) (sym is)
      (subst (λ (x : ℕ). Has (with_id set b) x) here (in_with_same set b)));
}

pub subset_more : (from set next b : ℕ) → next ≡ with_id set b → IsSubset from set → IsSubset from next
subset_more from set next b is sub = λ id member. subst (λ (s : ℕ). Has s id) (sym is)
    (in_with_old set b id (sub id member))

-- ---- replay

-- blocks of a disk are below 128
pub all_few : (d : Disk) (xs : List ℕ) → IsDisk d → All (λ b. b < d.blocks) xs → All (λ b. b < 128) xs
all_few d xs i all = λ k x below. let one : get_or xs k x < d.blocks = all k x below in omega (arith, i.most)

-- a block that no target is lies apart from them
apart_from : (x : ℕ) (bs : List ℕ) → ((k : ℕ) → k < length bs → x ≢ get_or bs k 0) → Apart x bs
apart_from x [] other = tt
apart_from x (b ∷ bs) other = (other 0 (omega arith), apart_from x bs (λ k below. other (suc k) (omega arith)))

pub unchanged : (d : Disk) → DifferAtMost 0 d d
unchanged d = record { same = λ block below out. refl }

pub header_changes : (start d e : Disk) (at transaction : ℕ) (h : Head) (xs : List ℕ) (set next : ℕ)
    → IsWalking start d at transaction → IsHeaderAt d at transaction h → xs ≡ h.targets
    → e ≡ with_copies d (at + 1) xs → IsSubset set next → HasFirst next (length xs) xs → DifferAtMost set start d
    → DifferAtMost next start e
header_changes start d e at transaction h xs set next w is same here sub first differ = record {
  same = λ block below out.
      let within : block < d.blocks = omega (arith, w.blocks) in
      ap (λ (f : Disk). block_of f block) here
      ∙ copied_none d.blocks d.journal d (at + 1) block xs (shaped-disk d w.disk)
      (header_inside d at transaction h xs w.disk is same)
      (subst (λ (ys : List ℕ). AreTargets d.blocks d.journal ys) (sym (same ∙ is.targets))
      (header_targets d at transaction w.disk is.is)) within
      (apart_from block xs (λ k less e. out (subst (λ (x : ℕ). Has next x) (sym e) (first.each k less))))
      ∙ differ.same block below (λ member. out (sub block member));
}
