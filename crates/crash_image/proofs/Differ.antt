-- In which blocks the images of two sets differ, and what copying them leaves.
use Rattle.std.proofs.Common.{◌≡◌, ℕ, suc, ◌+◌, ◌*◌, ◌<◌, ◌≤◌, ◌⊎◌, inl, inr, List, [], ◌∷◌, length, get_or, Bool, true}
use Rattle.std.proofs.Common.{false, cond, Some, arith, refl, sym, ◌∙◌, ap, subst}
use Rattle.std.specs.Prelude.{slice_get, bit_or}
use Rattle.std.specs.List.{All}
use Rattle.std.proofs.lemmas.Bool.{cases_eq}
use Rattle.std.proofs.lemmas.List.Elements.{All-head, All-tail}
use Rattle.patch_sets.specs.Sets.{Has, has, IsSubset, with_id}
use Rattle.patch_sets.specs.Closed.{IsClosed}
use Rattle.patch_sets.specs.Ends.{IsDifference, IsWithout}
use Rattle.patch_sets.proofs.Bits.{in_with_same, in_with_old, in_or_left, in_or_right, none_in_empty}
use Rattle.patch_sets.proofs.Ids.{from_has}
use Rattle.crash_model.specs.Disk.{Disk, IsDisk, block_of, with_bytes}
use Rattle.crash_model.specs.Patches.{deps_of, places_of, image_from, image_of}
use Rattle.crash_model.specs.Replay.{image_after_replay}
use Rattle.crash_model.specs.declared.patches.Patch.{Patch}
use Rattle.patch_graph.specs.Graph.{IsAt, IsPatch}
use Rattle.journal_replay.specs.Changed.{DifferAtMost}
use Rattle.journal_replay.proofs.Blocks.{IsShaped, shaped-inside, shaped-with_bytes, length-block, block-put_other}
use Rattle.journal_replay.proofs.Blocks.{block-put_same, overwrite-all, joined_blocks}
use Rattle.crash_image.specs.Moves.{with_patch, without_patches_from, without_set, AreOver, Applied, HasBlocks}
use Rattle.crash_image.specs.Moves.{IsReplayed}
use Rattle.crash_image.proofs.PutSteps.{image-empty}
use Rattle.crash_image.proofs.Moved.{SameShape, disk-same, image-shape, moved_image}

disk-shape : (d : Disk) → IsDisk d → IsShaped d.blocks d.journal d
disk-shape d i = record { blocks = refl; journal = refl; long = i.whole }

shape-disk : (d e : Disk) → IsDisk d → IsShaped d.blocks d.journal e → IsDisk e
shape-disk d e i s = record {
  least = omega (arith, i.least, s.blocks);
  most = omega (arith, i.most, s.blocks);
  room = omega (arith, i.room, s.blocks, s.journal);
  whole = s.long ∙ ap (λ (n : ℕ). 128 * n) (sym s.blocks);
}

-- ---- the blocks of a set's patches

-- the ids from one on that a set has, by the patches from there on
abbrev pub RestHas : ℕ → List Patch → ℕ → ℕ → Type 0
RestHas id [] set blocks = Unit {0}
RestHas id (p ∷ ps) set blocks = (has set id ≡ true → Has blocks p.block) × RestHas (id + 1) ps set blocks

rest_has : (id : ℕ) (ps : List Patch) (set blocks : ℕ)
    → ((q : ℕ) (patch : Patch) → slice_get ps q ≡ Some patch → Has set (id + q) → Has blocks patch.block)
    → RestHas id ps set blocks
rest_has id [] set blocks each = tt
rest_has id (p ∷ ps) set blocks each = (
  λ is. each 0 p refl (subst (λ (k : ℕ). Has set k) (plus id) (from_has set id is)),
  rest_has (id + 1) ps set blocks (λ q patch at is. each (suc q) patch
      at (subst (λ (k : ℕ). Has set k) (next id q) is)),
)
  where
    plus : (id : ℕ) → id ≡ id + 0
    plus id = omega arith

    next : (id q : ℕ) → id + 1 + q ≡ id + suc q
    next id q = omega arith

has_rest : (ps : List Patch) (set blocks : ℕ) → HasBlocks ps set blocks → RestHas 0 ps set blocks
has_rest ps set blocks has_blocks = rest_has 0 ps set blocks
    (λ q patch at is. has_blocks.each q patch (subst (λ (k : ℕ). Has set k) (plus q) is) at)
  where
    plus : (q : ℕ) → 0 + q ≡ q
    plus q = omega arith

-- more blocks
has_more : (ps : List Patch) (set blocks more : ℕ) → IsSubset blocks more → HasBlocks ps set blocks
    → HasBlocks ps set more
has_more ps set blocks more sub has_blocks = record {
  each =
      λ id patch is at. sub patch.block (has_blocks.each id patch is at);
}

-- ---- a block that none of a set's patches changes

-- a shaped disk whose block x is as in another
pub record IsKept (n jl x : ℕ) (start d : Disk) : Type 0 where
  pub shaped : IsShaped n jl d
  pub same : block_of d x ≡ block_of start x

module _ (n jl x blocks : ℕ) (within : x < n) (out : Has blocks x → ⊥) where
  with_bytes-kept : (start d : Disk) (b off : ℕ) (new : List ℕ) (taken : Bool) → off + length new ≤ 128 → b < n
      → (taken ≡ true → Has blocks b)
      → IsKept n jl x start d → IsKept n jl x start (cond taken (with_bytes d b off new) d)
  with_bytes-kept start d b off new false inside below changed kept = kept
  with_bytes-kept start d b off new true inside below changed kept = record {
    shaped = shaped-with_bytes n jl d b off new kept.shaped inside below;
    same = block-put_other d b off new x (λ e. out (subst (λ (k : ℕ). Has blocks k) (sym e) (changed refl))) inside
        (shaped-inside n jl d b kept.shaped below) (shaped-inside n jl d x kept.shaped within) ∙ kept.same;
  }

  image-kept : (id : ℕ) (start d : Disk) (ps : List Patch) (set : ℕ) → All IsPatch ps → All (λ p. p.block < n) ps
      → RestHas id ps set blocks
      → IsKept n jl x start d → IsKept n jl x start (image_from id d (places_of ps) set)
  image-kept id start d [] set each known has_all kept = kept
  image-kept id start d (p ∷ ps) set each known has_all kept =
      image-kept (id + 1) start (cond (has set id) (with_patch p d) d) ps set (All-tail IsPatch p ps each)
      (All-tail (λ q. q.block < n) p ps known) has_all.1
      (with_bytes-kept start d p.block p.offset p.new.items (has set id) (All-head IsPatch p ps each).inside
      (All-head (λ q. q.block < n) p ps known) has_all.0 kept)

  without_patches-kept : (id : ℕ) (start d : Disk) (ps : List Patch) (set : ℕ) → All IsPatch ps
      → All (λ p. p.block < n) ps → RestHas id ps set blocks
      → IsKept n jl x start d → IsKept n jl x start (without_patches_from id d ps set)
  without_patches-kept id start d [] set each known has_all kept = kept
  without_patches-kept id start d (p ∷ ps) set each known has_all kept =
      let here = All-head IsPatch p ps each in
      with_bytes-kept start (without_patches_from (id + 1) d ps set) p.block p.offset p.undo.items (has set id)
      (omega (arith, here.inside, here.undone))
      (All-head (λ q. q.block < n) p ps known) has_all.0
      (without_patches-kept (id + 1) start d ps set (All-tail IsPatch p ps each)
      (All-tail (λ q. q.block < n) p ps known) has_all.1 kept)

shaped-choice : (n jl : ℕ) (d : Disk) (p : Patch) (taken : Bool) → IsPatch p → p.block < n → IsShaped n jl d
    → IsShaped n jl (cond taken (with_patch p d) d)
shaped-choice n jl d p true whole below s = shaped-with_bytes n jl d p.block p.offset p.new.items s whole.inside below
shaped-choice n jl d p false whole below s = s

shaped-image : (n jl id : ℕ) (d : Disk) (ps : List Patch) (set : ℕ) → All IsPatch ps → All (λ p. p.block < n) ps
    → IsShaped n jl d → IsShaped n jl (image_from id d (places_of ps) set)
shaped-image n jl id d [] set each known s = s
shaped-image n jl id d (p ∷ ps) set each known s =
    shaped-image n jl (id + 1) (cond (has set id) (with_patch p d) d) ps set (All-tail IsPatch p ps each)
    (All-tail (λ q. q.block < n) p ps known)
    (shaped-choice n jl d p (has set id) (All-head IsPatch p ps each) (All-head (λ q. q.block < n) p ps known) s)

-- ---- from set to set

-- the images of two closed sets differ at most in the blocks of the patches that one of them has
pub sets_differ : (base : Disk) (ps : List Patch) (a b back on first blocks : ℕ) → AreOver base ps
    → IsClosed (deps_of ps) a → IsClosed (deps_of ps) b
    → IsDifference a b back → IsDifference b a on → HasBlocks ps back first → IsSubset first blocks
    → HasBlocks ps on blocks
    → DifferAtMost blocks (image_of base ps a) (image_of base ps b)
sets_differ base ps a b back on first blocks over from to less more undone_blocks sub redone_blocks =
    let start : Disk = image_of base ps a in
    let same : SameShape start base = image-shape 0 base ps a in
    record {
      same = λ x below out.
          let within : x < base.blocks = subst (λ (n : ℕ). x < n) same.blocks below in
          let whole : IsShaped base.blocks base.journal start = shaped-image base.blocks base.journal 0 base ps a
          over.graph.each over.fits (disk-shape base over.disk) in
          let taken_back = without_patches-kept base.blocks base.journal x blocks within out 0 start start ps back
          over.graph.each over.fits
          (has_rest ps back blocks (has_more ps back first blocks sub undone_blocks))
          record { shaped = whole; same = refl } in
          let put_on = image-kept base.blocks base.journal x blocks within out 0 start (without_set start ps back) ps on
          over.graph.each over.fits
          (has_rest ps on blocks redone_blocks) taken_back in
          ap (λ (d : Disk). block_of d x) (sym (moved_image base ps over a b back on from to less more)) ∙ put_on.same;
    }

-- patches of a base change one of 128 blocks
pub few_blocks : (n : ℕ) (ps : List Patch) → n ≤ 128 → All (λ p. p.block < n) ps → All (λ p. p.block < 128) ps
few_blocks n ps most fits = λ k p below. let one : (get_or ps k p).block < n = fits k p below in omega (arith, most)

-- ---- what is left to add

-- each patch of the set is left, or its block is there
pub record HasOrLeft (patches : List Patch) (set left all : ℕ) : Type 0 where
  pub each : (id : ℕ) (patch : Patch) → Has set id → IsAt patches id patch → Has left id ⊎ Has all patch.block

pub all_left : (ps : List Patch) (set blocks : ℕ) → HasOrLeft ps set set blocks
all_left ps set blocks = record { each = λ id patch is at. inl is }

pub one_added : (ps : List Patch) (set left rest all next k : ℕ) (p : Patch) → IsAt ps k p → IsWithout left k rest
    → next ≡ with_id all p.block
    → HasOrLeft ps set left all → HasOrLeft ps set rest next
one_added ps set left rest all next k p here without is before = record {
  each = λ id patch member at. elim (cases_eq id k) [
    | inl same ↦
        let one : Some p ≡ Some patch = sym here ∙ ap (λ (j : ℕ). slice_get ps j) (sym same) ∙ at in
        let which : p ≡ patch = cc in
        inr (subst (λ (q : Patch). Has next q.block) which (subst (λ (s : ℕ). Has s p.block) (sym is)
        (in_with_same all p.block)))
    | inr other ↦ elim (before.each id patch member at) [
      | inl still ↦ inl ((without.others id other).1 still)
      | inr there ↦ inr (subst (λ (s : ℕ). Has s patch.block) (sym is) (in_with_old all p.block patch.block there))
    ]
  ];
}

pub none_left : (ps : List Patch) (set left all : ℕ) → left ≡ 0 → HasOrLeft ps set left all → HasBlocks ps set all
none_left ps set left all none before = record {
  each = λ id patch member at. elim (before.each id patch member at) [
    | inl still ↦ absurd (none_in_empty id (subst (λ (s : ℕ). Has s id) none still))
    | inr there ↦ there
  ];
}

pub subset_with : (from set next b : ℕ) → next ≡ with_id set b → IsSubset from set → IsSubset from next
subset_with from set next b is sub = λ id member. subst (λ (s : ℕ). Has s id) (sym is)
    (in_with_old set b id (sub id member))

-- ---- copying blocks

-- the images before and after one move differ in what differed before and what the move changed
pub differ_both : (before now after : Disk) (stale changed : ℕ) → now.blocks ≡ before.blocks
    → DifferAtMost stale before after → DifferAtMost changed before now → DifferAtMost (bit_or stale changed) now after
differ_both before now after stale changed size old new = record {
  same = λ x below out.
      old.same x (omega (arith, size)) (λ is. out (in_or_left stale changed x is))
      ∙ sym (new.same x (omega (arith, size)) (λ is. out (in_or_right stale changed x is)));
}

-- what a loop over the blocks keeps of the copy
pub record IsCopying (from into : Disk) (left : ℕ) : Type 0 where
  pub disk : IsDisk into
  pub blocks : into.blocks ≡ from.blocks
  pub journal : into.journal ≡ from.journal
  pub generations : into.generations ≡ from.generations
  pub others : DifferAtMost left from into

pub copied_one : (from into next : Disk) (left rest k : ℕ) → IsDisk from → IsWithout left k rest → k < from.blocks
    → next ≡ with_bytes into k 0 (block_of from k)
    → IsCopying from into left → IsCopying from next rest
copied_one from into next left rest k i without within is c =
    let whole : IsShaped from.blocks from.journal from = disk-shape from i in
    let s : IsShaped into.blocks into.journal into = disk-shape into c.disk in
    let long : length (block_of from k) ≡ 128 = length-block from k
    (shaped-inside from.blocks from.journal from k whole within) in
    let below : k < into.blocks = omega (arith, c.blocks) in
    let put_shape : IsShaped into.blocks into.journal (with_bytes into k 0 (block_of from k)) =
    shaped-with_bytes into.blocks into.journal into k 0 (block_of from k) s (omega arith) below in
    let next_shape : IsShaped into.blocks into.journal next = subst (λ (d : Disk). IsShaped into.blocks into.journal d)
    (sym is) put_shape in
    record {
      disk = shape-disk into next c.disk next_shape;
      blocks = next_shape.blocks ∙ c.blocks;
      journal = next_shape.journal ∙ c.journal;
      generations = ap (λ (d : Disk). d.generations) is ∙ c.generations;
      others = record {
        same = λ x less out. ap (λ (d : Disk). block_of d x) is ∙ elim (cases_eq x k) [
          | inl same ↦ subst (λ (y : ℕ). block_of (with_bytes into k 0 (block_of from k)) y ≡ block_of from y)
              (sym same)
              (block-put_same into k 0 (block_of from k) (omega arith)
              (shaped-inside into.blocks into.journal into k s below)
              ∙ overwrite-all (block_of into k) (block_of from k)
              (omega (arith, length-block into k (shaped-inside into.blocks into.journal into k s below))))
          | inr other ↦ block-put_other into k 0 (block_of from k) x other (omega arith)
              (shaped-inside into.blocks into.journal into k s below)
              (shaped-inside into.blocks into.journal into x s (omega (arith, c.blocks)))
              ∙ c.others.same x less (λ had. out ((without.others x other).1 had))
        ];
      };
    }

pub copied_beyond : (from into : Disk) (left rest k : ℕ) → IsWithout left k rest → from.blocks ≤ k
    → IsCopying from into left → IsCopying from into rest
copied_beyond from into left rest k without beyond c = record {
  disk = c.disk;
  blocks = c.blocks;
  journal = c.journal;
  generations = c.generations;
  others = record {
    same = λ x less out. c.others.same x less
        (λ had. out ((without.others x (λ e. absurd (omega arith))).1 had));
  };
}

pub copied_all : (from into : Disk) (left : ℕ) → IsDisk from → left ≡ 0 → IsCopying from into left → into ≡ from
copied_all from into left i none c =
    let same : (x : ℕ) → x < from.blocks → block_of into x ≡ block_of from x =
    λ x less. c.others.same x less (λ had. none_in_empty x (subst (λ (s : ℕ). Has s x) none had)) in
    disk-same into from record { blocks = c.blocks; journal = c.journal; generations = c.generations }
    (joined_blocks from.blocks into (block_of from) (c.disk.whole ∙ ap (λ (n : ℕ). 128 * n) c.blocks) same
    ∙ sym (joined_blocks from.blocks from (block_of from) i.whole (λ x less. refl)))

-- ---- the image after replay, from set to set

-- the image before the first move
pub replayed_first : (m : Applied) (base copy after : Disk) (ps : List Patch) (stale : ℕ)
    → m ≡ record { base = base; patches = ps; set = 0 } → copy ≡ base
    → after ≡ image_after_replay copy → DifferAtMost stale copy after → IsReplayed m after stale
replayed_first m base copy after ps stale is same here differ =
    let empty : copy ≡ image_of base ps 0 = same ∙ sym (image-empty base ps) in
    subst (λ (a : Applied). IsReplayed a after stale) (sym is) record {
      is = here ∙ ap (λ (d : Disk). image_after_replay d) empty;
      differ = subst (λ (d : Disk). DifferAtMost stale d after) empty differ;
    }

module _ (a m : Applied) (after image : Disk) (set stale changed : ℕ) (was : IsReplayed a after stale)
    (to : m ≡ record a { set = set })
    (is : image ≡ image_of m.base m.patches m.set) where
  -- the image of the next set
  next_image : image ≡ image_of a.base a.patches set
  next_image = is ∙ ap (λ (b : Applied). image_of b.base b.patches b.set) to

  next_shape : SameShape image (image_of a.base a.patches a.set)
  next_shape =
      let new = image-shape 0 a.base a.patches set in
      let old = image-shape 0 a.base a.patches a.set in
      record {
        blocks = ap (λ (d : Disk). d.blocks) next_image ∙ new.blocks ∙ sym old.blocks;
        journal = ap (λ (d : Disk). d.journal) next_image ∙ new.journal ∙ sym old.journal;
        generations = ap (λ (d : Disk). d.generations) next_image ∙ new.generations ∙ sym old.generations;
      }

  pub next_blocks : after.blocks ≡ image.blocks
  next_blocks = ap (λ (d : Disk). d.blocks) was.is ∙ sym next_shape.blocks

  pub next_journal : after.journal ≡ image.journal
  next_journal = ap (λ (d : Disk). d.journal) was.is ∙ sym next_shape.journal

  pub next_generations : after.generations ≡ image.generations
  next_generations = ap (λ (d : Disk). d.generations) was.is ∙ sym next_shape.generations

  pub next_differ : DifferAtMost changed (image_of a.base a.patches a.set) (image_of a.base a.patches set)
      → DifferAtMost (bit_or stale changed) image after
  next_differ new = differ_both (image_of a.base a.patches a.set) image after stale changed next_shape.blocks was.differ
      (subst (λ (d : Disk). DifferAtMost changed (image_of a.base a.patches a.set) d) (sym next_image) new)
