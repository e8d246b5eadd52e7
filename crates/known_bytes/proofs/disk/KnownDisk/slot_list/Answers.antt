use Rattle.std.proofs.Common.{◌≡◌, ℕ, ◌<◌, ◌^◌, true, false, sym, ◌∙◌, arith}
use Rattle.std.specs.List.{Contains}
use Rattle.crash_model.specs.Layout.{pointer_of}
use Rattle.crash_model.specs.Patches.{image_of}
use Rattle.known_bytes.specs.Reading.{InEachDisk, disk_of}
use Rattle.known_bytes.specs.Slots.{block_shown}
use Rattle.known_bytes.proofs.EachValue.{taken_skip, taken_more, taken_all}
use Rattle.known_bytes.proofs.disk.KnownDisk.slot_list.Goals as goal
use Rattle.known_bytes.proofs.disk.KnownDisk.slot_list.Goals.{then-has+else-not-list_block, else-has}

pub loop-block-init : goal.loop-block-init
loop-block-init g c = record { each = λ value less is. absurd (omega (arith, less)) }

pub loop-block-preserved : goal.loop-block-preserved
loop-block-preserved g c =
    let r = c.args.self.now in
    let low = c.pointers-blocks.result.low in
    let high = c.pointers-blocks.result.high in
    let n = c.loop-block.block in
    let P : ℕ → Type 0 = λ block. InEachDisk r (λ d. Contains c.loop-block.shows.items (block_shown d block)) in
    elim c.if-has.branch [
      | then-has+else-not-list_block w ↦ rw w.shows-is (taken_more low high n P
          (λ block. InEachDisk r (λ d. Contains w.list_block.new.shows.items (block_shown d block)))
          (λ block before set m. w.list_block.ensures.kept _ (before set m))
          (w.list_block.ensures.listed w.if-not-list_block.false) c.loop-block.invariant)
      | else-has w ↦ rw w.shows-is (taken_skip low high n P
          (λ is. let never : true ≡ false = sym (c.has.ensures.1 is) ∙ w.if-has.false in absurd (cc))
          c.loop-block.invariant)
    ]

pub returns : goal.returns
returns g c = λ set m.
    let r = c.args.self.now in
    let few : c.pointers-blocks.result.high < 2 ^ 128 = omega arith in
    taken_all c.pointers-blocks.result.low c.pointers-blocks.result.high c.loop-block.block
    (λ block. InEachDisk r (λ d. Contains c.loop-block.shows.items (block_shown d block))) few (omega arith)
    c.loop-block.invariant
    (pointer_of (disk_of r (image_of r.family.base r.family.patches set)) c.args.inode c.args.slot)
    (c.pointers-blocks.ensures set m) set m
