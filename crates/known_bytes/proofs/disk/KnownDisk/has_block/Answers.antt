use Rattle.std.proofs.Common.{◌≡◌, ◌+◌, ◌&&◌, ℕ, arith, ap, ◌∙◌}
use Rattle.std.specs.Prelude.{◌==◌, bytes_eq}
use Rattle.crash_model.specs.Disk.{Disk, byte, block_of}
use Rattle.crash_model.specs.Patches.{image_of}
use Rattle.crash_model.proofs.Shown.{no_such_block}
use Rattle.known_bytes.specs.Reading.{disk_of}
use Rattle.known_bytes.specs.Shown.{agrees}
use Rattle.known_bytes.proofs.Answered.{known_as, known_in}
use Rattle.known_bytes.proofs.ShownDisks.{agrees-more, agrees-whole}
use Rattle.known_bytes.proofs.disk.KnownDisk.has_block.Goals as goal

pub returns-then-block-most : goal.returns-then-block-most
returns-then-block-most g c = λ set m.
    let r = c.args.self.now in
    let like = c.base-base.ensures.alike set m in
    let same : c.blocks-most.result ≡ r.family.base.blocks =
    c.blocks-most.ensures.value ∙ ap (λ (d : Disk). d.blocks) c.base-base.ensures.base in
    no_such_block (disk_of r (image_of r.family.base r.family.patches set)) c.args.disk.now c.args.block like.disk
    c.blocks-blocks.ensures.disk c.requires (omega (arith, same, like.blocks, c.if-block-most.true))

pub loop-offset-preserved : goal.loop-offset-preserved
loop-offset-preserved g c =
    let r = c.args.self.now in
    let disk = c.args.disk.now in
    let block = c.args.block in
    let offset = c.loop-offset.offset in
    let value = c.byte-value.result in
    known_as r (λ d. agrees offset block disk d && byte d block offset == value)
    (λ d. agrees (offset + 1) block disk d) c.both-answer.result
    (λ set. agrees-more offset block value disk (disk_of r (image_of r.family.base r.family.patches set))
    c.byte-value.ensures)
    (c.both-answer.ensures r (λ d. agrees offset block disk d) (λ d. byte d block offset == value)
    c.loop-offset.invariant c.byte_is.ensures)

pub returns : goal.returns
returns g c =
    let r = c.args.self.now in
    let disk = c.args.disk.now in
    let block = c.args.block in
    let whole : c.loop-offset.offset ≡ 128 = omega arith in
    let same : c.blocks-most.result ≡ r.family.base.blocks =
    c.blocks-most.ensures.value ∙ ap (λ (d : Disk). d.blocks) c.base-base.ensures.base in
    known_in r (λ d. agrees c.loop-offset.offset block disk d) (λ d. bytes_eq (block_of d block) (block_of disk block))
    c.loop-offset.answer
    (λ set m.
    let d = disk_of r (image_of r.family.base r.family.patches set) in
    let like = c.base-base.ensures.alike set m in
    ap (λ (n : ℕ). agrees n block disk d) whole
    ∙ agrees-whole disk d block c.blocks-blocks.ensures.disk like.disk c.requires
    (omega (arith, same, like.blocks, c.if-block-most.false)))
    c.loop-offset.invariant
