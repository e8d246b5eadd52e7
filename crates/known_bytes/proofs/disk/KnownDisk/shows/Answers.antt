use Rattle.std.proofs.Common.{◌≡◌, ℕ, arith, ap, ◌∙◌}
use Rattle.crash_model.specs.Atomic.{shows}
use Rattle.crash_model.specs.Patches.{image_of}
use Rattle.known_bytes.specs.Reading.{disk_of}
use Rattle.known_bytes.specs.Shown.{shows_below}
use Rattle.known_bytes.proofs.Answered.{known_as}
use Rattle.known_bytes.proofs.ShownDisks.{below-whole}
use Rattle.known_bytes.proofs.disk.KnownDisk.shows.Goals as goal

pub returns : goal.returns
returns g c =
    let r = c.args.self.now in
    let disk = c.args.disk.now in
    let whole : c.loop-block.block ≡ disk.blocks = omega (arith, c.blocks-blocks.ensures.value) in
    known_as r (λ d. shows_below c.loop-block.block disk d) (λ d. shows d disk) c.loop-block.answer
    (λ set.
    let d = disk_of r (image_of r.family.base r.family.patches set) in
    ap (λ (n : ℕ). shows_below n disk d) whole ∙ below-whole disk d)
    c.loop-block.invariant
