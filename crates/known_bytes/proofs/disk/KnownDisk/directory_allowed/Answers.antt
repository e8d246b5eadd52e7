use Rattle.std.proofs.Common.{◌≡◌, ◌<◌, ◌^◌, ℕ, true, false, refl, sym, ◌∙◌, arith}
use Rattle.std.specs.Prelude.{if◌then◌else◌}
use Rattle.crash_model.specs.declared.showing.Shown.TheVariants.{Nothing, Directory}
use Rattle.crash_model.specs.Layout.{pointer_of, counts}
use Rattle.crash_model.specs.Patches.{image_of}
use Rattle.known_bytes.specs.Reading.{InEachDisk, disk_of}
use Rattle.known_bytes.proofs.EachValue.{taken_skip, taken_more, taken_all}
use Rattle.known_bytes.proofs.disk.KnownDisk.directory_allowed.Goals as goal
use Rattle.known_bytes.proofs.disk.KnownDisk.directory_allowed.Goals.{then-has+else-not-directory_at_allowed, else-has}

pub loop-block-init : goal.loop-block-init
loop-block-init g c = record { each = λ value less is. absurd (omega (arith, less)) }

pub loop-block-preserved : goal.loop-block-preserved
loop-block-preserved g c =
    let low = c.pointers-blocks.result.low in
    let high = c.pointers-blocks.result.high in
    let n = c.loop-block.block in
    let P : ℕ → Type 0 = λ value. InEachDisk c.args.self.now (λ d. pointer_of d c.args.dir 0 ≡ value
    → g.S.Showing.excuses c.args.showing.now (if counts d c.args.dir then Directory else Nothing)) in
    elim c.if-has.branch [
      | then-has+else-not-directory_at_allowed w ↦ taken_more low high n P P (λ value before. before)
          (w.directory_at_allowed.ensures w.if-not-directory_at_allowed.false) c.loop-block.invariant
      | else-has w ↦ taken_skip low high n P
          (λ is. let never : true ≡ false = sym (c.has.ensures.1 is) ∙ w.if-has.false in absurd (cc))
          c.loop-block.invariant
    ]

pub returns : goal.returns
returns g c = λ allowed set m.
    let r = c.args.self.now in
    let few : c.pointers-blocks.result.high < 2 ^ 128 = omega arith in
    taken_all c.pointers-blocks.result.low c.pointers-blocks.result.high c.loop-block.block
    (λ value. InEachDisk r (λ d. pointer_of d c.args.dir 0 ≡ value
    → g.S.Showing.excuses c.args.showing.now (if counts d c.args.dir then Directory else Nothing))) few (omega arith)
    c.loop-block.invariant (pointer_of (disk_of r (image_of r.family.base r.family.patches set)) c.args.dir 0)
    (c.pointers-blocks.ensures set m) set m refl
