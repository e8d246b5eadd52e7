use Rattle.std.proofs.Common.{◌<◌, ◌≤◌, ℕ, get_or, length, arith, refl}
use Rattle.std.proofs.lemmas.List.{append-nil}
use Rattle.crash_model.specs.declared.fault.Fault.TheVariants.{Twice}
use Rattle.fs_check.specs.References.{twice_at}
use Rattle.fs_check.proofs.Found.{pushed, passed_over}
use Rattle.fs_check.proofs.Tallied.{twice-many, twice-few, twice-never}
use Rattle.fs_check.proofs.list.push_twice.Goals as goal
use Rattle.fs_check.proofs.list.push_twice.Goals.{then-pointer_counts-block-gt1+in_ok-push}
use Rattle.fs_check.proofs.list.push_twice.Goals.{else-pointer_counts-block-gt1}

pub returns-then-most-lt2 : goal.returns-then-most-lt2
returns-then-most-lt2 g c =
    let d = c.args.image.now in
    let pointer_counts = c.args.pointer_counts.now in
    let small : (at : ℕ) → at < d.blocks → get_or pointer_counts at 0 ≤ 1 =
    λ at below. omega (
      arith,
      c.most.ensures at (omega (arith, below, c.blocks-blocks.ensures.range.1)),
      c.if-most-lt2.true,
    ) in
    rw (
      twice-never d pointer_counts (omega (arith, c.blocks-blocks.ensures.range.1, c.told-pointer_counts)) c.requires
          small,
      append-nil,
    )
    refl

pub loop-block-preserved : goal.loop-block-preserved
loop-block-preserved g c =
    let d = c.args.image.now in
    let block = c.loop-block.block in
    let pointer_counts = c.args.pointer_counts.now in
    let within : block < length pointer_counts = omega (
      arith,
      c.loop-block-test.true,
      c.blocks-blocks.ensures.range.1,
      c.fits-pointer_counts,
    ) in
    elim c.if-pointer_counts-block-gt1.branch [
      | then-pointer_counts-block-gt1+in_ok-push w ↦ rw w.found-is (pushed (twice_at d) block (Twice block)
          c.args.found.now.items c.loop-block.found.items _
          (twice-many d block pointer_counts within c.requires w.if-pointer_counts-block-gt1.true)
          w.in_ok-push.ensures.items
          c.loop-block.invariant)
      | else-pointer_counts-block-gt1 w ↦ rw w.found-is (passed_over (twice_at d) block c.args.found.now.items
          c.loop-block.found.items
          (twice-few d block pointer_counts within c.requires (omega (arith, w.if-pointer_counts-block-gt1.false)))
          c.loop-block.invariant)
    ]
