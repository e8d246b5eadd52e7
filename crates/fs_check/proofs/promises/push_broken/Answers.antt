use Rattle.std.proofs.Common.{arith, refl}
use Rattle.std.proofs.lemmas.List.{append-nil}
use Rattle.crash_model.proofs.EachBelow.{some_below-zero}
use Rattle.fs_check.specs.Broken.{line_behind}
use Rattle.fs_check.proofs.BrokenLines.{broken_below, all_listed, one_listed}
use Rattle.fs_check.proofs.promises.push_broken.Goals as goal

pub loop-line-init : goal.loop-line-init
loop-line-init g c = record { listed = rw (some_below-zero, append-nil) refl; within = omega arith }

pub loop-line-smaller : goal.loop-line-smaller
loop-line-smaller g c =
    let is = c.in-Some.ensures in
    omega (arith, is.0, broken_below c.args.set c.args.image.now c.args.promises.now c.in-Some.line is.1)

pub loop-line-preserved : goal.loop-line-preserved
loop-line-preserved g c =
    let is = c.in-Some.ensures in
    record {
      listed = one_listed c.args.set c.args.image.now c.args.promises.now (line_behind c.loop-line.last) c.in-Some.line
          c.args.found.now.items c.loop-line.found.items _ is c.in_ok-push.ensures.items c.loop-line.invariant.listed;
      within = omega (arith, broken_below c.args.set c.args.image.now c.args.promises.now c.in-Some.line is.1);
    }

pub returns : goal.returns
returns g c = all_listed c.args.set c.args.image.now c.args.promises.now (line_behind c.loop-line.last)
    c.args.found.now.items c.loop-line.found.items c.loop-line.invariant.within c.in_default.ensures
    c.loop-line.invariant.listed
