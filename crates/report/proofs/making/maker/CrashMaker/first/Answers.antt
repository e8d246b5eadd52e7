use Rattle.std.proofs.Common.{subst}
use Rattle.report.specs.FirstCrashes.{IsFirstCrash}
use Rattle.report.specs.Found.{FirstCrash}
use Rattle.report.specs.Makers.{Making}
use Rattle.report.proofs.MadeCrashes.{first_made, moved_crash, moved_fault}
use Rattle.report.proofs.making.maker.CrashMaker.first.Goals as goal

pub returns-clause-made : goal.returns-clause-made
returns-clause-made g c =
    let inside = c.self.inside in
    let crash = c.in_ok-crash.crash in
    let fault = c.found-fault.result in
    let first : FirstCrash = record { fault = fault; crash = crash } in
    let set = c.args.decided.first in
    let moved = c.move_to.new.self in
    subst (λ (m : Making). IsFirstCrash m.detail m.base m.patches first) c.self.view_is
    (first_made inside.detail inside.images.base inside.images.patches set crash fault c.args.decided.fault
    (moved_crash inside.detail inside.images moved set c.move_to.ensures crash inside.graph.now c.self.invariant
    c.in_ok-crash.ensures.set c.in_ok-crash.ensures.runs c.in_ok-crash.ensures.whole)
    (moved_fault inside.detail inside.images moved set c.move_to.ensures c.image.result.now c.args.decided.fault fault
    c.image.ensures c.found-fault.ensures))
