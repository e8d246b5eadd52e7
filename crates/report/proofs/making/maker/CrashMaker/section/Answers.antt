use Rattle.std.proofs.Common.{subst}
use Rattle.report.specs.Made.{IsSection}
use Rattle.report.specs.Makers.{Making}
use Rattle.report.specs.Parts.{Section}
use Rattle.report.proofs.MadeCrashes.{moved_crash, moved_faults, section_made}
use Rattle.report.proofs.making.maker.CrashMaker.section.Goals as goal

pub returns-clause-made : goal.returns-clause-made
returns-clause-made g c =
    let inside = c.self.inside in
    let crash = c.in_ok-crash.crash in
    let faults = c.in_ok-faults.faults.items in
    let section : Section = record { crash = crash; faults = faults } in
    let moved = c.move_to.new.self in
    subst (λ (m : Making). IsSection m.detail m.base m.patches section) c.self.view_is
    (section_made inside.detail inside.images.base inside.images.patches c.args.set crash faults
    (moved_crash inside.detail inside.images moved c.args.set c.move_to.ensures crash inside.graph.now c.self.invariant
    c.in_ok-crash.ensures.set c.in_ok-crash.ensures.runs c.in_ok-crash.ensures.whole)
    (moved_faults inside.detail inside.images moved c.args.set c.move_to.ensures c.image.result.now faults
    c.image.ensures c.in_ok-faults.ensures))
