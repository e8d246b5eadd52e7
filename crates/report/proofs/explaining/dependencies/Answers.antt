use Rattle.std.proofs.Common.{append-nil, refl, sym, ◌∙◌}
use Rattle.crash_model.proofs.EachBelow.{some_below-zero}
use Rattle.traced_patches.specs.Traced.{dependency_at}
use Rattle.report.proofs.Numbered.{more, one_more}
use Rattle.report.proofs.explaining.dependencies.Goals as goal
use Rattle.report.proofs.explaining.dependencies.Goals.{in-Some+in_ok-push, in_default}

pub loop-earlier-init : goal.loop-earlier-init
loop-earlier-init g c = λ q at. rw (c.new-after.ensures.items, some_below-zero) refl

pub loop-earlier-preserved : goal.loop-earlier-preserved
loop-earlier-preserved g c = λ q at. elim c.match-dependency.branch [
  | in-Some+in_ok-push w ↦ one_more (dependency_at c.args.traced.now q) c.loop-earlier.earlier
      c.loop-earlier.after.items c.match-dependency.after.items w.in-Some.one (c.loop-earlier.invariant q at)
      (rw w.after-is w.in_ok-push.ensures.items) (sym (c.dependency.ensures q at) ∙ w.in-Some.is)
  | in_default w ↦ more (dependency_at c.args.traced.now q) c.loop-earlier.earlier c.loop-earlier.after.items
      c.match-dependency.after.items c.dependency.result (c.loop-earlier.invariant q at)
      (rw (w.after-is, w.in_default.is) (sym (append-nil c.loop-earlier.after.items))) (c.dependency.ensures q at)
]
