use Rattle.crash_image.proofs.Differ.{replayed_first}
use Rattle.crash_image.proofs.replayer.Replayer.new.Goals as goal

pub invariant_of-result : goal.invariant_of-result
invariant_of-result g c = λ some. replayed_first c.new-mover.result c.args.base c.args.copy c.replay-stale.new.image
    c.args.graph.now c.replay-stale.result
    c.new-mover.ensures c.requires.same c.replay-stale.ensures.replayed c.replay-stale.ensures.others
