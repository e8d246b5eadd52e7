use Rattle.std.proofs.Common.{subst}
use Rattle.crash_model.specs.Patches.{image_of}
use Rattle.journal_replay.specs.Changed.{DifferAtMost}
use Rattle.crash_image.specs.Moves.{Applied, without_set}
use Rattle.crash_image.proofs.Differ.{sets_differ, few_blocks}
use Rattle.crash_image.proofs.mover.Mover.blocks_to.Goals as goal

pub add_blocks-requires-clause-few : goal.add_blocks-requires-clause-few
add_blocks-requires-clause-few g c = few_blocks (without_set c.self.inside.image c.self.inside.graph.now
    c.self.inside.set).blocks c.self.inside.graph.now
    c.self.invariant.over.disk.most c.self.invariant.over.fits

pub add_blocks-undone-requires-clause-few : goal.add_blocks-undone-requires-clause-few
add_blocks-undone-requires-clause-few g c = few_blocks
    (without_set c.self.inside.image c.self.inside.graph.now c.self.inside.set).blocks c.self.inside.graph.now
    c.self.invariant.over.disk.most c.self.invariant.over.fits

pub returns : goal.returns
returns g c =
    subst (λ (a : Applied). DifferAtMost c.add_blocks.result (image_of a.base a.patches a.set)
    (image_of a.base a.patches c.args.set)) c.self.view_is
    (sets_differ (without_set c.self.inside.image c.self.inside.graph.now c.self.inside.set) c.self.inside.graph.now
    c.self.inside.set c.args.set
    c.difference.result c.difference-2.result c.add_blocks-undone.result c.add_blocks.result
    c.self.invariant.over c.self.invariant.closed (rw (← c.self.view_is) at c.requires)
    c.difference.ensures c.difference-2.ensures c.add_blocks-undone.ensures.more c.add_blocks.ensures.old
    c.add_blocks.ensures.more)
