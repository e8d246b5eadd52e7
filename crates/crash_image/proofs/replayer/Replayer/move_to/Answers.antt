use Rattle.std.proofs.Common.{◌≡◌, arith, ap}
use Rattle.crash_image.specs.Moves.{Applied}
use Rattle.crash_image.proofs.NoJournal.{journal_size, has_journal}
use Rattle.crash_image.proofs.Differ.{next_blocks, next_journal, next_generations, next_differ}
use Rattle.crash_image.proofs.replayer.Replayer.move_to.Goals as goal

pub copy_blocks-requires-clause-blocks : goal.copy_blocks-requires-clause-blocks
copy_blocks-requires-clause-blocks g c =
    let some = has_journal c.self.inside.mover c.image.result.now c.journal.result c.image.ensures
    c.journal.ensures.value c.if-journal-eq0.false in
    next_blocks c.self.inside.mover c.move_to-2.new.self c.self.inside.after c.image-2.result.now c.args.set
    c.self.inside.stale c.blocks_to.result
    (c.self.invariant some) c.move_to-2.ensures c.image-2.ensures

pub copy_blocks-requires-clause-journal : goal.copy_blocks-requires-clause-journal
copy_blocks-requires-clause-journal g c =
    let some = has_journal c.self.inside.mover c.image.result.now c.journal.result c.image.ensures
    c.journal.ensures.value c.if-journal-eq0.false in
    next_journal c.self.inside.mover c.move_to-2.new.self c.self.inside.after c.image-2.result.now c.args.set
    c.self.inside.stale c.blocks_to.result
    (c.self.invariant some) c.move_to-2.ensures c.image-2.ensures

pub copy_blocks-requires-clause-generations : goal.copy_blocks-requires-clause-generations
copy_blocks-requires-clause-generations g c =
    let some = has_journal c.self.inside.mover c.image.result.now c.journal.result c.image.ensures
    c.journal.ensures.value c.if-journal-eq0.false in
    next_generations c.self.inside.mover c.move_to-2.new.self c.self.inside.after c.image-2.result.now c.args.set
    c.self.inside.stale c.blocks_to.result
    (c.self.invariant some) c.move_to-2.ensures c.image-2.ensures

pub copy_blocks-requires-clause-others : goal.copy_blocks-requires-clause-others
copy_blocks-requires-clause-others g c =
    let some = has_journal c.self.inside.mover c.image.result.now c.journal.result c.image.ensures
    c.journal.ensures.value c.if-journal-eq0.false in
    next_differ c.self.inside.mover c.move_to-2.new.self c.self.inside.after c.image-2.result.now c.args.set
    c.self.inside.stale c.blocks_to.result
    (c.self.invariant some) c.move_to-2.ensures c.image-2.ensures c.blocks_to.ensures

pub invariant_of-self : goal.invariant_of-self
invariant_of-self g c = λ some.
    let size = journal_size c.self.inside.mover c.image.result.now c.journal.result c.image.ensures
    c.journal.ensures.value in
    let same : c.move_to.new.self.base.journal ≡ c.self.inside.mover.base.journal =
    ap (λ (a : Applied). a.base.journal) c.move_to.ensures in
    absurd (omega (arith, some, size, same, c.if-journal-eq0.true))
