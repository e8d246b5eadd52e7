use Rattle.std.proofs.Common.{◌≡◌, subst}
use Rattle.crash_model.specs.Patches.{image_of}
use Rattle.crash_model.specs.Replay.{image_after_replay}
use Rattle.crash_image.specs.Moves.{Applied}
use Rattle.crash_image.proofs.NoJournal.{has_journal, nothing_replayed}
use Rattle.crash_image.proofs.replayer.Replayer.image.Goals as goal

pub returns-then-journal-eq0 : goal.returns-then-journal-eq0
returns-then-journal-eq0 g c =
    let before = c.image-before.result.now in
    subst (λ (a : Applied). before ≡ image_after_replay (image_of a.base a.patches a.set)) c.self.view_is
    (nothing_replayed c.self.inside.mover before c.journal.result c.image-before.ensures c.journal.ensures.disk
    c.journal.ensures.value c.if-journal-eq0.true)

pub returns-else-journal-eq0 : goal.returns-else-journal-eq0
returns-else-journal-eq0 g c =
    let some = has_journal c.self.inside.mover c.image-before.result.now c.journal.result c.image-before.ensures
    c.journal.ensures.value c.if-journal-eq0.false in
    subst (λ (a : Applied). c.self.inside.after ≡ image_after_replay (image_of a.base a.patches a.set)) c.self.view_is
    (c.self.invariant some).is
