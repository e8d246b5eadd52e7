use Rattle.full_journal_laws.proofs.Failing.{zero-kept}
use Rattle.crash_text.proofs.run.base_of.Goals as goal

pub returns-clause-sound : goal.returns-clause-sound
returns-clause-sound g c =
    let base = c.build_base.new.image in
    let fresh = c.in-Ok.ensures.sound in
    let kept = c.in_ok-build_base.ensures in
    (kept.sound fresh.0, zero-kept c.in-Ok.base base kept.journal.0 kept.journal.1 fresh.1)
