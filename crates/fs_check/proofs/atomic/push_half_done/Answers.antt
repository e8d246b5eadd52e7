use Rattle.std.proofs.Common.{sym, ◌∙◌}
use Rattle.std.proofs.lemmas.Bool.{false≢true}
use Rattle.fs_check.proofs.HalfDone.{showing-listed, showing-none}
use Rattle.fs_check.proofs.atomic.push_half_done.Goals as goal

pub returns-in_ok-push : goal.returns-in_ok-push
returns-in_ok-push g c = c.in_ok-push.ensures.items
    ∙ showing-listed c.args.demands.now.disks c.args.image.now c.args.found.now.items
    (λ shows. false≢true (sym c.if-not-shows_some.true ∙ c.shows_some.ensures.1 shows))

pub returns-else-not-shows_some : goal.returns-else-not-shows_some
returns-else-not-shows_some g c = showing-none c.args.demands.now.disks c.args.image.now c.args.found.now.items
    (c.shows_some.ensures.0 c.if-not-shows_some.false)
