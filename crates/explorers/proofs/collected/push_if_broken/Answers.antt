use Rattle.std.proofs.Common.{sym, ◌∙◌}
use Rattle.explorers.proofs.Entries.{broken_push, other_stays}
use Rattle.explorers.proofs.collected.push_if_broken.Goals as goal

pub returns-in_ok-push : goal.returns-in_ok-push
returns-in_ok-push g c =
    let place = c.args.place in
    rw c.in_ok-push.ensures.items (rw c.word.ensures (broken_push c.args.contents.now c.requires.short place.shard
    place.at c.requires.place.0 c.requires.place.1 c.args.broken.now.items c.requires.distinct
    (sym c.life.ensures ∙ c.in-Broken.is) c.requires.before))

pub returns-in_default : goal.returns-in_default
returns-in_default g c =
    let place = c.args.place in
    other_stays c.args.contents.now c.requires.short place.shard place.at c.requires.place.0 c.requires.place.1
    c.args.broken.now.items (λ is. c.in_default.not-Broken (c.life.ensures ∙ is)) c.requires.before
