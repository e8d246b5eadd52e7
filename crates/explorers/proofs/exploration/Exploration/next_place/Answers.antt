use Rattle.explorers.proofs.Meeting.{ready_on}
use Rattle.explorers.proofs.exploration.Exploration.next_place.Goals as goal

pub returns : goal.returns
returns g c =
    let free = c.requires.ready.free in
    record {
      ready = ready_on _ _ _ c.args.mine.now.seat _ free.explored free.own free.recent c.requires.ready.counted
          c.learn.ensures.idle c.learn.ensures.keeps c.learn.ensures.sees;
      share = c.learn.ensures.keeps.share;
    }
