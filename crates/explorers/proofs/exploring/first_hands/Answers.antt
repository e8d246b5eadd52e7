use Rattle.std.proofs.Common.{◌≡◌, ◌<◌, length, arith, ap, ◌∙◌}
use Rattle.std.proofs.lemmas.List.{length-set}
use Rattle.std.proofs.lemmas.List.Elements.{All-set}
use Rattle.explorers.proofs.exploring.first_hands.Goals as goal

pub returns-in-Ok-clause-count : goal.returns-in-Ok-clause-count
returns-in-Ok-clause-count g c = rw length-set c.in_ok-all.ensures.count

pub returns-in-Ok-clause-ways : goal.returns-in-Ok-clause-ways
returns-in-Ok-clause-ways g c =
    let inside : 0 < length c.in_ok-all.all.items = omega (arith, c.requires.workers, c.in_ok-all.ensures.count) in
    let first : length c.index_mut.result.now.ways ≡ c.args.workers =
    ap (λ hand. length hand.ways) c.index_mut.ensures.value
    ∙ c.in_ok-all.ensures.ways 0 c.index_mut.result.now inside in
    All-set (λ hand. length hand.ways ≡ c.args.workers) c.in_ok-all.all.items 0 c.push.new.self
    (ap (λ hand. length hand.ways) c.in-Ok.ensures.pushed ∙ first) c.in_ok-all.ensures.ways
