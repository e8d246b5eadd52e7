use Rattle.std.proofs.Common.{◌∙◌, sym}
use Rattle.explorers.proofs.Sharing.{whole_left}
use Rattle.explorers.proofs.exploring.work_all.Goals as goal

pub join_all-requires-clause-all : goal.join_all-requires-clause-all
join_all-requires-clause-all g c = (
  (c.new_workers.ensures.idle, λ is. cc is),
  λ _. sym (c.new_workers.ensures.made ∙ c.requires.new),
)

pub join_all-requires-clause-others : goal.join_all-requires-clause-others
join_all-requires-clause-others g c = λ n d inside.
    let made = (c.in_ok-output.ensures.output n d inside).made in
    (made.idle, made.counted)

pub join_all-requires-clause-shares : goal.join_all-requires-clause-shares
join_all-requires-clause-shares g c = whole_left (λ worker. worker.seat.share) (λ output. output.seat.share) _
    c.in_ok-workers.workers.items c.in_ok-output.output.items c.in_ok-output.ensures.count
    (λ n d inside. let at = c.in_ok-output.ensures.output n d inside in (at.worker, at.is, at.made.share))
    c.in_ok-workers.ensures.shares
