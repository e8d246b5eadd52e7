use Rattle.std.proofs.Common.{refl, sym, subst, ap, ◌∙◌}
use Rattle.board_rule.specs.Lists.{Has}
use Rattle.seen_board.specs.Known.{Known}
use Rattle.seen_board.specs.Ended.{claims_made}
use Rattle.explorers.specs.Ready.{IsIdle}
use Rattle.explorers.proofs.Meeting.{met_copies}
use Rattle.explorers.proofs.exploring.new_worker.Goals as goal

pub returns-clause-idle : goal.returns-clause-idle
returns-clause-idle g c = rw c.split.ensures.same c.requires.idle

pub returns-clause-seen : goal.returns-clause-seen
returns-clause-seen g c = rw c.split.ensures.same refl

pub returns-clause-ready : goal.returns-clause-ready
returns-clause-ready g c =
    let b = c.args.board.now in
    let worker = c.new-2.result in
    let start = g.S.Space.initial c.args.space.now in
    let split = sym (c.new-2.ensures.seat ∙ c.split.ensures.new) in
    let has : Has worker.seat.seen start = subst (λ (s : Known). Has s.seen start) split c.requires.start in
    let seat : IsIdle b worker.seat = subst (IsIdle b) split (c.requires.idle.0, refl, refl) in
    record {
      free = record {
        explored = c.requires.space;
        of = seat.0;
        free = seat.1;
        own = rw c.new-2.ensures.scratch c.in_ok-scratch.ensures;
        recent = rw c.new-2.ensures.recent
            (met_copies c.in_ok-recent.recent c.start.result worker.seat.seen c.in_ok-recent.ensures
            (rw c.start.ensures has));
      };
      unclaimed = seat.2;
      counted = λ _. c.new-2.ensures.expanded ∙ sym (ap claims_made (c.new-2.ensures.seat ∙ c.split.ensures.new));
    }

pub returns-clause-made : goal.returns-clause-made
returns-clause-made g c = ap claims_made c.split.ensures.same

pub returns-clause-share : goal.returns-clause-share
returns-clause-share g c = ap (λ (s : Known). s.share) c.split.ensures.same

pub returns-clause-half : goal.returns-clause-half
returns-clause-half g c = ap (λ (s : Known). s.share) (c.new-2.ensures.seat ∙ c.split.ensures.new)
