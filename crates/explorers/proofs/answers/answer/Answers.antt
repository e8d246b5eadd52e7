use Rattle.std.proofs.Common.{◌≡◌, ◌∙◌, ap, subst, sym}
use Rattle.board_rule.specs.Rule.{IsWhole}
use Rattle.seen_board.specs.Known.{Known}
use Rattle.seen_board.specs.Ended.{claims_made}
use Rattle.explorers.specs.Ready.{Counts}
use Rattle.explorers.proofs.Counting.{made_few, made_each, total_is}
use Rattle.explorers.proofs.Overfilling.{overfills_rows}
use Rattle.explorers.proofs.answers.answer.Goals as goal

pub returns-then-is_over-clause-too_many : goal.returns-then-is_over-clause-too_many
returns-then-is_over-clause-too_many g c = λ _.
    let same = c.finished-is_finished.ensures.no c.if-is_finished.false in
    let over : c.finished-is_finished.new.seat.over ≡ 1 = ap (λ (seat : Known). seat.over) same
    ∙ c.requires.output.0.1 c.if-is_over.true in
    overfills_rows _ c.args.limit
    (rw (c.requires.board.0, c.requires.board.1, c.requires.board.2) at c.close-contents.ensures.over over)

pub returns-then-is_finished-clause-each_once : goal.returns-then-is_finished-clause-each_once
returns-then-is_finished-clause-each_once g c =
    let same = c.finished-is_finished.ensures.yes c.if-is_finished.true in
    let seat = c.finished-is_finished.new.seat in
    let whole : IsWhole seat.share = subst IsWhole (sym (ap (λ (s : Known). s.share) same)) c.requires.whole in
    let counted : Counts c.args.output.expanded (claims_made seat) =
    subst (Counts c.args.output.expanded) (sym (ap claims_made same)) c.requires.output.1 in
    total_is c.args.output.expanded _ c.collect-found.result
    (made_each _ _ c.args.board.places c.args.output.expanded seat c.close-contents.result
    c.close-contents.ensures.entries (rw c.requires.board.1 c.requires.small)
    (c.close-contents.ensures.accounts whole) counted (ap (λ (s : Known). s.finished) same))
    c.collect-found.ensures.total

pub returns-then-is_finished-clause-at_most_once : goal.returns-then-is_finished-clause-at_most_once
returns-then-is_finished-clause-at_most_once g c =
    let same = c.finished-is_finished.ensures.yes c.if-is_finished.true in
    let seat = c.finished-is_finished.new.seat in
    let whole : IsWhole seat.share = subst IsWhole (sym (ap (λ (s : Known). s.share) same)) c.requires.whole in
    let counted : Counts c.args.output.expanded (claims_made seat) =
    subst (Counts c.args.output.expanded) (sym (ap claims_made same)) c.requires.output.1 in
    rw (← c.requires.board.2) (made_few _ _ c.args.board.places c.args.output.expanded seat
    c.close-contents.result c.close-contents.ensures.entries (rw c.requires.board.1 c.requires.small)
    (c.close-contents.ensures.accounts whole) counted)

pub returns-then-is_over-clause-at_most_once : goal.returns-then-is_over-clause-at_most_once
returns-then-is_over-clause-at_most_once g c =
    let same = c.finished-is_finished.ensures.no c.if-is_finished.false in
    let seat = c.finished-is_finished.new.seat in
    let whole : IsWhole seat.share = subst IsWhole (sym (ap (λ (s : Known). s.share) same)) c.requires.whole in
    let counted : Counts c.args.output.expanded (claims_made seat) =
    subst (Counts c.args.output.expanded) (sym (ap claims_made same)) c.requires.output.1 in
    rw (← c.requires.board.2) (made_few _ _ c.args.board.places c.args.output.expanded seat
    c.close-contents.result c.close-contents.ensures.entries (rw c.requires.board.1 c.requires.small)
    (c.close-contents.ensures.accounts whole) counted)

pub returns-clause-at_most_once : goal.returns-clause-at_most_once
returns-clause-at_most_once g c =
    let same = c.finished-is_finished.ensures.no c.if-is_finished.false in
    let seat = c.finished-is_finished.new.seat in
    let whole : IsWhole seat.share = subst IsWhole (sym (ap (λ (s : Known). s.share) same)) c.requires.whole in
    let counted : Counts c.args.output.expanded (claims_made seat) =
    subst (Counts c.args.output.expanded) (sym (ap claims_made same)) c.requires.output.1 in
    rw (← c.requires.board.2) (made_few _ _ c.args.board.places c.args.output.expanded seat
    c.close-contents.result c.close-contents.ensures.entries (rw c.requires.board.1 c.requires.small)
    (c.close-contents.ensures.accounts whole) counted)
