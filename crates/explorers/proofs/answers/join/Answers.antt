use Rattle.std.proofs.Common.{ap, sym, subst, ◌∙◌}
use Rattle.seen_board.specs.Known.{Known}
use Rattle.seen_board.specs.Ended.{claims_made}
use Rattle.explorers.specs.Ready.{Counts}
use Rattle.explorers.proofs.Counting.{counts_both, both_made}
use Rattle.explorers.proofs.answers.join.Goals as goal

pub returns-clause-counted : goal.returns-clause-counted
returns-clause-counted g c =
    let s = c.args.all.seat in
    let u = c.args.other.seat in
    let made = both_made s u c.join.new.seat.seen c.requires.all.0.0.2 c.requires.other.0.0.2 in
    subst (Counts c.saturating_add.result) (sym (ap claims_made c.join.ensures.both ∙ made))
    (counts_both c.args.all.expanded c.args.other.expanded c.saturating_add.result (claims_made s)
    (claims_made u) c.requires.all.1 c.requires.other.1 c.saturating_add.ensures)

pub returns-clause-share : goal.returns-clause-share
returns-clause-share g c = ap (λ (s : Known). s.share) c.join.ensures.both
