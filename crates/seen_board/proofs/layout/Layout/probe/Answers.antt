use Rattle.std.proofs.Common.{◌≡◌, ℕ, ◌*◌, ◌%◌, ap, ◌∙◌}
use Rattle.seen_board.proofs.Digits.{probe_is}
use Rattle.seen_board.proofs.layout.Layout.probe.Goals as goal
use Rattle.seen_board.proofs.layout.Layout.probe.Goals.{in-Ok, in-Err}

pub returns-clause-probe : goal.returns-clause-probe
returns-clause-probe c =
    let word = c.args.word in
    let places = c.args.self.now.places in
    let is : c.match-try_from.left ≡ word % (13 * places) =
    elim c.match-try_from.branch [
      | in-Ok w ↦ w.left-is ∙ ap (λ (n : ℕ). n % (13 * places)) w.in-Ok.ensures.1
      | in-Err w ↦ w.left-is
    ] in
    probe_is word places c.match-try_from.left c.requires.places.0 is
