use Rattle.std.proofs.Common.{ap, arith}
use Rattle.hands.specs.Known.{Known}
use Rattle.hands.proofs.Moves.{forks}
use Rattle.hands.proofs.hand.Hand.way.Goals as goal

pub another-pass-requires : goal.another-pass-requires
another-pass-requires g c =
    let same = ap (λ (hand : Known g.row.T.Denot g.row.A.Denot). hand.own.parts) c.self.view_is in
    forks _ _ (omega (arith, same, c.requires))
