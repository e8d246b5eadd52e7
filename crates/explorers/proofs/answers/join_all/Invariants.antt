use Rattle.std.proofs.Common.{vec_len}
use Rattle.std.specs.List.{All}
use Rattle.explorers.specs.Ready.{IsOutput, IsCounted}
use Rattle.explorers.specs.Shares.{MakeWhole}
use Rattle.explorers.proofs.answers.join_all.Given as goal

abbrev pub invariant-loop-other : goal.invariant-loop-other
invariant-loop-other g l = record {
  all : IsOutput l.board l.all;
  counted : IsCounted l.all;
  others : All (λ output. IsOutput l.board output × IsCounted output) l.others.items;
  shares : MakeWhole l.all.seat.share (λ output. output.seat.share) l.others.items;
}

abbrev pub decreases-loop-other : goal.decreases-loop-other
decreases-loop-other g l = vec_len l.others
