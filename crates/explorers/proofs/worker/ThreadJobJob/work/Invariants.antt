use Rattle.std.specs.Prelude.{◌≡◌, false}
use Rattle.explorers.specs.Ready.{IsReady}
use Rattle.explorers.proofs.worker.ThreadJobJob.work.Given as goal

abbrev pub invariant-loop : goal.invariant-loop
invariant-loop g l = record {
  ready : IsReady l.self.exploration.now.board.now l.self.exploration.now.space.now g.S.Space.is_own l.worker;
  share : l.worker.seat.share ≡ l.fn.worker.seat.share;
  within : l.is_over ≡ false;
}
