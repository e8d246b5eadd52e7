use Rattle.std.proofs.Common.{arith}
use Rattle.std.specs.Prelude.{Some}
use Rattle.std.proofs.lemmas.List.Elements.{All-pop}
use Rattle.explorers.specs.declared.worker.WorkerOutput.{WorkerOutput}
use Rattle.explorers.specs.Ready.{IsOutput, IsCounted}
use Rattle.explorers.proofs.Sharing.{whole_join, whole_end}
use Rattle.explorers.proofs.answers.join_all.Goals as goal

pub join-all-requires-clause-all : goal.join-all-requires-clause-all
join-all-requires-clause-all g c = (c.loop-other.invariant.all, c.loop-other.invariant.counted)

pub join-all-requires-clause-other : goal.join-all-requires-clause-other
join-all-requires-clause-other g c =
    (All-pop (λ output. IsOutput c.args.board.now output × IsCounted output) c.loop-other.others.items
    c.pop.new.self.items
    (Some c.in-Some.other) c.in-Some.ensures.items c.loop-other.invariant.others).1

pub loop-other-preserved : goal.loop-other-preserved
loop-other-preserved g c = record {
  all = c.join-all.ensures.output;
  counted = c.join-all.ensures.counted;
  others = (All-pop (λ output. IsOutput c.args.board.now output × IsCounted output) c.loop-other.others.items
      c.pop.new.self.items (Some c.in-Some.other) c.in-Some.ensures.items c.loop-other.invariant.others).0;
  shares = whole_join (λ output. output.seat.share) c.loop-other.all.seat.share c.join-all.result.seat.share
      c.loop-other.others.items c.pop.new.self.items c.in-Some.other c.in-Some.ensures.items c.join-all.ensures.share
      c.loop-other.invariant.shares;
}

pub returns-clause-whole : goal.returns-clause-whole
returns-clause-whole g c = whole_end (λ (output : WorkerOutput). output.seat.share) c.loop-other.all.seat.share
    c.loop-other.others.items (omega (arith, c.in_default.ensures.cases.0, c.loop-other.others.ok))
    c.loop-other.invariant.shares
