use Rattle.recoverable_traces.specs.FullJournal.{IsRecoverable}
use Rattle.recoverable_traces.proofs.Recovering.{both, recovers, fails_at_risk}
use Rattle.recoverable_traces.proofs.trace.Goals as goal

pub returns-clause-recovers : goal.returns-clause-recovers
returns-clause-recovers g c = λ journal.
    let ordering = c.args.ordering.now in
    let is : IsRecoverable ordering.«module» ordering.rules.items c.args.base.now = record {
      journal = journal;
      disk = c.blocks-blocks.ensures.disk;
      sound = c.requires.sound.0;
      zeros = c.requires.sound.1;
    } in
    both _ _ _ c.trace.result
    (λ t names ok. recovers ordering.«module» ordering.rules.items ordering.whole_blocks c.args.base.now
    c.args.steps.now is ok.0 t.patches names ok.1 ok.2)
    c.trace.ensures.names c.trace.ensures.ok

pub returns-clause-safe : goal.returns-clause-safe
returns-clause-safe g c = λ journal.
    let ordering = c.args.ordering.now in
    let is : IsRecoverable ordering.«module» ordering.rules.items c.args.base.now = record {
      journal = journal;
      disk = c.blocks-blocks.ensures.disk;
      sound = c.requires.sound.0;
      zeros = c.requires.sound.1;
    } in
    both _ _ _ c.trace.result
    (λ t names ok. fails_at_risk ordering.«module» ordering.rules.items ordering.whole_blocks c.args.base.now
    c.args.steps.now is ok.0 t.patches names ok.1 ok.2)
    c.trace.ensures.names c.trace.ensures.ok
