-- What is traced under the full journal recovers, and a set of it fails only where a promise is at risk.
use Rattle.std.proofs.Common.{◌≡◌, List, Bool, Ok, Err, Result, IfOk, subst}
use Rattle.std.specs.Prelude.{All}
use Rattle.crash_model.specs.Disk.{Disk}
use Rattle.crash_model.specs.Trace.{trace_from, IsGraphOf}
use Rattle.crash_model.specs.Tracing.{Tracing, trace_start}
use Rattle.crash_model.specs.declared.modules.Module.{Module}
use Rattle.crash_model.specs.declared.patches.Patch.{Patch}
use Rattle.crash_model.specs.declared.rules.Rule.{Rule}
use Rattle.crash_model.specs.declared.steps.Step.{Step}
use Rattle.full_journal_laws.specs.Full.{GivesNames, IsFullSafe}
use Rattle.full_journal_laws.proofs.Safe.{traced_is_safe}
use Rattle.order_modules.specs.Tracer.{Trace}
use Rattle.promise_laws.proofs.Lines.{none_at_risk}
use Rattle.recoverable_traces.specs.FullJournal.{IsRecoverable, IsTraceOf, FailAtRiskAlone}

-- what follows of a result from two things that hold of it
pub both : {X E : Type 0} (P Q R : X → Type 0) (r : Result X E) → ((t : X) → P t → Q t → R t) → IfOk r P → IfOk r Q
    → IfOk r R
both P Q R (Ok t) follows p q = follows t p q
both P Q R (Err e) follows p q = tt

module _ (ordering : Module) (rules : List Rule) (whole : Bool) (base : Disk) (steps : List Step)
    (is : IsRecoverable ordering rules base) where
  module _ (s : Tracing) (patches : List Patch) (names : All GivesNames steps)
      (traced : trace_from ordering (trace_start whole base) steps ≡ Ok s)
      (graph : IsGraphOf rules base s patches) where
    pub recovers : IsFullSafe whole base steps patches
    recovers = traced_is_safe ordering rules whole base steps s patches is.journal.full is.journal.all is.disk is.sound
        is.zeros names traced graph

    pub fails_at_risk : FailAtRiskAlone base steps patches
    fails_at_risk asked demands full are risk set = none_at_risk rules whole asked base steps s patches set demands
        is.disk is.sound is.zeros names
        (subst (λ (m : Module). trace_from m (trace_start whole base) steps ≡ Ok s) is.journal.full traced)
        is.journal.all graph full are risk

  -- the graph of a trace that has come to its end
  pub ended : (t : Trace) (patches : List Patch) → IsTraceOf ordering rules whole base steps t
      → IsGraphOf t.log.rules t.log.base t.tracing patches → IsGraphOf rules base t.tracing patches
  ended t patches of graph = subst (λ (d : Disk). IsGraphOf rules d t.tracing patches) of.over
      (subst (λ (rs : List Rule). IsGraphOf rs t.log.base t.tracing patches) of.by graph)
