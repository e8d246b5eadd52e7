-- A trace under way.
use Rattle.std.specs.Prelude.{◌≡◌, ◌≢◌, ℕ, ◌+◌, ◌≤◌, List, map, Option, Result, Ok, Err, IfErr}
use Rattle.std.specs.Borrow.{Bor}
use Rattle.crash_model.specs.declared.disk_bytes.TheConstants.{JOURNAL_AT}
use Rattle.crash_model.specs.Disk.{Disk, IsDisk}
use Rattle.crash_model.specs.Tracing.{Tracing}
use Rattle.crash_model.specs.Waiting.{Wait}
use Rattle.crash_model.specs.declared.refusals.TraceFault.{TraceFault}
use Rattle.crash_model.specs.declared.refusals.TraceFault.TheVariants.{OutOfMemory}
use Rattle.crash_model.specs.declared.modules.Module.{Module}
use Rattle.crash_model.specs.declared.modules.Module.TheVariants.{Async, Soft, Meta, Full}
use Rattle.crash_model.specs.declared.operations.Op.{Op}
use Rattle.crash_model.specs.declared.steps.Act.{Act}
use Rattle.crash_model.specs.declared.steps.Act.TheVariants.{Do}
use Rattle.crash_model.specs.declared.steps.Step.{Step}
use Rattle.inode_fs.specs.Inside.{GivesName}
use Rattle.order_modules.specs.Log.{Log}

abbrev pub names_by : List (Bor (List ℕ)) → List (List ℕ)
names_by names = map (λ name. name.now) names

-- the module writes in place, or through the journal
abbrev pub IsOrdered : Module → Type 0
IsOrdered Async = Unit {0}
IsOrdered Soft = Unit {0}
IsOrdered Meta = ⊥
IsOrdered Full = ⊥

abbrev pub IsJournaled : Module → Type 0
IsJournaled Async = ⊥
IsJournaled Soft = ⊥
IsJournaled Meta = Unit {0}
IsJournaled Full = Unit {0}

-- what an act does, if it is an operation, gives a name
abbrev pub GivesNameIfAny : Act → Type 0
GivesNameIfAny (Do op) = GivesName op
GivesNameIfAny _ = Unit {0}

-- the same of a step, in the words of `full_journal_laws`
abbrev pub GivesNames : Step → Type 0
GivesNames step = (op : Op) → step.act ≡ Do op → GivesName op

pub record Trace : Type 0 where
  pub log : Log
  pub tracing : Tracing

-- by what a tracer keeps
abbrev pub trace_of : Log → Disk → ℕ → ℕ → Option (List ℕ) → List (List ℕ) → List (List ℕ) → ℕ → List Wait → Trace
trace_of log disk op_number next current opened ended forced waits = record {
  log = log;
  tracing = record {
    disk = disk;
    emitted = log.emitted;
    op_number = op_number;
    journal = next;
    whole = log.whole;
    current = current;
    opened = opened;
    ended = ended;
    links = log.links;
    forced = forced;
    waits = waits;
  };
}

pub record IsTrace (t : Trace) : Type 0 where
  pub disk : IsDisk t.tracing.disk
  pub blocks : t.tracing.disk.blocks ≡ t.log.base.blocks
  pub from : JOURNAL_AT ≤ t.tracing.journal
  pub to : t.tracing.journal ≤ JOURNAL_AT + t.tracing.disk.journal
  -- each transaction has taken a journal block at least
  pub counted : IsJournaled t.log.kind → t.tracing.op_number + 3 ≤ t.tracing.journal

-- the answer is Ok of the new trace, over the same base by the same ordering
pub record Moves (old new : Trace) (answer : Result Tracing TraceFault) : Type 0 where
  pub base : new.log.base ≡ old.log.base
  pub kind : new.log.kind ≡ old.log.kind
  pub rules : new.log.rules ≡ old.log.rules
  pub whole : new.log.whole ≡ old.log.whole
  pub op_numbers : new.tracing.op_number ≤ old.tracing.op_number + 1
  pub answered : answer ≡ Ok new.tracing

-- a refusal other than out of memory is that of what is defined
abbrev pub RefusesAs : {A B : Type 0} → Result A TraceFault → Result B TraceFault → Type 0
RefusesAs answer defined = IfErr answer (λ refusal. refusal ≢ OutOfMemory → defined ≡ Err refusal)
