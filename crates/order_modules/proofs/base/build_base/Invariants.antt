use Rattle.std.proofs.Common.{◌≡◌, drop}
use Rattle.crash_model.specs.Trace.{base_from}
use Rattle.crash_model.specs.Sound.{IsSound}
use Rattle.inode_fs.specs.Inside.{HasSameJournal}
use Rattle.order_modules.specs.Base.{disk_before_refusal, StepsMake, StepsStop}
use Rattle.crash_model.specs.Disk.{Disk}
use Rattle.crash_model.specs.declared.refusals.TraceFault.{TraceFault}
use Rattle.order_modules.proofs.base.build_base.Given as goal

abbrev pub invariant-loop-step : goal.invariant-loop-step
invariant-loop-step g l = record {
  built : base_from l.image (drop l.step-index l.steps) ≡ base_from l.fn.image l.steps;
  journal : HasSameJournal l.fn.image l.image;
  same_journal : l.image.journal ≡ l.fn.image.journal;
  sound : IsSound l.fn.image → IsSound l.image;
  means : IsSound l.fn.image → (end : Disk) → StepsMake l.image (drop l.step-index l.steps) end
      → StepsMake l.fn.image l.steps end;
  stops : IsSound l.fn.image → (end : Disk) (fault : TraceFault)
      → StepsStop l.image (drop l.step-index l.steps) end fault → StepsStop l.fn.image l.steps end fault;
  before : disk_before_refusal l.image (drop l.step-index l.steps) ≡ disk_before_refusal l.fn.image l.steps;
}
