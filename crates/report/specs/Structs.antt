-- How these definitions see the reports of the code.
use Rattle.crash_model.specs.Reasons.{blocks_of}
use Rattle.traced_patches.specs.Labels.{waits_by}
use Rattle.report.specs.declared.graph.Head as graph
use Rattle.report.specs.declared.reports.FailingSets as reports_sets
use Rattle.report.specs.Reports.{Head, FailingSets}

abbrev pub head_of : {A : Type 0} → graph.Head A → Head
head_of h = record {
  settings = h.settings.now;
  patches = h.patches;
  closed = h.closed;
  base = blocks_of h.base.now;
  trace = h.trace.now;
  waits = waits_by h.waits.now;
  promises = h.promises.now;
  promising = h.promising;
}

abbrev pub sets_of : {A : Type 0} → reports_sets.FailingSets A → FailingSets
sets_of r = record { head = head_of r.head; sections = r.sections.now }
