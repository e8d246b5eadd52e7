-- The graph of a log.
use Rattle.std.proofs.Common.{◌≡◌, List, Bool, map, sym, subst, ap, ◌∙◌}
use Rattle.std.specs.Prelude.{◌↔◌, Some, slice_get, slice_index, IsTrue}
use Rattle.patch_sets.specs.Sets.{Has}
use Rattle.crash_model.specs.Disk.{Disk}
use Rattle.crash_model.specs.Patches.{AreUndo, deps_of}
use Rattle.crash_model.specs.Trace.{Emitted, IsGraphOf, depends}
use Rattle.crash_model.specs.Tracing.{Tracing}
use Rattle.crash_model.specs.declared.rules.Rule.{Rule}
use Rattle.order_modules.specs.Log.{Log, IsLog}

-- it is that of each trace with the log's patches and links
pub graph_of_log : (log : Log) (rules : List Rule) (base : Disk) (s : Tracing) → IsLog log → log.rules ≡ rules
    → log.base ≡ base → s.emitted ≡ log.emitted → s.links ≡ log.links
    → s.whole ≡ log.whole → IsGraphOf rules base s log.patches
graph_of_log log rules base s is same_rules same_base same_emitted same_links same_whole = record {
  places = is.graph.places ∙ sym (ap (λ (es : List Emitted). map (λ e. e.place) es) same_emitted);
  undo = subst (λ (d : Disk). AreUndo d log.patches) same_base is.graph.undo;
  earlier = is.graph.earlier;
  exactly = λ q p later before less one two.
      subst (λ (w : Bool). Has (slice_index (deps_of log.patches) q) p ↔ IsTrue
      (depends rules w s.links later p before))
      (sym same_whole)
      (subst (λ ls. Has (slice_index (deps_of log.patches) q) p ↔ IsTrue (depends rules log.whole ls later p before))
      (sym same_links)
      (subst (λ rs. Has (slice_index (deps_of log.patches) q) p
      ↔ IsTrue (depends rs log.whole log.links later p before)) same_rules
      (is.graph.exactly q p later before less
      (subst (λ (es : List Emitted). slice_get es q ≡ Some later) same_emitted one)
      (subst (λ (es : List Emitted). slice_get es p ≡ Some before) same_emitted two))));
}
