use Rattle.traced_patches.specs.Labels.{wait_by}
use Rattle.report.specs.Explained.{wait_json}
use Rattle.report.proofs.Adding.{ends, fields_then, mapped_list}
use Rattle.report.specs.ReportsJson.{last_fields}
use Rattle.report.proofs.graph.Head.write_last_fields.Goals as goal

pub returns : goal.returns
unfolding last_fields
returns g c = ends c.write_rules_fields.result c.write_rules_fields.ensures (λ last.
    fields_then (fields_then (fields_then (fields_then (fields_then c.in_ok-write_number.ensures
    c.in_ok-write_list_if.ensures) c.in_ok-write_flag.ensures) c.in_ok-write_list_if-2.ensures) (rw (mapped_list
    (wait_json c.args.form.numbers) wait_by c.args.self.now.waits.now) at c.in_ok-write_list_if-3.ensures))
    last)
