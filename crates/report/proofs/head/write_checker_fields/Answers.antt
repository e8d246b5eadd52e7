use Rattle.report.proofs.Adding.{ends, fields_then, no_fields}
use Rattle.report.specs.HeadJson.{checker_fields}
use Rattle.report.proofs.head.write_checker_fields.Goals as goal
use Rattle.report.proofs.head.write_checker_fields.Goals.{in-Some+in_ok-write_set, in_default}

pub returns : goal.returns
unfolding checker_fields
returns c = ends c.write_flag.result c.write_flag.ensures (λ last. fields_then (elim c.match-settings.branch [
  | in-Some+in_ok-write_set w ↦ rw (w.out-is, w.in-Some.is) (rw w.from.ensures at w.in_ok-write_set.ensures)
  | in_default w ↦ rw (w.out-is, w.in_default.is) no_fields
]) last)
