use Rattle.report.proofs.Adding.{ends, then}
use Rattle.report.specs.Head.{settings_text}
use Rattle.report.proofs.head.write_settings.Goals as goal

pub returns : goal.returns
unfolding settings_text
returns c = ends c.write_counted.result c.write_counted.ensures (λ last.
    then (then (then (then (then (then (then (then c.in_ok-write_module.ensures (rw (
      c.as_slice.ensures.value,
      c.taken_out.ensures,
    ) at c.in_ok-write_lines.ensures)) (rw (c.as_slice-2.ensures.value, c.put_in.ensures) at
    c.in_ok-write_lines-2.ensures)) c.in_ok-write_flag.ensures) c.in_ok-write_flag-2.ensures)
    c.in_ok-write_flag-3.ensures) c.in_ok-write_flag-4.ensures) c.in_ok-write_flag-5.ensures)
    last)
