use Rattle.crash_text.proofs.LineReports.{none_past, one_past}
use Rattle.crash_text.proofs.lines.check_waits.Goals as goal

pub returns-in-Some-clause-refused : goal.returns-in-Some-clause-refused
returns-in-Some-clause-refused g c =
    one_past c.waits.result.now c.args.script.now.traced.waits c.in-Some.wait c.waits.ensures c.in-Some.ensures.lookup

pub returns-in-None-clause-few : goal.returns-in-None-clause-few
returns-in-None-clause-few g c =
    none_past c.waits.result.now c.args.script.now.traced.waits c.waits.ensures c.in-None.ensures.lookup
