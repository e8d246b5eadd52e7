use Rattle.std.proofs.Common.{rules}
use Rattle.crash_model.specs.Script.{Reads, Skipped}
use Rattle.script_text.proofs.Steps.{some_left, part_refused, read_skipped, read_said}
use Rattle.script_text.proofs.script.read_steps.Goals as goal
use Rattle.script_text.proofs.script.read_steps.Goals.{in-Ok-Skipped, in-Ok-Says+in_ok-push-in-Ok-Says}

pub returns-in-Err-clause-refused : goal.returns-in-Err-clause-refused
returns-in-Err-clause-refused g c memory =
    let some = some_left c.loop-rest.rest.now c.is_empty.result c.is_empty.ensures c.loop-rest-test.true in
    part_refused c.args.bytes.now c.args.first c.loop-rest.steps.items c.loop-rest.line c.loop-rest.rest.now
    _ _ c.in-Err.fault c.at.result c.loop-rest.invariant some c.first_line.ensures c.in-Err.ensures c.at.ensures

pub loop-rest-preserved : goal.loop-rest-preserved
loop-rest-preserved g c =
    let some = some_left c.loop-rest.rest.now c.is_empty.result c.is_empty.ensures c.loop-rest-test.true in
    elim c.match-read_line-2.branch [
      | in-Ok-Skipped w ↦
          let skipped : Reads c.first_line.result.0.now Skipped = search rules in
          rw w.steps-is (read_skipped _ _ _ _ c.loop-rest.rest.now _ _ c.loop-rest.invariant some c.first_line.ensures
          skipped)
      | in-Ok-Says+in_ok-push-in-Ok-Says w ↦
          rw (w.steps-is, w.in_ok-push-in-Ok-Says.ensures.items)
          (read_said _ _ _ _ c.loop-rest.rest.now _ _ _ c.loop-rest.invariant some c.first_line.ensures
          (search rules))
    ]
