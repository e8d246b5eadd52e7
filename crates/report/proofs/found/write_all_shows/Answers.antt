use Rattle.std.proofs.Common.{take_all}
use Rattle.report.specs.FaultsJson.{shows_json}
use Rattle.report.proofs.Adding.{all_written, ends, keyed, no_fields, token}
use Rattle.report.proofs.found.write_all_shows.Goals as goal

pub returns-then-not-listed : goal.returns-then-not-listed
returns-then-not-listed c = rw c.if-not-listed.true no_fields

pub returns : goal.returns
returns c = ends c.end_array.result c.end_array.ensures.ok (λ last. rw c.if-not-listed.false (keyed
    c.in_ok-write_key.ensures (all_written shows_json c.args.found.now
    (token {b = c.begin_array.new.self} c.in_ok-begin_array.ensures.ok c.begin_array.ensures.room.0)
    (rw (take_all c.loop-one.one-index c.args.found.now c.loop-one-test.false) at c.loop-one.invariant)
    (token {b = c.end_array.new.self} last c.end_array.ensures.room.0))))
