use Rattle.std.proofs.Common.{arith}
use Rattle.order_modules.proofs.Adding.{transaction_room, room_for_copies, room_for_commit, room_in_place}
use Rattle.order_modules.proofs.Adding.{room_for_done}
use Rattle.order_modules.proofs.log.PatchLog.emit_transaction.Goals as goal

pub emit_file_data-requires-clause-room : goal.emit_file_data-requires-clause-room
emit_file_data-requires-clause-room g c = omega (
  arith,
  c.requires.room,
  transaction_room c.args.self.now.kind c.args.changes.now,
)

pub emit_copies-requires-clause-room : goal.emit_copies-requires-clause-room
emit_copies-requires-clause-room g c = room_for_copies _ _ c.args.changes.now c.args.targets.now _ c.requires.room
    c.in_ok-emit_file_data.ensures.ok

pub emit_commit-requires-clause-room : goal.emit_commit-requires-clause-room
emit_commit-requires-clause-room g c = room_for_commit _ _ c.args.changes.now c.args.targets.now _ c.requires.room
    c.in_ok-emit_file_data.ensures.ok _ c.args.after.now _ _ _ c.in_ok-emit_copies.ensures.ok

pub emit_in_place-requires-clause-room : goal.emit_in_place-requires-clause-room
emit_in_place-requires-clause-room g c = room_in_place _ _ c.args.changes.now c.args.targets.now _ c.requires.room
    c.in_ok-emit_file_data.ensures.ok _ c.args.after.now _ _ _ c.in_ok-emit_copies.ensures.ok _ _
    c.in_ok-emit_commit.ensures.ok

pub emit_done-requires-clause-room : goal.emit_done-requires-clause-room
emit_done-requires-clause-room g c = room_for_done _ _ c.args.changes.now c.args.targets.now _ c.requires.room
    c.in_ok-emit_file_data.ensures.ok _ c.args.after.now _ _ _ c.in_ok-emit_copies.ensures.ok _ _
    c.in_ok-emit_commit.ensures.ok
    _ _ c.in_ok-emit_in_place.ensures.ok
