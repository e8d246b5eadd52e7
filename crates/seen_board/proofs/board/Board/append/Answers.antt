use Rattle.std.proofs.Common.{rules, arith, ap, sym, ◌∙◌, ◌≡◌, ℕ, length}
use mathlib.Core.Logic.{dite}
use native.Mathlib.Decide.{dec_le}
use Rattle.board_rule.specs.Lists.{row_of}
use Rattle.board_rule.specs.Changes.{with_entry}
use Rattle.board_rule.specs.declared.view.View.{View}
use Rattle.board_rule.proofs.LockSteps.{gives}
use Rattle.board_rule.proofs.CounterSteps.{counts_it}
use Rattle.seen_board.specs.Inserts.{Filed}
use Rattle.seen_board.proofs.AfterInserts.{entry_there, append_is}
use Rattle.seen_board.proofs.board.Board.append.Goals as goal

pub file-requires-clause-owes : goal.file-requires-clause-owes
file-requires-clause-owes g c = let t = entry_there c.args.seat.now.me.0 c.args.probe.word c.args.probe.shard c.args.at
    c.requires.writes.1 c.requires.writes.0 c.requires.rest.0 c.requires.room.0 in
    let here : length (row_of c.args.seat.now.me.0.rows.seen c.args.seat.now.me.0.rows.held) ≡ c.args.at =
    ap (λ (q : ℕ). length (row_of c.args.seat.now.me.0.rows.seen q)) c.requires.writes.1 ∙ sym c.requires.room.0 in
    rw c.publish.ensures.view (omega (arith, here), c.requires.room.1, t.0, t.1)

pub store-requires : goal.store-requires
store-requires g c = let filed : Filed (with_entry c.args.seat.now.me.0 c.args.probe.word) c.file.new.seat.me.0 =
    rw c.publish.ensures.view at c.file.ensures.rest in let key : c.self.inside.table.shared.key.places
    ≡ c.args.self.now.places = search rules in (
      search rules,
      search rules,
      gives _ _ _ _ _ _ _ (omega
          (arith, ap (λ (v : View). v.rows.held) filed, c.requires.writes.1, c.lock.ensures))
          (ap (λ (v : View). v.places) filed ∙ c.requires.seat.2 ∙ sym key)
          (ap (λ (v : View). v.rows.right) filed ∙ c.requires.writes.2) (ap (λ (v : View). v.pending.announced) filed)
          c.file.ensures.paid,
    )

pub fetch_add-requires : goal.fetch_add-requires
fetch_add-requires g c = let filed : Filed (with_entry c.args.seat.now.me.0 c.args.probe.word) c.file.new.seat.me.0 =
    rw c.publish.ensures.view at c.file.ensures.rest in let key : c.self.inside.table.shared.key.limit
    ≡ c.args.self.now.limit = search rules in (
      search rules,
      search rules,
      counts_it _ _ _ _ _ _ (search rules)
          (rw c.store.ensures.2 (ap (λ (v : View). v.limit) filed ∙ c.requires.seat.1 ∙ sym key))
          (rw c.store.ensures.2 (omega (arith, ap (λ (v : View). v.count.uncounted) filed, c.requires.rest.3))),
    )

pub returns-clause-view : goal.returns-clause-view
returns-clause-view g c = let filed : Filed (with_entry c.args.seat.now.me.0 c.args.probe.word) c.file.new.seat.me.0 =
    rw c.publish.ensures.view at c.file.ensures.rest in
    dite (dec_le c.store.new.seat.me.0.limit c.fetch_add.result)
    (λ past. append_is c.args.seat.now.me.0 c.args.probe.word c.file.new.seat.me.0 c.fetch_add.new.seat.me.0 1 filed
    (rw c.store.ensures.2 at (c.fetch_add.ensures.2.2 past)))
    (λ within. append_is c.args.seat.now.me.0 c.args.probe.word c.file.new.seat.me.0 c.fetch_add.new.seat.me.0
    c.file.new.seat.me.0.count.over filed (rw c.store.ensures.2
    at (c.fetch_add.ensures.2.1 (omega (arith, within)))))
