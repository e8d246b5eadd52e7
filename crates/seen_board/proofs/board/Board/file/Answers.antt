use Rattle.std.proofs.Common.{rules, refl, arith, sym, ap, ◌≡◌, ◌∙◌, ℕ, get_or}
use Rattle.atomic_table.specs.Table.{Me}
use Rattle.board_rule.specs.Layout.{slot}
use Rattle.board_rule.specs.declared.view.View.{View}
use Rattle.board_rule.proofs.IndexSteps.{reads_mark, files}
use Rattle.seen_board.proofs.board.Board.file.Goals as goal

pub load-requires : goal.load-requires
load-requires g c = (search rules, search rules, reads_mark _ _ _ _ _ _ _ (search rules) (search rules))

pub store-requires : goal.store-requires
store-requires g c = let same = c.load.ensures.2.0 ∙ c.loop-t.invariant.same in
    let key : c.self.inside.table.shared.key.places ≡ c.args.self.now.places = search rules in
    let inside : c.self.inside.layout.places ≡ c.args.self.now.places = search rules in
    let informed : c.loop-t.seat.me.0.places ≡ c.self.inside.layout.places = search rules in
    let held : c.loop-t.seat.me.0.rows.held ≡ c.args.probe.shard = search rules in
    let mark = (c.load.ensures.2.1 c.slot-slot.result (omega (arith, informed, held, c.mark-address.ensures))
    (omega (arith, informed, c.slot-slot.ensures.below))).0 in
    let empty : get_or c.args.seat.now.me.0.rows.marks c.slot-slot.result 0 ≡ 0 =
    ap (λ (m : Me Unit View). get_or m.0.rows.marks c.slot-slot.result 0) (sym c.loop-t.invariant.same) ∙ sym mark
    ∙ c.if-load-eq0.true in (
      search rules,
      omega (arith, c.self.invariant.0, c.slot-slot.ensures.below, c.requires.writes.0, c.mark-address.ensures),
      rw same (rw key (files _ _ _ _ _ _ _ c.args.probe.shard c.args.at c.loop-t.t c.slot-slot.result c.args.probe.word
          _ c.requires.writes.1 c.requires.owes.3
          (c.slot-slot.ensures.slot ∙ ap (λ (l : ℕ). slot l c.args.probe.word c.loop-t.t) inside)
          (omega (arith, inside, c.mark-address.ensures)) refl c.requires.writes.2 c.requires.owes.0
          c.requires.owes.2 c.loop-t.invariant.full empty)),
    )

pub returns-clause-rest : goal.returns-clause-rest
returns-clause-rest g c = rw c.loop-t.invariant.same refl
