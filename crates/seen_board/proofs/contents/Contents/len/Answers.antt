use Rattle.std.proofs.Common.{sym, ap, ◌∙◌, ℕ, length, get_or}
use Rattle.std.specs.Mem.Slots.{slots_items}
use Rattle.board_rule.specs.Lists.{row_of}
use Rattle.seen_board.specs.Ended.{Ended}
use Rattle.seen_board.proofs.Endings.{found, row_length}
use Rattle.seen_board.proofs.contents.Contents.len.Goals as goal

pub returns : goal.returns
returns g c = let words = slots_items c.self.inside.closed.words in
    sym (found words _ _ c.word.ensures) ∙ ap (λ (i : ℕ). get_or words i 0) c.length.ensures
    ∙ sym (row_length c.self.inside.layout.places words c.args.shard c.requires)
    ∙ ap (λ (x : Ended). length (row_of x.rows c.args.shard)) c.self.view_is
