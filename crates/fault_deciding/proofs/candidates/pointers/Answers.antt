use Rattle.std.proofs.Common.{ℕ, ◌+◌, ap, ◌∙◌}
use Rattle.fault_deciding.proofs.Found.{pointer_value}
use Rattle.fault_deciding.proofs.candidates.pointers.Goals as goal

pub returns : goal.returns
returns g c = pointer_value c.possible.result.low c.possible.result.high c.args.inode c.args.slot c.from.result
    c.from-at.result c.args.bytes.now (c.from.ensures ∙ c.inode_place-block.ensures.block)
    (c.from-at.ensures ∙ ap (λ (n : ℕ). n + 4 + c.args.slot) c.inode_place-block.ensures.offset)
    c.possible.ensures.replayed
