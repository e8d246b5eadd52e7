use Rattle.std.proofs.Common.{◌∙◌}
use Rattle.fault_deciding.proofs.Found.{links_value}
use Rattle.fault_deciding.proofs.candidates.link_counts.Goals as goal

pub returns : goal.returns
returns g c = links_value c.possible.result.low c.possible.result.high c.args.inode c.from.result c.from-2.result
    c.args.bytes.now (c.from.ensures ∙ c.inode_place-block.ensures.block)
    (c.from-2.ensures ∙ c.inode_place-block.ensures.offset)
    c.possible.ensures.replayed
