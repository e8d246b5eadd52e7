use Rattle.std.proofs.Common.{ap, sym, ◌∙◌}
use Rattle.crash_image.specs.Moves.{Applied}
use Rattle.crash_image.proofs.Moved.{without_patches-shape}
use Rattle.crash_image.proofs.mover.Mover.replayed.Goals as goal

pub copy_from-requires : goal.copy_from-requires
copy_from-requires g c =
    sym (without_patches-shape 0 c.self.inside.image c.self.inside.graph.now c.self.inside.set).blocks
    ∙ ap (λ (a : Applied). a.base.blocks) c.self.view_is
    ∙ sym c.requires
