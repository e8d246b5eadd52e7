use Rattle.std.proofs.Common.{ap, sym, ◌∙◌}
use Rattle.crash_model.specs.Disk.{Disk}
use Rattle.crash_model.specs.Patches.{image_of}
use Rattle.crash_image.specs.Moves.{Applied}
use Rattle.crash_image.proofs.Moved.{without_patches-shape}
use Rattle.crash_image.proofs.Applied.{fits_image, fits_again, moved, moved_base}
use Rattle.crash_image.proofs.mover.Mover.move_to.Goals as goal

pub undo-requires-clause-fits : goal.undo-requires-clause-fits
undo-requires-clause-fits g c = fits_image c.self.inside.image c.self.inside.graph.now c.self.inside.set
    c.self.invariant.over.fits

pub redo-requires-clause-fits : goal.redo-requires-clause-fits
redo-requires-clause-fits g c =
    fits_again c.self.inside.image.blocks c.undo.new.image.blocks c.self.inside.graph.now
    (sym (ap (λ (d : Disk). d.blocks) c.undo.ensures ∙ (without_patches-shape 0 c.self.inside.image
    c.self.inside.graph.now c.difference.result).blocks))
    (fits_image c.self.inside.image c.self.inside.graph.now c.self.inside.set c.self.invariant.over.fits)

pub invariant_of-self : goal.invariant_of-self
invariant_of-self g c =
    moved c.self.inside.image c.redo.new.image c.self.inside.graph.now c.self.inside.set c.args.set c.difference.result
    c.difference-2.result
    c.self.invariant (rw (← c.self.view_is) at c.requires) c.difference.ensures c.difference-2.ensures
    (c.redo.ensures ∙ ap (λ (d : Disk). image_of d c.self.inside.graph.now c.difference-2.result) c.undo.ensures)

pub returns : goal.returns
returns g c =
    moved_base c.self.inside.image c.redo.new.image c.self.inside.graph.now c.self.inside.set c.args.set
    c.difference.result c.difference-2.result
    c.self.invariant (rw (← c.self.view_is) at c.requires) c.difference.ensures c.difference-2.ensures
    (c.redo.ensures ∙ ap (λ (d : Disk). image_of d c.self.inside.graph.now c.difference-2.result) c.undo.ensures)
    ∙ ap (λ (a : Applied). record a { set = c.args.set }) c.self.view_is
