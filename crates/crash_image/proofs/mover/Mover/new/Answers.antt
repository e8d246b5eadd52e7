use Rattle.crash_image.proofs.Applied.{started, started_base}
use Rattle.crash_image.proofs.mover.Mover.new.Goals as goal

pub invariant_of-result : goal.invariant_of-result
invariant_of-result g c = started c.args.base c.args.graph.now
    record {
      disk = c.blocks-blocks.ensures.disk;
      graph = c.len-len.ensures.kept;
      fits = c.requires.fits;
      undo = c.requires.undo;
    }

pub returns : goal.returns
returns g c = started_base c.args.base c.args.graph.now
