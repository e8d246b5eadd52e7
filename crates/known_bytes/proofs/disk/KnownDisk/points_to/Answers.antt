use Rattle.std.specs.Prelude.{◌==◌}
use Rattle.crash_model.specs.Layout.{pointer_of, is_live}
use Rattle.known_bytes.proofs.disk.KnownDisk.points_to.Goals as goal

pub returns : goal.returns
returns g c = c.both.ensures c.args.self.now (λ d. pointer_of d c.args.inode c.args.slot == c.args.block)
    (λ d. is_live d c.args.inode) c.pointer_is.ensures c.is_live.ensures
