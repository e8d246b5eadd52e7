use Rattle.std.specs.Prelude.{◌==◌}
use Rattle.crash_model.specs.Layout.{kind_of, pointer_of}
use Rattle.known_bytes.proofs.disk.KnownDisk.is_bare.Goals as goal

pub returns : goal.returns
returns g c = c.both.ensures c.args.self.now (λ d. kind_of d c.args.inode == 2) (λ d. pointer_of d c.args.inode 0 == 0)
    c.kind_is.ensures c.pointer_is.ensures
