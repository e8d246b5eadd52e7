use Rattle.std.proofs.Common.{◌≡◌, Bool, subst}
use Rattle.std.specs.Prelude.{◌==◌}
use Rattle.crash_model.specs.Layout.{kind_of}
use Rattle.known_bytes.specs.Reading.{InEachDisk}
use Rattle.known_bytes.proofs.Named.{reached_none}
use Rattle.known_bytes.proofs.disk.KnownDisk.is_reached.Goals as goal

pub returns-then-not-is_root : goal.returns-then-not-is_root
returns-then-not-is_root g c = reached_none c.args.self.now c.args.inode
    (subst (λ (b : Bool). InEachDisk c.args.self.now (λ d. (kind_of d 0 == 2) ≡ b)) c.if-not-is_root.true
    c.in_ok-is_root.ensures)
