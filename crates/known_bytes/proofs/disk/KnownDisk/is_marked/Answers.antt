use Rattle.std.proofs.Common.{ℕ, ◌&&◌, ◌||◌, subst}
use Rattle.std.specs.Prelude.{◌==◌}
use Rattle.crash_model.specs.Disk.{byte}
use Rattle.crash_model.specs.Layout.{kind_of, is_owned}
use Rattle.known_bytes.specs.Reading.{IsKnown}
use Rattle.known_bytes.proofs.disk.KnownDisk.is_marked.Goals as goal

pub returns : goal.returns
returns g c =
    let r = c.args.self.now in
    let inode = c.args.inode in
    let block = c.args.block in
    let at = c.from-at.ensures in
    let file = subst (λ (n : ℕ). IsKnown r (λ d. byte d n 0 == 0x46) c.byte_is.result) at c.byte_is.ensures in
    let dir = subst (λ (n : ℕ). IsKnown r (λ d. byte d n 0 == 0x44) c.byte_is-2.result) at c.byte_is-2.ensures in
    c.both.ensures r (λ d. (kind_of d inode == 1 && byte d block 0 == 0x46) ||
    (kind_of d inode == 2 && byte d block 0 == 0x44))
    (λ d. is_owned d block inode)
    (c.either.ensures r (λ d. kind_of d inode == 1 && byte d block 0 == 0x46)
    (λ d. kind_of d inode == 2 && byte d block 0 == 0x44)
    (c.both-is_file.ensures r (λ d. kind_of d inode == 1) (λ d. byte d block 0 == 0x46) c.kind_is.ensures file)
    (c.both-is_directory.ensures r (λ d. kind_of d inode == 2) (λ d. byte d block 0 == 0x44) c.kind_is-2.ensures dir))
    c.is_owned.ensures
