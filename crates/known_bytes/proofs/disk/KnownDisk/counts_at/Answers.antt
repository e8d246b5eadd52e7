use Rattle.std.proofs.Common.{ℕ, ◌&&◌, subst}
use Rattle.std.specs.Prelude.{◌==◌}
use Rattle.crash_model.specs.Disk.{byte}
use Rattle.crash_model.specs.Layout.{kind_of, pointer_of, is_owned}
use Rattle.known_bytes.specs.Reading.{IsKnown}
use Rattle.known_bytes.proofs.disk.KnownDisk.counts_at.Goals as goal

pub returns : goal.returns
returns g c =
    let r = c.args.self.now in
    let dir = c.args.dir in
    let block = c.args.block in
    let mark = subst (λ (n : ℕ). IsKnown r (λ d. byte d n 0 == 0x44) c.byte_is.result) c.from-at.ensures
    c.byte_is.ensures in
    c.both.ensures r (λ d. kind_of d dir == 2 && pointer_of d dir 0 == block)
    (λ d. byte d block 0 == 0x44 && is_owned d block dir)
    (c.both-is_directory.ensures r (λ d. kind_of d dir == 2) (λ d. pointer_of d dir 0 == block) c.kind_is.ensures
    c.pointer_is.ensures)
    (c.both-is_marked.ensures r (λ d. byte d block 0 == 0x44) (λ d. is_owned d block dir) mark c.is_owned.ensures)
