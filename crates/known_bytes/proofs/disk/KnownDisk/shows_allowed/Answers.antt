use Rattle.crash_model.specs.Patches.{image_of}
use Rattle.known_bytes.specs.Reading.{disk_of}
use Rattle.known_bytes.proofs.WhatIsShown.{so_of_path}
use Rattle.known_bytes.proofs.disk.KnownDisk.shows_allowed.Goals as goal

pub returns : goal.returns
returns g c = λ allowed set m.
    let r = c.args.self.now in
    let ends = c.ends_of_path-ends.result in
    so_of_path (λ shown. g.S.Showing.excuses c.args.showing.now shown)
    (disk_of r (image_of r.family.base r.family.patches set)) c.args.path.now ends.inodes ends.nowhere
    (c.nothing_allowed.ensures c.if-not-nothing_allowed.false)
    (λ inode is. c.inodes_allowed.ensures allowed inode is set m) (c.ends_of_path-ends.ensures.ends set m)
